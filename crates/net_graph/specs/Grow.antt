-- What one call adds to a net, and what a longer net keeps.
use Rattle.std.specs.Prelude.{◌≡◌, ℕ, ◌<◌, ◌≤◌, ◌⊎◌, ℤ, false, List, [], ◌∷◌, ◌++◌, length, Some, None, slice_get, slice_set, IsSome}
use Rattle.net_graph.specs.declared.cell.Cell.{Cell}
use Rattle.net_graph.specs.declared.cell.Node.{Node}
use Rattle.net_graph.specs.declared.cell.Item.{Item}
use Rattle.net_graph.specs.declared.cell.Item.TheVariants.{Register}
use Rattle.net_graph.specs.declared.name.Name.{Name}
use Rattle.net_graph.specs.declared.name.NameKind.TheVariants.{Control}
use Rattle.net_graph.specs.Cells.{NetView, cell_at}
use Rattle.net_graph.specs.Name.{is_control, is_input}
use Rattle.net_graph.specs.Cut.{Cut, IsCut}
use Rattle.net_graph.specs.Run.{Values, IsRun}
use Rattle.net_graph.specs.WellFormed.{IsBound}
use Rattle.net_graph.specs.Control.{IsControlClosed}

-- the new net has one more node, which has no name and computes this item
pub record Adds (old new : NetView) (node : Node) (width : ℕ) (item : Item) : Type 0 where
  pub place : node.place ≡ length old.cells
  pub cells : new.cells ≡ old.cells ++ record { group = old.group; name = None; width = width; item = Some item } ∷ []
  pub group : new.group ≡ old.group

-- the new net has one more register, whose next is still to be bound
pub record AddsRegister (old new : NetView) (node : Node) (name : Name) (width : ℕ) : Type 0 where
  pub place : node.place ≡ length old.cells
  pub cells : new.cells ≡ old.cells ++ record { group = old.group; name = Some name; width = width; item = None } ∷ []
  pub group : new.group ≡ old.group

-- the node is a register whose next is still to be bound
pub record IsUnbound (cells : List Cell) (register : Node) : Type 0 where
  pub inside : register.place < length cells
  pub nextless : (cell_at cells register.place).item ≡ None

-- a cell with its next
abbrev pub bound_to : Cell → Node → Cell
bound_to cell next = record { group = cell.group; name = cell.name; width = cell.width; item = Some (Register next) }

-- in the new net that register's next is bound, and else nothing is changed
pub record IsBoundTo (old new : NetView) (register next : Node) : Type 0 where
  pub cells : new.cells ≡ slice_set old.cells register.place (bound_to (cell_at old.cells register.place) next)
  pub group : new.group ≡ old.group

-- a cell with this name
abbrev pub named_as : Cell → Name → Cell
named_as cell name = record { group = cell.group; name = Some name; width = cell.width; item = cell.item }

-- in the new net that node has this name, and else nothing is changed
pub record IsNamedAs (old new : NetView) (node : Node) (name : Name) : Type 0 where
  pub cells : new.cells ≡ slice_set old.cells node.place (named_as (cell_at old.cells node.place) name)
  pub group : new.group ≡ old.group

-- the cell at this place is this one, but for a name or a next that it had not yet
pub record IsKept (cells : List Cell) (place : ℕ) (old : Cell) : Type 0 where
  pub cell : Cell
  pub there : slice_get cells place ≡ Some cell
  pub group : cell.group ≡ old.group
  pub width : cell.width ≡ old.width
  pub control : is_control cell ≡ is_control old
  pub input : is_input cell.item ≡ is_input old.item
  pub item : IsSome old.item → cell.item ≡ old.item
  pub name : IsSome old.name → cell.name ≡ old.name

-- the new net has the nodes of the old, and its runs, cut in whichever way, are runs of the old
pub record Extends (old new : List Cell) : Type 0 where
  pub longer : length old ≤ length new
  pub runs : (cut : Cut) → IsCut cut → (inputs : ℕ → ℤ) (values : Values) → IsRun cut new inputs values → IsRun cut old inputs values
  pub keeps : (place : ℕ) (cell : Cell) → slice_get old place ≡ Some cell → IsKept new place cell

-- a node that a stage of this group adds: it is of control or of the group, and no input
pub record IsAdded (group : ℕ) (cell : Cell) : Type 0 where
  pub of_group : (cell.group ≡ 0) ⊎ (cell.group ≡ group)
  pub no_input : is_input cell.item ≡ false

-- The new net has more nodes than the old, of its group or of control. Its registers have their nexts if the old net's had, and its
-- control nodes read control nodes alone if those of the old net did.
pub record Lengthens (old new : NetView) : Type 0 where
  pub extends : Extends old.cells new.cells
  pub group : new.group ≡ old.group
  pub bound : IsBound old.cells → IsBound new.cells
  pub closed : IsControlClosed old.cells → IsControlClosed new.cells
  pub added : (place : ℕ) (cell : Cell) → length old.cells ≤ place → slice_get new.cells place ≡ Some cell → IsAdded old.group cell

-- the name is of this group; where that is group 0, it is a name of control
pub record IsNamedIn (group : ℕ) (name : Name) : Type 0 where
  pub own : name.group ≡ group
  pub control : group ≡ 0 → name.kind ≡ Control

-- the node's name, where it has one, is of the node's group
pub record HasOwnName (cell : Cell) : Type 0 where
  pub named : (name : Name) → cell.name ≡ Some name → IsNamedIn cell.group name

-- so it is with each node from this place on
pub record HaveOwnNames (first : ℕ) (cells : List Cell) : Type 0 where
  pub each : (place : ℕ) (cell : Cell) → first ≤ place → slice_get cells place ≡ Some cell → HasOwnName cell

-- each cell of the old net stands unchanged in the new
pub record KeepsCells (old new : List Cell) : Type 0 where
  pub each : (place : ℕ) (cell : Cell) → slice_get old place ≡ Some cell → slice_get new place ≡ Some cell

-- So does what a stage adds, and more: where each register of the old net had its next, each of its nodes is as it was, its name included,
-- and each node that is added has a name of its own group, if any.
pub record Grows (old new : NetView) : Type 0 where
  pub extends : Extends old.cells new.cells
  pub group : new.group ≡ old.group
  pub bound : IsBound old.cells → IsBound new.cells
  pub closed : IsControlClosed old.cells → IsControlClosed new.cells
  pub added : (place : ℕ) (cell : Cell) → length old.cells ≤ place → slice_get new.cells place ≡ Some cell → IsAdded old.group cell
  pub kept : IsBound old.cells → KeepsCells old.cells new.cells
  pub named : IsBound old.cells → HaveOwnNames (length old.cells) new.cells
