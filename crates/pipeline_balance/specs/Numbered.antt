-- Registers with the next free numbers.
use Rattle.std.specs.Prelude.{◌≡◌, ℕ, ◌<◌, ◌≤◌, ◌⊎◌, List, Some, slice_get}
use Rattle.net_graph.specs.declared.cell.Cell.{Cell}
use Rattle.net_graph.specs.declared.cell.Node.{Node}
use Rattle.net_graph.specs.declared.cell.Item.TheVariants.{Register}
use Rattle.net_graph.specs.declared.name.Name.{Name}
use Rattle.net_graph.specs.declared.name.NameKind.{NameKind}
use Rattle.net_graph.specs.declared.name.NameKind.TheVariants.{Control}
use Rattle.net_graph.specs.Cells.{NetView}
use Rattle.net_graph.specs.WellFormed.{IsFree, IsLeastFree}
use Rattle.net_graph.specs.Grow.{AddsRegister}

-- the node at this place is a register of this group, name and width, and has its next
pub record IsRegister (cells : List Cell) (place group : ℕ) (name : Name) (width : ℕ) : Type 0 where
  pub cell : Cell
  pub there : slice_get cells place ≡ Some cell
  pub of_group : cell.group ≡ group
  pub named : cell.name ≡ Some name
  pub wide : cell.width ≡ width
  pub registered : (next : Node) × (cell.item ≡ Some (Register next))

-- the name of this group, kind and number
abbrev pub name_of : ℕ → NameKind → ℕ → Name
name_of group kind number = record { group = group; kind = kind; number = number }

-- the new net has one more register, with the least free number of its group and kind
pub record AddsNext (old new : NetView) (group : ℕ) (kind : NameKind) (width : ℕ) (node : Node) : Type 0 where
  pub number : ℕ
  pub least : IsLeastFree old.cells group kind number
  pub adds : AddsRegister old new node (name_of group kind number) width

-- the names of this group and kind have the numbers below this one
pub record IsCounted (cells : List Cell) (group : ℕ) (kind : NameKind) (count : ℕ) : Type 0 where
  pub used : (number : ℕ) → number < count → IsFree cells (name_of group kind number) → ⊥
  pub free : (number : ℕ) → count ≤ number → IsFree cells (name_of group kind number)

-- a name of this group and kind, or one of control
abbrev pub IsTouched : ℕ → NameKind → Name → Type 0
IsTouched group kind name = ((name.group ≡ group) × (name.kind ≡ kind)) ⊎ (name.kind ≡ Control)

-- other names that were free are free in the new net
pub record LeavesFree (old new : List Cell) (touched : Name → Type 0) : Type 0 where
  pub free : (name : Name) → (touched name → ⊥) → IsFree old name → IsFree new name
