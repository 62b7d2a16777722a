-- Of which groups the nodes of a plan's net are.
use Rattle.std.specs.Prelude.{◌≡◌, ℕ, ◌<◌, ◌≤◌, List, Some, slice_get}
use Rattle.net_graph.specs.declared.cell.Cell.{Cell}
use Rattle.net_graph.specs.declared.name.Name.{Name}
use Rattle.net_graph.specs.declared.name.NameKind.TheVariants.{Control}
use Rattle.net_graph.specs.Cells.{NetView}
use Rattle.net_graph.specs.WellFormed.{IsFree}

-- each node and each name is of control, which is group 0, or of one of so many groups
pub record AreGrouped (count : ℕ) (cells : List Cell) : Type 0 where
  pub nodes : (place : ℕ) (cell : Cell) → slice_get cells place ≡ Some cell → cell.group ≤ count
  pub names : (place : ℕ) (cell : Cell) (name : Name) → slice_get cells place ≡ Some cell → cell.name ≡ Some name → name.group ≤ count

-- so far each node is of control or of one of so many groups, and so is the next; of names of later groups none is taken
pub record IsGroupedTo (count : ℕ) (net : NetView) : Type 0 where
  pub nodes : (place : ℕ) (cell : Cell) → slice_get net.cells place ≡ Some cell → cell.group ≤ count
  pub free : (name : Name) → (name.kind ≡ Control → ⊥) → count < name.group → IsFree net.cells name
  pub own : net.group ≤ count
