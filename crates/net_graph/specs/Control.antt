-- Control nodes read control nodes alone, so they are worth the same in all runs.
use Rattle.std.specs.Prelude.{◌≡◌, ℕ, List, Option, Some, None, slice_get, true}
use Rattle.net_graph.specs.declared.cell.Cell.{Cell}
use Rattle.net_graph.specs.declared.cell.Item.{Item}
use Rattle.net_graph.specs.declared.cell.Item.TheVariants.{Input, Constant, Add, Sub, Shl, Shr, Mux, Equal, Bits, Register}
use Rattle.net_graph.specs.Name.{is_control}

-- the node at a place is control
pub record IsOfControl (cells : List Cell) (place : ℕ) : Type 0 where
  pub cell : Cell
  pub there : slice_get cells place ≡ Some cell
  pub control : is_control cell ≡ true

-- the item reads control nodes alone
abbrev pub ReadsControl : List Cell → Option Item → Type 0
ReadsControl cells None = Unit {0}
ReadsControl cells (Some Input) = ⊥
ReadsControl cells (Some (Constant v)) = Unit {0}
ReadsControl cells (Some (Add a b)) = IsOfControl cells a.place × IsOfControl cells b.place
ReadsControl cells (Some (Sub a b)) = IsOfControl cells a.place × IsOfControl cells b.place
ReadsControl cells (Some (Shl a by)) = IsOfControl cells a.place
ReadsControl cells (Some (Shr a by)) = IsOfControl cells a.place
ReadsControl cells (Some (Mux on a b)) = IsOfControl cells on.place × IsOfControl cells a.place × IsOfControl cells b.place
ReadsControl cells (Some (Equal a b)) = IsOfControl cells a.place × IsOfControl cells b.place
ReadsControl cells (Some (Bits a high low)) = IsOfControl cells a.place
ReadsControl cells (Some (Register next)) = IsOfControl cells next.place

-- each control node reads control nodes alone
pub record IsControlClosed (cells : List Cell) : Type 0 where
  pub each : (place : ℕ) (cell : Cell) → slice_get cells place ≡ Some cell → is_control cell ≡ true → ReadsControl cells cell.item
