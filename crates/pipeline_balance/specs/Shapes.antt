-- What the nodes of a linear group compute: sums and differences, shifts up, and choices by control.
use Rattle.std.specs.Prelude.{◌≡◌, ℕ, ◌≤◌, List, Option, Some, None, slice_get}
use Rattle.net_graph.specs.declared.cell.Cell.{Cell}
use Rattle.net_graph.specs.declared.cell.Item.{Item}
use Rattle.net_graph.specs.declared.cell.Item.TheVariants.{Input, Constant, Add, Sub, Shl, Shr, Mux, Equal, Bits, Register}
use Rattle.net_graph.specs.Control.{IsOfControl}

-- a sum, a difference, a constant, a shift up, a choice by a control node, the input or a register
abbrev pub IsLinearItem : List Cell → Option Item → Type 0
IsLinearItem cells None = Unit {0}
IsLinearItem cells (Some Input) = Unit {0}
IsLinearItem cells (Some (Constant v)) = Unit {0}
IsLinearItem cells (Some (Add a b)) = Unit {0}
IsLinearItem cells (Some (Sub a b)) = Unit {0}
IsLinearItem cells (Some (Shl a by)) = Unit {0}
IsLinearItem cells (Some (Shr a by)) = ⊥
IsLinearItem cells (Some (Mux on a b)) = IsOfControl cells on.place
IsLinearItem cells (Some (Equal a b)) = ⊥
IsLinearItem cells (Some (Bits a high low)) = ⊥
IsLinearItem cells (Some (Register next)) = Unit {0}

-- each node of the group computes such an item
pub record HasLinearItems (cells : List Cell) (group : ℕ) : Type 0 where
  pub each : (place : ℕ) (cell : Cell) → slice_get cells place ≡ Some cell → cell.group ≡ group → IsLinearItem cells cell.item

-- the new net has such nodes alone in each stage's group in which the old net had them alone
pub record KeepsShapes (old new : List Cell) : Type 0 where
  pub each : (group : ℕ) → 1 ≤ group → HasLinearItems old group → HasLinearItems new group
