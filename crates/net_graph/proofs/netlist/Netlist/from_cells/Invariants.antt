use Rattle.std.proofs.Common.{◌≡◌, ℕ, ◌<◌, slice_get, Some, IsSome}
use Rattle.net_graph.specs.declared.cell.Cell.{Cell}
use Rattle.net_graph.proofs.netlist.Netlist.from_cells.Given as goal

abbrev pub invariant-loop-id : goal.invariant-loop-id
invariant-loop-id l = (place : ℕ) (cell : Cell) → place < l.id → slice_get l.cell-items place ≡ Some cell → IsSome cell.item
