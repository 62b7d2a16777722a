use Rattle.std.proofs.Common.{◌≡◌, ℕ, ◌<◌, slice_get, Some}
use Rattle.net_graph.specs.declared.cell.Cell.{Cell}
use Rattle.net_graph.proofs.net.Net.is_free.Given as goal

abbrev pub invariant-loop-cell : goal.invariant-loop-cell
invariant-loop-cell l = (place : ℕ) (cell : Cell) → place < l.cell-index → slice_get l.self.cells place ≡ Some cell → cell.name ≡ Some l.name → ⊥
