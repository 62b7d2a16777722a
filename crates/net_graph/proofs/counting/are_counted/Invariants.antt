use Rattle.std.proofs.Common.{◌≡◌, ℕ, ◌<◌, ◌≤◌, Some, slice_get}
use Rattle.net_graph.specs.declared.cell.Cell.{Cell}
use Rattle.net_graph.proofs.counting.are_counted.Given as goal

-- no cell so far has a name of that group and kind from that number on
abbrev pub invariant-loop-cell : goal.invariant-loop-cell
invariant-loop-cell l = (place : ℕ) (cell : Cell) → place < l.cell-index → slice_get l.cells place ≡ Some cell → (number : ℕ) → l.count ≤ number → cell.name ≡ Some (record { group = l.group; kind = l.kind; number = number }) → ⊥
