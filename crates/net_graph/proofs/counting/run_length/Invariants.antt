use Rattle.std.proofs.Common.{ℕ, ◌+◌, ◌<◌, ◌≤◌, length}
use Rattle.net_graph.specs.WellFormed.{IsFree}
use Rattle.net_graph.specs.Names.{numbered_from}
use Rattle.net_graph.proofs.counting.run_length.Given as goal

-- the lower numbers are used, and the others leave room
abbrev pub invariant-loop-cell : goal.invariant-loop-cell
invariant-loop-cell l =
    ((lower : ℕ) → lower < l.number → IsFree l.cells (record { group = l.group; kind = l.kind; number = lower }) → ⊥)
    × (l.number + numbered_from l.number l.cells ≤ length l.cells)
