use Rattle.std.proofs.Common.{ℕ, ◌+◌, ◌<◌, ◌≤◌, length}
use Rattle.net_graph.specs.WellFormed.{IsFree}
use Rattle.net_graph.specs.Names.{numbered_from}
use Rattle.net_graph.proofs.net.Net.free_number.Given as goal

-- the lower numbers are used, and the others leave room
abbrev pub invariant-loop-number : goal.invariant-loop-number
invariant-loop-number l =
    ((lower : ℕ) → lower < l.number → IsFree l.self.cells (record { group = l.group; kind = l.kind; number = lower }) → ⊥)
    × (l.number + numbered_from l.number l.self.cells ≤ length l.self.cells)
