use Rattle.std.proofs.Common.{ℕ, ◌^◌, ◌<◌, ◌≤◌}
use Rattle.pipeline_balance.proofs.gates.bits_for.Given as goal

-- fewer bits are too few
abbrev pub invariant-loop-bits : goal.invariant-loop-bits
invariant-loop-bits l = (fewer : ℕ) → 1 ≤ fewer → fewer < l.bits → l.last < 2 ^ fewer → ⊥
