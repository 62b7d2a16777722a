use Rattle.std.proofs.Common.{◌≡◌, ℕ, ◌*◌, ◌%◌, ◌<◌, ◌≤◌}
use Rattle.polyphase_fir.proofs.phases.round_of.Given as goal

-- fewer are no round
abbrev pub invariant-loop-count : goal.invariant-loop-count
invariant-loop-count l = (fewer : ℕ) → 1 ≤ fewer → fewer < l.count → fewer * l.rates.down % l.rates.up ≡ 0 → ⊥
