use Rattle.std.proofs.Common.{◌≡◌, ◌+◌, ◌-◌, ◌*◌, ◌^◌, length, take, pos, ◌-ℤ◌}
use Rattle.mr_values.specs.Sequence.{samples, weighted_sum, up, filter_times, ones}
use Rattle.mr_values.specs.Value.{chain}
use Rattle.mr_values.proofs.value.+value.Given as goal

abbrev pub decreases-clip_at : goal.decreases-clip_at
decreases-clip_at l = length l.before.now * 2 ^ 66 + 1

abbrev pub decreases-element_at : goal.decreases-element_at
decreases-element_at l = length l.before.now * 2 ^ 66 + 2 ^ 65

abbrev pub decreases-filter_at : goal.decreases-filter_at
decreases-filter_at l = length l.before.now * 2 ^ 66 + 1

abbrev pub decreases-round_at : goal.decreases-round_at
decreases-round_at l = length l.before.now * 2 ^ 66 + 1

abbrev pub decreases-stages_at : goal.decreases-stages_at
decreases-stages_at l = length l.before.now * 2 ^ 66 + 2 + l.stages

abbrev pub decreases-up_at : goal.decreases-up_at
decreases-up_at l = length l.before.now * 2 ^ 66 + 1

abbrev pub decreases-value_at : goal.decreases-value_at
decreases-value_at l = length l.elements.now * 2 ^ 66

abbrev pub invariant-filter_at-loop-k : goal.invariant-filter_at-loop-k
invariant-filter_at-loop-k l =
    l.sum ≡ weighted_sum (take l.k l.taps) (λ i. chain l.before (samples l.xs) (l.n -ℤ pos i))

abbrev pub invariant-stages_at-loop-k : goal.invariant-stages_at-loop-k
invariant-stages_at-loop-k l =
    l.sum ≡ weighted_sum (ones l.k) (λ i. filter_times (l.stages - 1) (ones l.width) (up l.factor (chain l.before (samples l.xs))) (l.n -ℤ pos i))
