use Rattle.std.proofs.Common.{◌≡◌, pos, take}
use Rattle.mr_values.specs.Timing.{low_end}
use Rattle.width_extreme.proofs.single.signed_sums.Given as goal

-- the sums of the weights so far
abbrev pub invariant-loop-weight : goal.invariant-loop-weight
invariant-loop-weight l = record {
  above : l.sums.above ≡ low_end (take l.weight-index l.weights) (pos 1) (pos 0);
  below : l.sums.below ≡ low_end (take l.weight-index l.weights) (pos 0) (pos 1);
}
