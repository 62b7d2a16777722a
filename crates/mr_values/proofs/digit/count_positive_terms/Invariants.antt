use Rattle.std.proofs.Common.{◌≡◌, ◌+◌, ◌*◌, ◌<◌, ◌≤◌, drop, sum_by}
use Rattle.mr_values.specs.Digit.{positive_count}
use Rattle.mr_values.specs.Sequence.{phase}
use Rattle.mr_values.proofs.digit.count_positive_terms.Given as goal

abbrev pub invariant-loop-tap : goal.invariant-loop-tap
invariant-loop-tap l = record {
  so_far : l.count + sum_by positive_count (phase l.up l.wait (drop l.tap-index l.taps)) ≡ sum_by positive_count (phase l.up l.phase l.taps);
  small : l.count ≤ 255 * l.tap-index;
  in_range : l.wait < l.up;
}
