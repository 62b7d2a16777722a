use Rattle.std.proofs.Common.{◌≡◌, ◌≤◌, ◌^◌}
use Rattle.mr_values.specs.Timing.{plus_terms, greatest_below}
use Rattle.plan_check.proofs.terms.greatest_positive_terms.Given as goal

abbrev pub invariant-loop-phase : goal.invariant-loop-phase
invariant-loop-phase l = record {
  so_far : l.most ≡ greatest_below plus_terms l.up l.phase l.taps;
  small : l.most ≤ 2 ^ 18;
}
