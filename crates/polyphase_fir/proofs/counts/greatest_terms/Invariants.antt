use Rattle.std.proofs.Common.{◌≡◌, ◌≤◌, ◌^◌}
use Rattle.mr_values.specs.Timing.{terms, greatest_below}
use Rattle.polyphase_fir.proofs.counts.greatest_terms.Given as goal

abbrev pub invariant-loop-phase : goal.invariant-loop-phase
invariant-loop-phase l = record {
  so_far : l.most ≡ greatest_below terms l.up l.phase l.taps;
  small : l.most ≤ 2 ^ 18;
}
