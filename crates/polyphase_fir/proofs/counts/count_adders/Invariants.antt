use Rattle.std.proofs.Common.{◌≡◌, ◌≤◌, ◌*◌, ◌^◌}
use Rattle.polyphase_fir.specs.Facts.{adders_below}
use Rattle.polyphase_fir.proofs.counts.count_adders.Given as goal

abbrev pub invariant-loop-phase : goal.invariant-loop-phase
invariant-loop-phase l = record {
  so_far : l.adders ≡ adders_below l.up l.taps l.phase;
  small : l.adders ≤ 2 ^ 18 * l.phase;
}
