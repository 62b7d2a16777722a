use Rattle.std.proofs.Common.{◌≡◌}
use Rattle.fir_pieces.specs.Peaks.{widest_peak}
use Rattle.fir_pieces.proofs.peaks.push_widest.Given as goal

-- the peak is among what is left
abbrev pub invariant-loop-own : goal.invariant-loop-own
invariant-loop-own l = record {
  peaks : l.peaks.items ≡ l.fn.peaks.items;
  left : widest_peak l.register l.width l.own-iterator.rest.items ≡ widest_peak l.fn.register l.fn.held.width l.fn.held.sums.items;
}
