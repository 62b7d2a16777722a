use Rattle.std.proofs.Common.{◌≡◌, ◌++◌, length}
use Rattle.fir_pieces.specs.Columns.{parts_of}
use Rattle.fir_pieces.specs.Peaks.{all_peaks_at}
use Rattle.fir_pieces.proofs.peaks.push_all_peaks.Given as goal

-- the peaks of the registers so far
abbrev pub invariant-loop-own : goal.invariant-loop-own
invariant-loop-own l = record {
  peaks : l.peaks.items ≡ l.fn.peaks.items ++ all_peaks_at (parts_of l.yielded) l.registers;
  count : l.index ≡ length l.yielded;
  left : l.yielded ++ l.own-iterator.rest.items ≡ l.fn.held.items;
}
