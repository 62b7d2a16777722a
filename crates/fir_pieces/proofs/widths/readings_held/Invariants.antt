use Rattle.std.proofs.Common.{map, take}
use Rattle.fir_pieces.specs.Listed.{class_reading_sum}
use Rattle.fir_pieces.specs.Held.{AreHeld}
use Rattle.fir_pieces.proofs.widths.readings_held.Given as goal

abbrev pub invariant-loop-reading : goal.invariant-loop-reading
invariant-loop-reading g l = AreHeld (g.R.Ranges.streams l.ranges) (map (class_reading_sum l.beat.class l.beat.lag) (take l.reading-index l.readings)) l.held.items
