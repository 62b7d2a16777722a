use Rattle.fir_pieces.specs.Listed.{window_sums}
use Rattle.fir_pieces.specs.Held.{AreHeld}
use Rattle.fir_pieces.proofs.peaks.window_held.Given as goal

abbrev pub invariant-loop-age : goal.invariant-loop-age
invariant-loop-age g l = AreHeld (g.R.Ranges.streams l.ranges) (window_sums l.age) l.held.items
