use Rattle.fir_pieces.specs.Listed.{class_tree_sums}
use Rattle.fir_pieces.specs.Held.{AreHeld}
use Rattle.fir_pieces.proofs.widths.tree_held.Given as goal

abbrev pub invariant-loop-level : goal.invariant-loop-level
invariant-loop-level g l = AreHeld (g.R.Ranges.streams l.ranges) (class_tree_sums l.beat.class l.beat.lag l.readings l.terms l.level) l.held.items
