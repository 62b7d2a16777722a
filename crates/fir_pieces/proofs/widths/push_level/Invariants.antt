use Rattle.fir_pieces.specs.Listed.{level_sums}
use Rattle.fir_pieces.specs.Held.{AddsHeld}
use Rattle.fir_pieces.proofs.widths.push_level.Given as goal

abbrev pub invariant-loop-j : goal.invariant-loop-j
invariant-loop-j g l = AddsHeld (g.R.Ranges.streams l.ranges) (level_sums l.fn.beat.class l.fn.beat.lag l.readings l.terms l.level l.j) l.fn.held.items l.held.items
