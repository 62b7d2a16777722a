use Rattle.fir_pieces.proofs.WidthsLemmas.{AreHeld-none, AreHeld-level}
use Rattle.fir_pieces.proofs.widths.tree_held.Goals as goal

pub loop-level-init : goal.loop-level-init
loop-level-init g c = rw c.new-held.ensures.items (AreHeld-none _)

pub loop-level-preserved : goal.loop-level-preserved
loop-level-preserved g c = AreHeld-level (g.R.Ranges.streams c.args.ranges.now) c.args.beat.class c.args.beat.lag c.args.readings.now c.args.terms.now c.loop-level.level c.loop-level.held.items c.push_level.new.held.items c.loop-level.invariant c.in_ok-push_level.ensures
