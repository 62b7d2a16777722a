use Rattle.order_sim.proofs.Flags.{nth_found}
use Rattle.order_sim.proofs.drawing.nth_set.Goals as goal

pub returns-then-left-eq0 : goal.returns-then-left-eq0
returns-then-left-eq0 c = nth_found c.args.flags.now c.loop-place.left c.loop-place.place c.args.number c.loop-place-test.true c.if-flag.true c.if-left-eq0.true c.loop-place.invariant
