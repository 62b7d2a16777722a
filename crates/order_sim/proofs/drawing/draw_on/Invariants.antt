use Rattle.std.proofs.Common.{◌≡◌}
use Rattle.event_order.specs.Drawn.{state_after}
use Rattle.order_sim.proofs.drawing.draw_on.Given as goal

abbrev pub invariant-loop-turn : goal.invariant-loop-turn
invariant-loop-turn l = l.state ≡ state_after l.number l._turn
