use Rattle.std.proofs.Common.{◌≡◌, ◌+◌}
use Rattle.settle_order.specs.Placing.{opened_of}
use Rattle.event_order.specs.Drawn.{how_many}
use Rattle.order_sim.proofs.drawing.nth_set.Given as goal

abbrev pub invariant-loop-place : goal.invariant-loop-place
invariant-loop-place l = l.left + how_many (opened_of l.flags) l.place ≡ l.number
