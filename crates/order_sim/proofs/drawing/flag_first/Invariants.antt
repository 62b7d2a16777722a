use Rattle.std.proofs.Common.{◌≡◌, ◌<◌, ℕ, length, get_or}
use Rattle.std.specs.Prelude.{◌==◌}
use Rattle.settle_order.specs.Placing.{opened_of}
use Rattle.event_order.specs.Drawn.{how_many}
use Rattle.order_sim.proofs.drawing.flag_first.Given as goal

abbrev pub invariant-loop-place : goal.invariant-loop-place
invariant-loop-place l = record {
  sizes : length l.flags ≡ length l.waiting;
  set : (k : ℕ) → k < l.place → opened_of l.flags k ≡ (get_or l.waiting k 0 == 0);
  counted : l.count ≡ how_many (opened_of l.flags) l.place;
}
