use Rattle.std.proofs.Common.{◌≡◌, ◌-◌, length, get_or}
use Rattle.verilog_tree.specs.Cycle.{circuit_of}
use Rattle.verilog_tree.specs.View.{design_view}
use Rattle.clock_sim.specs.Simulated.{values_of}
use Rattle.event_order.specs.Drawn.{state_after, drawn_places, evaluations}
use Rattle.order_sim.specs.Drawing.{IsDrawing}
use Rattle.order_sim.proofs.Settling.{SettlesTo}
use Rattle.order_sim.proofs.drawing.settle_drawn.Given as goal

abbrev pub invariant-loop-turn : goal.invariant-loop-turn
invariant-loop-turn l = record {
  design : l.sim.design ≡ l.initial.sim.design;
  many : length l.sim.values ≡ length l.initial.sim.values;
  state : l.state ≡ state_after l.number l._turn;
  last : l.last ≡ get_or (drawn_places (evaluations (circuit_of (design_view l.initial.sim.design))) l.number l._turn) (l._turn - 1) 0;
  drawing : IsDrawing (circuit_of (design_view l.initial.sim.design)) (drawn_places (evaluations (circuit_of (design_view l.initial.sim.design))) l.number l._turn) l.waiting l.ready l.count;
  settles : SettlesTo (circuit_of (design_view l.initial.sim.design)) (values_of l.initial.sim.values) (drawn_places (evaluations (circuit_of (design_view l.initial.sim.design))) l.number l._turn) (values_of l.sim.values);
}
