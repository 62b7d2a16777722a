use Rattle.std.proofs.Common.{◌≡◌, ◌∙◌, length, sym, ap, subst, rules}
use Rattle.verilog_tree.specs.declared.tree.Module.{Module}
use Rattle.verilog_tree.specs.Meaning.{Values}
use Rattle.verilog_tree.specs.Cycle.{circuit_of}
use Rattle.verilog_tree.specs.View.{design_view}
use Rattle.clock_sim.specs.Sim.{cycle_of}
use Rattle.clock_sim.specs.Simulated.{values_of}
use Rattle.event_order.specs.Drawn.{declared_names, update_count}
use Rattle.order_sim.specs.declared.sim.Seen.{Seen}
use Rattle.order_sim.specs.Cycle.{Drawing, RunsDrawn}
use Rattle.order_sim.specs.Laws.{EveryOrderTells}
use Rattle.order_sim.proofs.Cycles.{cycle_runs, draws_of_cycle}
use Rattle.order_sim.proofs.EveryOrder.{every_tells}
use Rattle.order_sim.proofs.sim.OrderSim.cycle.Goals as goal

pub returns-clause-runs : goal.returns-clause-runs
returns-clause-runs c =
    let sim = c.self.inside.sim in
    let m1 = c.set_inputs.new.self.design in
    let m2 = c.settle_drawn-drawn.new.sim.design in
    let wires = values_of c.settle_drawn-drawn.new.sim.values in
    let seen : Seen = record { valid = c.is_valid.result; out_data = c.out_data.result; last = c.settle_drawn-drawn.result.last } in
    let design : c.self.inside.design.now ≡ sim.design = sym c.self.invariant.design_is in
    let given = c.count_given-given.ensures ∙ ap (λ (m : Module). update_count (circuit_of (design_view m)) (declared_names (design_view m)) wires) design in
    let many : c.len.result ≡ length c.self.inside.design.now.blocks.items = search rules in
    let blocks = many ∙ ap (λ (m : Module). length m.blocks.items) design in
    let draws = draws_of_cycle sim.design m1 wires c.self.inside.number c.settle_drawn-drawn.result.number c.len.result c.draw_on-state.result c.count_given-given.result c.draw_on-self-inside.result
    c.set_inputs.ensures.design c.settle_drawn-drawn.ensures.number blocks c.draw_on-state.ensures given c.draw_on-self-inside.ensures in
    let cycle = cycle_of c.args.rst c.args.ce c.args.in_data in
    let runs : RunsDrawn (design_view sim.design) (values_of sim.values) c.self.inside.number cycle seen wires (values_of c.edge.new.self.values) c.draw_on-self-inside.result =
    cycle_runs sim.design m1 m2 (values_of sim.values) (values_of c.set_inputs.new.self.values) wires (values_of c.edge.new.self.values) c.self.inside.number c.draw_on-self-inside.result
    cycle seen c.set_inputs.ensures.design c.settle_drawn-drawn.ensures.design c.set_inputs.ensures.set c.settle_drawn-drawn.ensures.settled
    c.is_valid.ensures c.out_data.ensures.value c.settle_drawn-drawn.ensures.last c.edge.ensures.next draws in
    let sound = c.self.invariant.sound in
    subst (λ (s : Drawing). (x : Values) × RunsDrawn (design_view s.design) (values_of s.values) s.number cycle seen x (values_of c.edge.new.self.values) c.draw_on-self-inside.result
    × EveryOrderTells (design_view s.design) (values_of s.values) s.number cycle seen x (values_of c.edge.new.self.values)) c.self.view_is (
      wires,
      runs,
      every_tells (design_view sim.design) sound.passes sound.formed.distinct (values_of sim.values) wires (values_of c.edge.new.self.values) c.self.inside.number c.draw_on-self-inside.result cycle seen runs,
    )
