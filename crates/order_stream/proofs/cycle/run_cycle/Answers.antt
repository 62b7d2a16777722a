use Rattle.std.proofs.Common.{◌∙◌, not, ap, sym}
use Rattle.std.specs.Prelude.{◌==◌}
use Rattle.verilog_tree.specs.declared.tree.Module.{Module}
use Rattle.verilog_tree.specs.Names.{shapes_of}
use Rattle.verilog_tree.specs.Shown.{ports_of, event_of}
use Rattle.verilog_tree.specs.View.{design_view}
use Rattle.clock_sim.specs.Simulated.{values_of}
use Rattle.sim_stream.specs.Given.{cycle_at}
use Rattle.sim_stream.proofs.CycleSteps.{row-is}
use Rattle.order_stream.specs.Ordered.{with_last, printed_orders}
use Rattle.order_stream.proofs.CycleSteps.{runs_cycle}
use Rattle.order_stream.proofs.cycle.run_cycle.Goals as goal

pub returns-clause-ends : goal.returns-clause-ends
returns-clause-ends c =
    let m = c.args.sim.now.design in
    let m1 = c.cycle-seen.new.self.design in
    let same = c.cycle-seen.ensures.design in
    let stimulus = c.in_ok-stimulus.stimulus in
    let seen = c.cycle-seen.result in
    let wires = c.cycle-seen.ensures.runs.0 in
    let runs = c.cycle-seen.ensures.runs.1 in
    let line = printed_orders (with_last seen.last (event_of (shapes_of (design_view m1)) (ports_of (design_view m1)) (cycle_at stimulus) wires c.args.cycle c.args.tick)) in (
      line,
      c.in_ok-put_event.ensures.text wires (runs.valid ∙ ap (λ (x : Module). not (wires (ports_of (design_view x)).out_valid == 0)) (sym same))
          (runs.out_data ∙ ap (λ (x : Module). wires (ports_of (design_view x)).out_data) (sym same)),
      runs_cycle (design_view m) (values_of c.args.sim.now.values) wires (values_of c.cycle-seen.new.self.values) c.args.cycle c.args.tick c.ticks_after.result c.args.sim.now.number c.cycle-seen.new.self.number c.args.row.now stimulus seen line
          (row-is (design_view m) c.input_shape-input.result.width c.input_shape-input.result.signed c.args.row.now stimulus c.input_shape-input.ensures.width c.input_shape-input.ensures.signed c.in_ok-stimulus.ensures.value)
          runs
          (ap (λ (x : Module). printed_orders (with_last seen.last (event_of (shapes_of (design_view x)) (ports_of (design_view x)) (cycle_at stimulus) wires c.args.cycle c.args.tick))) same)
          c.ticks_after.ensures.ticks,
    )
