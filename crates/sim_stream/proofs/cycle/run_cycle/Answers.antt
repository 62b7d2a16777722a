use Rattle.std.proofs.Common.{◌∙◌, ap}
use Rattle.verilog_tree.specs.declared.tree.Module.{Module}
use Rattle.verilog_tree.specs.Names.{shapes_of}
use Rattle.verilog_tree.specs.Circuit.{next}
use Rattle.verilog_tree.specs.Cycle.{circuit_of}
use Rattle.verilog_tree.specs.Shown.{ports_of, event_of}
use Rattle.verilog_tree.specs.View.{design_view}
use Rattle.clock_sim.specs.Simulated.{values_of}
use Rattle.sim_stream.specs.Given.{cycle_at, printed_events}
use Rattle.sim_stream.proofs.CycleSteps.{runs_cycle, row-is}
use Rattle.sim_stream.proofs.cycle.run_cycle.Goals as goal

pub returns-clause-ends : goal.returns-clause-ends
returns-clause-ends c =
    let m = c.args.sim.now.design in
    let same = c.settle.ensures.design in
    let stimulus = c.in_ok-stimulus.stimulus in
    let settled = values_of c.settle.new.self.values in (
      _,
      c.in_ok-put_event.ensures.text,
      runs_cycle (design_view m) (values_of c.args.sim.now.values) settled (values_of c.edge.new.self.values) c.args.cycle c.args.tick c.ticks_after.result c.args.row.now stimulus _
          (row-is (design_view m) c.input_shape-input.result.width c.input_shape-input.result.signed c.args.row.now stimulus c.input_shape-input.ensures.width c.input_shape-input.ensures.signed c.in_ok-stimulus.ensures.value)
          c.settle.ensures.settled
          (λ name. c.edge.ensures.next name ∙ ap (λ (m : Module). next (circuit_of (design_view m)) settled name) same)
          (ap (λ (m : Module). printed_events (event_of (shapes_of (design_view m)) (ports_of (design_view m)) (cycle_at stimulus) settled c.args.cycle c.args.tick)) same)
          c.ticks_after.ensures.ticks,
    )
