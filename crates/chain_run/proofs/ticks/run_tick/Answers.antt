use Rattle.std.proofs.Common.{◌∙◌, ap}
use Rattle.verilog_tree.specs.declared.tree.Module.{Module}
use Rattle.verilog_tree.specs.Names.{shapes_of}
use Rattle.verilog_tree.specs.Circuit.{next}
use Rattle.verilog_tree.specs.Cycle.{circuit_of}
use Rattle.verilog_tree.specs.Shown.{ports_of, event_of}
use Rattle.verilog_tree.specs.View.{design_view}
use Rattle.clock_sim.specs.Simulated.{values_of}
use Rattle.chain_run.specs.Given.{shown_lines}
use Rattle.chain_run.specs.Ticks.{tick_of}
use Rattle.chain_run.proofs.RunSteps.{runs_tick}
use Rattle.chain_run.proofs.ticks.run_tick.Goals as goal

pub returns-clause-ends : goal.returns-clause-ends
returns-clause-ends c =
    let m = c.args.sim.now.design in
    let same = c.settle.ensures.design in
    let settled = values_of c.settle.new.self.values in (
      _,
      c.in_ok-put_value.ensures.text,
      runs_tick (design_view m) (values_of c.args.sim.now.values) settled (values_of c.edge.new.self.values) c.args.bits _
          c.settle.ensures.settled
          (λ name. c.edge.ensures.next name ∙ ap (λ (m : Module). next (circuit_of (design_view m)) settled name) same)
          (ap (λ (m : Module). shown_lines (event_of (shapes_of (design_view m)) (ports_of (design_view m)) (tick_of 0) settled 0 0)) same),
    )
