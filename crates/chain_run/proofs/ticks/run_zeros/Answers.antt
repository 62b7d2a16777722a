use Rattle.std.proofs.Common.{◌∙◌, Ok, subst, arith}
use Rattle.verilog_tree.specs.declared.tree.Module.{Module}
use Rattle.verilog_tree.specs.View.{design_view}
use Rattle.clock_sim.specs.Simulated.{values_of}
use Rattle.chain_run.specs.Ends.{TickEnds}
use Rattle.chain_run.proofs.RunSteps.{zeros-more}
use Rattle.chain_run.proofs.ticks.run_zeros.Goals as goal

pub ticks-preserved : goal.ticks-preserved
ticks-preserved c =
    let ends = subst (λ (m : Module). TickEnds (design_view m) (values_of c.ticks.sim.values) 0 c.ticks.out.items (Ok c.in_ok-run_tick.field-0) (values_of c.run_tick.new.sim.values) c.run_tick.new.out.items) c.ticks.invariant.design c.in_ok-run_tick.ensures.ends in
    record {
      design = c.run_tick.ensures.design ∙ c.ticks.invariant.design;
      ends = zeros-more (design_view c.args.sim.now.design) (values_of c.args.sim.now.values) (values_of c.ticks.sim.values) (values_of c.run_tick.new.sim.values) c.args.tick c.ticks.ticks
          c.args.out.now.items c.ticks.out.items c.run_tick.new.out.items c.in_ok-run_tick.field-0 c.ticks.invariant.least c.ticks.invariant.ends ends;
      least = omega (arith, c.ticks.invariant.least);
      most = λ h. omega (arith, c.ticks-test.true);
      past = λ h. absurd (omega (arith, h, c.ticks-test.true, c.ticks.invariant.least));
      none = λ e. absurd (omega (arith, e, c.ticks.invariant.least));
      short = λ limit least before. omega (arith, least, c.run_tick.ensures.short, c.len.ensures, c.if-len-le-FULL.true);
    }
