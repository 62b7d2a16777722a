use Rattle.std.proofs.Common.{◌∙◌, sym, subst}
use Rattle.verilog_tree.specs.Cycle.{circuit_of}
use Rattle.verilog_tree.specs.View.{design_view}
use Rattle.verilog_tree.proofs.OneSettling.{circuit_sound}
use Rattle.wire_levels.proofs.ByLevel.{by_level_evaluates}
use Rattle.clock_sim.specs.Simulated.{values_of, AssignsFit}
use Rattle.clock_sim.proofs.Simulated.{named_assign, settle_turn, settled_all}
use Rattle.clock_sim.proofs.steps.settle.Goals as goal

pub evaluate-requires-clause-fits : goal.evaluate-requires-clause-fits
evaluate-requires-clause-fits c = subst (AssignsFit (design_view c.args.design.now)) (sym c.loop-place.invariant.count) c.requires.fits

pub evaluate-requires-clause-place : goal.evaluate-requires-clause-place
evaluate-requires-clause-place c = named_assign c.args.design.now c.args.order.now (by_level_evaluates (design_view c.args.design.now) c.args.order.now c.requires.order) c.loop-place.place-index c.loop-place-test.true

pub loop-place-preserved : goal.loop-place-preserved
loop-place-preserved c =
    let d = design_view c.args.design.now in
    record {
      count = c.evaluate.auto.values ∙ c.loop-place.invariant.count;
      names = c.evaluate.ensures.names;
      settled = settle_turn d (circuit_sound d c.requires.driven) (values_of c.args.values.now) c.args.order.now (by_level_evaluates (design_view c.args.design.now) c.args.order.now c.requires.order) c.loop-place.place-index c.loop-place.values c.evaluate.new.values
          c.loop-place-test.true (record { value = c.evaluate.ensures.value }) c.loop-place.invariant.settled;
    }

pub returns-clause-settled : goal.returns-clause-settled
returns-clause-settled c =
    let d = design_view c.args.design.now in
    settled_all (circuit_of d) (circuit_sound d c.requires.driven) (values_of c.args.values.now) c.args.order.now (by_level_evaluates (design_view c.args.design.now) c.args.order.now c.requires.order)
    c.loop-place.place-index (values_of c.loop-place.values) c.loop-place-test.false c.loop-place.invariant.settled
