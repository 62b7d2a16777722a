use Rattle.std.proofs.Common.{◌≡◌, ◌∙◌, replicate, sym, ap, subst}
use Rattle.verilog_tree.specs.Names.{shapes_of}
use Rattle.verilog_tree.specs.View.{design_view}
use Rattle.verilog_tree.specs.declared.tree.Module.{Module}
use Rattle.clock_sim.specs.Sim.{AreInitial, register_count}
use Rattle.sim_stream.proofs.StartSteps.{zeros-initial, zero-values}
use Rattle.sim_stream.proofs.start.zero_sim.Goals as goal

pub start-requires-clause-fits : goal.start-requires-clause-fits
start-requires-clause-fits c =
    let signals = c.args.design.now.signals.items in
    let zeros : c.deref.result.now ≡ replicate c.register_count.result 0 = c.deref.ensures.value ∙ c.in_ok-initial.ensures.items_if_clones_equal (λ y h. h) in
    subst (AreInitial (shapes_of (design_view c.args.design.now)) signals) (sym zeros) (zeros-initial _ signals c.register_count.result (c.register_count.ensures ∙ ap (λ (m : Module). register_count m.signals.items) c.tree.ensures.same))

pub returns-clause-values : goal.returns-clause-values
returns-clause-values c =
    zero-values c.start.result c.args.design.now.signals.items c.deref.result.now c.register_count.result (c.deref.ensures.value ∙ c.in_ok-initial.ensures.items_if_clones_equal (λ y h. h)) c.start.ensures.values
