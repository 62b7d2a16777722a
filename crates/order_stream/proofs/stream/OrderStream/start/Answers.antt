use Rattle.std.proofs.Common.{◌≡◌, ◌∙◌, ℕ, List, replicate, refl, sym, ap, subst}
use Rattle.verilog_tree.specs.Names.{shapes_of}
use Rattle.verilog_tree.specs.View.{design_view}
use Rattle.verilog_tree.specs.declared.tree.Module.{Module}
use Rattle.clock_sim.specs.Sim.{AreInitial, contents, register_count}
use Rattle.verilog_tree.specs.Circuit.{with_inputs}
use Rattle.sim_stream.proofs.StartSteps.{zeros-initial, zeros-content}
use Rattle.order_stream.proofs.stream.OrderStream.start.Goals as goal

pub start-requires-clause-fits : goal.start-requires-clause-fits
start-requires-clause-fits c =
    let signals = c.args.design.now.signals.items in
    let zeros : c.deref.result.now ≡ replicate c.register_count.result 0 = c.deref.ensures.value ∙ c.in_ok-initial.ensures.items_if_clones_equal (λ y h. h) in
    subst (AreInitial (shapes_of (design_view c.args.design.now)) signals) (sym zeros) (zeros-initial _ signals c.register_count.result (c.register_count.ensures ∙ ap (λ (m : Module). register_count m.signals.items) c.tree.ensures.same))

pub returns : goal.returns
returns c =
    let signals = c.args.design.now.signals.items in
    let zeros : c.deref.result.now ≡ replicate c.register_count.result 0 = c.deref.ensures.value ∙ c.in_ok-initial.ensures.items_if_clones_equal (λ y h. h) in
    record {
      design = c.in_ok-start.ensures.design;
      values = c.in_ok-start.ensures.values.same ∙ ap (λ (patterns : List ℕ). with_inputs (contents signals patterns) (λ n. 0)) zeros ∙ zeros-content signals c.register_count.result;
      number_is = c.in_ok-start.ensures.number;
      place = c.in_ok-new.ensures;
      cycle = refl;
      tick = refl;
    }
