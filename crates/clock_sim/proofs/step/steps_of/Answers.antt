use Rattle.std.proofs.Common.{◌∙◌, ◌<◌, ◌++◌, [], ◌∷◌, List, length, take, get_or, ap, sym, subst, refl}
use Rattle.std.proofs.lemmas.List.{take_more}
use Rattle.verilog_tree.specs.declared.tree.Assign.{Assign}
use Rattle.verilog_tree.specs.Names.{shapes_of}
use Rattle.verilog_tree.specs.View.{design_view, assignment_view}
use Rattle.settle_order.proofs.Turns.{viewed_at}
use Rattle.clock_sim.specs.declared.step.Compiled.{Compiled}
use Rattle.clock_sim.specs.Steps.{AreCompiled}
use Rattle.clock_sim.proofs.StepKinds.{compiled_more}
use Rattle.clock_sim.proofs.step.steps_of.Goals as goal

pub step_of-step-requires-clause-fits : goal.step_of-step-requires-clause-fits
step_of-step-requires-clause-fits c =
    let xs = c.args.design.now.assigns.items in
    let k = c.loop-assign.assign-index in
    let a = c.assign-item.result in
    let inside = subst (λ (ys : List Assign). k < length ys) c.as_slice-assign-items.ensures.value c.loop-assign-test.true in
    let read = c.assign-item.is ∙ ap (λ (ys : List Assign). get_or ys k a) c.as_slice-assign-items.ensures.value in
    (c.requires.fits.each k (assignment_view a) (viewed_at xs k a inside read)).value

pub loop-assign-preserved : goal.loop-assign-preserved
loop-assign-preserved c =
    let shapes = shapes_of (design_view c.args.design.now) in
    let xs = c.args.design.now.assigns.items in
    let k = c.loop-assign.assign-index in
    let a = c.assign-item.result in
    let flat : Compiled = record { target = a.target; step = c.step_of-step.result } in
    let inside = subst (λ (ys : List Assign). k < length ys) c.as_slice-assign-items.ensures.value c.loop-assign-test.true in
    let read = c.assign-item.is ∙ ap (λ (ys : List Assign). get_or ys k a) c.as_slice-assign-items.ensures.value in
    let more = take_more xs k a inside ∙ ap (λ (b : Assign). take k xs ++ b ∷ []) (sym read) in
    let one = compiled_more shapes (take k xs) c.loop-assign.steps.items a flat c.loop-assign.invariant.all (record { target = refl; step = c.step_of-step.ensures }) in
    record {
      all = subst (λ (ys : List Assign). AreCompiled shapes ys c.push.new.self.items) (sym more) (subst (λ (cs : List Compiled). AreCompiled shapes (take k xs ++ a ∷ []) cs) (sym c.in_ok-push.ensures.items) one);
    }
