use Rattle.std.proofs.Common.{◌≡◌, ◌∙◌, sym, ap, subst, List, ℕ, ℤ}
use Rattle.std.specs.Prelude.{All}
use Rattle.mr_values.specs.declared.plan.Element.{Element}
use Rattle.mr_values.specs.declared.plan.Plan.{Plan}
use Rattle.mr_values.specs.Value.{IsWithinLimits}
use Rattle.demo_plan.specs.Drawn.{elements_drawn, samples_from, samples_drawn, values_drawn}
use Rattle.demo_plan.specs.Tallied.{IsTally}
use Rattle.demo_plan.proofs.Values.{limits}
use Rattle.demo_plan.proofs.Fitting.{values_are, values_few}
use Rattle.demo_plan.proofs.demo.demo_line.Goals as goal

pub values_of-requires : goal.values_of-requires
values_of-requires c =
    let elements : c.as_slice.result.now ≡ elements_drawn c.args.number = c.as_slice.ensures ∙ ap (λ (p : Plan). p.elements) c.in_ok-plan.ensures.plan in
    subst (λ (es : List Element). All IsWithinLimits es) (sym elements) (limits c.args.number)

pub tally_of-tally-requires : goal.tally_of-tally-requires
tally_of-tally-requires c =
    let elements : c.as_slice.result.now ≡ elements_drawn c.args.number = c.as_slice.ensures ∙ ap (λ (p : Plan). p.elements) c.in_ok-plan.ensures.plan in
    let samples : c.as_slice-2.result.now ≡ samples_drawn c.args.number = c.as_slice-2.ensures.value ∙ c.in_ok-samples.ensures ∙ ap (λ (s : ℕ). samples_from s 100000) c.in_ok-plan.ensures.state in
    let values = values_are c.args.number c.as_slice.result.now c.as_slice-2.result.now c.in_ok-values.values.items elements samples c.in_ok-values.ensures in
    values_few c.args.number c.as_slice-3.result.now (c.as_slice-3.ensures.value ∙ values)

pub returns : goal.returns
returns c =
    let elements : c.as_slice.result.now ≡ elements_drawn c.args.number = c.as_slice.ensures ∙ ap (λ (p : Plan). p.elements) c.in_ok-plan.ensures.plan in
    let samples : c.as_slice-2.result.now ≡ samples_drawn c.args.number = c.as_slice-2.ensures.value ∙ c.in_ok-samples.ensures ∙ ap (λ (s : ℕ). samples_from s 100000) c.in_ok-plan.ensures.state in
    let values = values_are c.args.number c.as_slice.result.now c.as_slice-2.result.now c.in_ok-values.values.items elements samples c.in_ok-values.ensures in
    let tallied = subst (λ (vs : List ℤ). IsTally vs c.tally_of-tally.result) (c.as_slice-3.ensures.value ∙ values) c.tally_of-tally.ensures in
    c.in_ok-text.ensures (values_drawn c.args.number) tallied
