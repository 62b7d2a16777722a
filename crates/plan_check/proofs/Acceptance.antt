-- A plan that passes each test is accepted.
use Rattle.std.proofs.Common.{◌≡◌, ◌∙◌, ℕ, List, sym, ap, subst, None}
use Rattle.mr_values.specs.declared.plan.Element.{Element}
use Rattle.mr_values.specs.declared.plan.Plan.{Plan}
use Rattle.mr_values.specs.Value.{size}
use Rattle.mr_values.specs.Timing.{groups}
use Rattle.plan_check.specs.Limits.{limits_test}
use Rattle.plan_check.specs.Accepted.{rates_test, peaks_test, bounds_test, fits_test, costs_test, IsAccepted}
use Rattle.plan_check.proofs.Options.{after_none}

accepted_at : (plan : Plan) (width ticks : ℕ) → width ≡ size plan.width → ticks ≡ size plan.ticks
    → None ≡ limits_test plan → None ≡ rates_test ticks (groups plan.elements) → None ≡ peaks_test width (groups plan.elements) → None ≡ bounds_test plan.elements
    → None ≡ fits_test width ticks (groups plan.elements) → costs_test width ticks (groups plan.elements) ≡ None → IsAccepted plan
accepted_at plan width ticks w k limits rates peaks bounds fits costs =
    let gs = groups plan.elements in
    record {
      passes = after_none _ _ limits
          ∙ after_none _ _ (rates ∙ ap (λ (n : ℕ). rates_test n gs) k)
          ∙ after_none _ _ (peaks ∙ ap (λ (n : ℕ). peaks_test n gs) w)
          ∙ after_none _ _ bounds
          ∙ after_none _ _ (fits ∙ ap (λ (n : ℕ). fits_test n ticks gs) w ∙ ap (λ (n : ℕ). fits_test (size plan.width) n gs) k)
          ∙ sym (ap (λ (n : ℕ). costs_test n ticks gs) w ∙ ap (λ (n : ℕ). costs_test (size plan.width) n gs) k) ∙ costs;
    }

pub accepted_from : (plan : Plan) (elements : List Element) (width ticks : ℕ) → elements ≡ plan.elements → width ≡ size plan.width → ticks ≡ size plan.ticks
    → None ≡ limits_test plan → None ≡ rates_test ticks (groups elements) → None ≡ peaks_test width (groups elements) → None ≡ bounds_test elements
    → None ≡ fits_test width ticks (groups elements) → costs_test width ticks (groups elements) ≡ None → IsAccepted plan
accepted_from plan elements width ticks e w k limits rates peaks bounds fits costs =
    accepted_at plan width ticks w k limits
    (subst (λ (es : List Element). None ≡ rates_test ticks (groups es)) e rates)
    (subst (λ (es : List Element). None ≡ peaks_test width (groups es)) e peaks)
    (subst (λ (es : List Element). None ≡ bounds_test es) e bounds)
    (subst (λ (es : List Element). None ≡ fits_test width ticks (groups es)) e fits)
    (subst (λ (es : List Element). costs_test width ticks (groups es) ≡ None) e costs)
