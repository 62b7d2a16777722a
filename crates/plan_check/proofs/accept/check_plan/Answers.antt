use Rattle.std.proofs.Common.{◌≡◌, ◌∙◌, ℕ, ◌+◌, ap, sym, subst, rules, None, FitsSigned, to_z, of_z, List}
use Rattle.mr_values.specs.declared.plan.Element.{Element}
use Rattle.std.specs.Int.{w64, w128}
use Rattle.std.proofs.lemmas.Int.{to_z-of_z}
use Rattle.mr_values.specs.Value.{size}
use Rattle.mr_values.specs.Timing.{Stream, groups}
use Rattle.plan_check.specs.declared.facts.Facts.{Facts}
use Rattle.plan_check.specs.Limits.{limits_test}
use Rattle.plan_check.specs.Accepted.{AreFacts, rates_test, peaks_test, fits_test}
use Rattle.plan_check.proofs.Acceptance.{accepted_from}
use Rattle.plan_check.proofs.accept.check_plan.Goals as goal

pub returns : goal.returns
returns c =
    let plan = c.args.plan.now in
    let elements = c.as_slice-elements.result.now in
    let read : elements ≡ plan.elements = c.as_slice-elements.ensures in
    let gs = groups elements in
    let width_fits : FitsSigned w64 plan.width = search rules in
    let ticks_fits : FitsSigned w64 plan.ticks = search rules in
    let width : c.whole-width.result ≡ size plan.width = c.whole-width.ensures ∙ ap size (to_z-of_z w64 _ width_fits) in
    let ticks : c.from-ticks.result ≡ size plan.ticks = c.from-ticks.ensures ∙ c.whole.ensures ∙ ap size (to_z-of_z w64 _ ticks_fits) in
    let costs = c.in_ok-costs.ensures in
    let bounds = c.in_ok-error.ensures in
    let low_fits : FitsSigned w128 c.in_ok-costs.costs.flow.low = search rules in
    let high_fits : FitsSigned w128 c.in_ok-costs.costs.flow.high = search rules in
    let limits : None ≡ limits_test plan = c.in_ok-check_limits.ensures.test in
    let rates : None ≡ rates_test c.from-ticks.result gs = c.in_ok-check_rates.ensures in
    let peaks : None ≡ peaks_test c.whole-width.result gs = c.in_ok-check_peaks.ensures in
    let fits : None ≡ fits_test c.whole-width.result c.from-ticks.result gs = c.in_ok-check_fits.ensures in
    let facts : Facts = record {
      latency = c.in_ok-costs.costs.offset + 1;
      period = c.in_ok-costs.costs.flow.period;
      bound = c.in_ok-error.error.bound;
      shift = c.in_ok-error.error.shift;
      end_lo = to_z w128 (of_z w128 c.in_ok-costs.costs.flow.low);
      end_hi = to_z w128 (of_z w128 c.in_ok-costs.costs.flow.high);
      groups = c.in_ok-costs.costs.groups;
    } in
    let here : AreFacts c.whole-width.result c.from-ticks.result elements facts = record {
      latency_is = ap (λ (s : Stream). s.offset + 1) costs.1;
      period_is = ap (λ (s : Stream). s.period) costs.1;
      bound_is = bounds.1;
      shift_is = bounds.2;
      low_is = to_z-of_z w128 _ low_fits ∙ ap (λ (s : Stream). s.low) costs.1;
      high_is = to_z-of_z w128 _ high_fits ∙ ap (λ (s : Stream). s.high) costs.1;
      groups_are = costs.2;
    } in (
      accepted_from plan elements _ _ read width ticks limits rates peaks (sym bounds.0) fits costs.0,
      subst (λ (k : ℕ). AreFacts (size plan.width) k plan.elements facts) ticks (subst (λ (w : ℕ). AreFacts w c.from-ticks.result plan.elements facts) width (subst (λ (es : List Element). AreFacts c.whole-width.result c.from-ticks.result es facts) read here)),
    )
