use Rattle.std.proofs.Common.{◌∙◌, ℕ, ◌+◌, ap, sym, refl, subst, arith}
use Rattle.mr_values.specs.Timing.{groups}
use Rattle.plan_check.specs.Groups.{group_of, size_of, first_failing}
use Rattle.plan_check.specs.Forms.{Flow, fit_test, flow_after}
use Rattle.plan_check.specs.Views.{as_flow}
use Rattle.plan_check.proofs.Walks.{walk-more}
use Rattle.plan_check.proofs.Narrow.{IsNarrow, RatesFit, narrow_gain, narrow_next, narrow_start, rates_next, rates_start}
use Rattle.plan_check.proofs.forms.check_fits.Goals as goal

pub walk-init : goal.walk-init
walk-init c =
    let first = c.of_samples-flow.ensures in
    let gs = groups c.args.elements.now in
    record {
      so_far = ap (λ (f : Flow). first_failing fit_test flow_after 1 f gs) first;
      limits = c.requires.limits;
      count = refl;
      rates = subst (λ (n : ℕ). RatesFit n gs) (sym (ap (λ (f : Flow). f.period) first)) (rates_start c.args.ticks gs c.requires.ticks c.requires.rates);
      narrow = subst (λ (f : Flow). IsNarrow gs f.low f.high) (sym first) (narrow_start c.args.width c.args.ticks gs c.requires.width_low c.requires.width_high c.requires.peaks);
    }

pub flow_past-flow-requires-clause-small : goal.flow_past-flow-requires-clause-small
flow_past-flow-requires-clause-small c =
    narrow_gain (group_of c.in-Some.group) (groups c.in-Some.others.now) (groups c.walk.rest.now) _ _ c.in-Some.ensures.parts c.walk.invariant.narrow

pub walk-preserved : goal.walk-preserved
walk-preserved c =
    let g = group_of c.in-Some.group in
    let gs = groups c.in-Some.others.now in
    let next = c.flow_past-flow.ensures in
    let split = c.in-Some.ensures in
    let more = walk-more fit_test flow_after c.walk.first (as_flow c.walk.flow) c.walk.rest.now g c.in-Some.others.now _ split (sym (c.in_ok-check_fit.ensures)) c.walk.invariant.so_far in
    record {
      so_far = ap (λ (n : ℕ). first_failing fit_test flow_after (c.walk.first + n) (as_flow c.flow_past-flow.result) gs) c.size-first.ensures
          ∙ ap (λ (f : Flow). first_failing fit_test flow_after (c.walk.first + size_of g) f gs) next ∙ more;
      limits = split.limits;
      count = omega (arith, c.size-first.ensures, split.size, c.walk.invariant.count);
      rates = subst (λ (n : ℕ). RatesFit n gs) (sym (ap (λ (f : Flow). f.period) next)) (rates_next g gs _ c.walk.flow.period split.parts c.walk.invariant.rates);
      narrow = subst (λ (f : Flow). IsNarrow gs f.low f.high) (sym next) (narrow_next g gs _ c.walk.flow.low c.walk.flow.high split.parts split.within c.walk.invariant.narrow);
    }
