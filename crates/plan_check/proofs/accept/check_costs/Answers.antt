use Rattle.std.proofs.Common.{◌≡◌, ◌∙◌, ℕ, ◌+◌, ◌++◌, List, ap, sym, refl, subst, arith}
use Rattle.mr_values.specs.Timing.{groups, input, after, after_all, Stream}
use Rattle.plan_check.specs.declared.facts.GroupFacts.{GroupFacts}
use Rattle.plan_check.specs.Groups.{group_of, size_of, first_failing}
use Rattle.plan_check.specs.Costs.{Tally, cost_test, tally_after}
use Rattle.plan_check.specs.Views.{as_tally, as_stream}
use Rattle.plan_check.specs.Accepted.{group_facts}
use Rattle.plan_check.proofs.Walks.{walk-more}
use Rattle.plan_check.proofs.Tallies.{facts_more, after_more}
use Rattle.plan_check.proofs.Narrow.{IsNarrow, RatesFit, narrow_gain, narrow_next, narrow_start, rates_next, rates_start}
use Rattle.plan_check.proofs.accept.check_costs.Goals as goal

pub walk-init : goal.walk-init
walk-init c =
    let first = c.of_samples-tally.ensures.value in
    let gs = groups c.args.elements.now in
    let tally = c.of_samples-tally.result in
    let stream : as_stream tally.flow tally.offset ≡ input c.args.width c.args.ticks = ap (λ (t : Tally). t.stream) first in
    record {
      so_far = ap (λ (t : Tally). first_failing (cost_test c.args.ticks) (tally_after c.args.ticks) 1 t gs) first;
      all = ap (after_all gs) stream;
      facts = ap (λ (xs : List GroupFacts). xs ++ group_facts 1 (as_stream tally.flow tally.offset) gs) c.new-groups.ensures.items ∙ ap (λ (s : Stream). group_facts 1 s gs) stream;
      limits = c.requires.limits;
      count = refl;
      low = omega arith;
      rates = subst (λ (s : Stream). RatesFit s.period gs) (sym stream) (rates_start c.args.ticks gs c.requires.ticks_high c.requires.rates);
      narrow = subst (λ (s : Stream). IsNarrow gs s.low s.high) (sym stream) (narrow_start c.args.width c.args.ticks gs c.requires.width_low c.requires.width_high c.requires.peaks);
      terms = omega (arith, ap (λ (t : Tally). t.terms) first);
      offset = omega (arith, ap (λ (t : Tally). t.stream.offset) first);
      modest = c.of_samples-tally.ensures.modest;
    }

pub tally_past-requires-clause-small : goal.tally_past-requires-clause-small
tally_past-requires-clause-small c =
    narrow_gain (group_of c.in-Some.group) (groups c.in-Some.others.now) (groups c.walk.rest.now) _ _ c.in-Some.ensures.parts c.walk.invariant.narrow

pub walk-preserved : goal.walk-preserved
walk-preserved c =
    let g = group_of c.in-Some.group in
    let gs = groups c.in-Some.others.now in
    let tally = c.in_ok-tally.tally in
    let passes = c.in_ok-tally.ensures in
    let next = passes.1 in
    let split = c.in-Some.ensures in
    let stream : as_stream tally.flow tally.offset ≡ after g (as_stream c.walk.tally.flow c.walk.tally.offset) = ap (λ (t : Tally). t.stream) next in
    let test = cost_test c.args.ticks in
    let add = tally_after c.args.ticks in
    record {
      so_far = ap (λ (n : ℕ). first_failing test add (c.walk.first + n) (as_tally tally) gs) c.size-first.ensures
          ∙ ap (λ (t : Tally). first_failing test add (c.walk.first + size_of g) t gs) next
          ∙ walk-more test add c.walk.first (as_tally c.walk.tally) c.walk.rest.now g c.in-Some.others.now _ split passes.0 c.walk.invariant.so_far;
      all = after_more _ _ _ g gs _ stream split.parts c.walk.invariant.all;
      facts = facts_more _ _ _ c.walk.first _ _ _ g gs _ _ c.in_ok-push.ensures.items c.group_facts-facts.ensures.value c.size-first.ensures stream split.parts c.walk.invariant.facts;
      limits = split.limits;
      count = omega (arith, c.size-first.ensures, split.size, c.walk.invariant.count);
      low = omega (arith, c.walk.invariant.low);
      rates = subst (λ (s : Stream). RatesFit s.period gs) (sym stream) (rates_next g gs _ c.walk.tally.flow.period split.parts c.walk.invariant.rates);
      narrow = subst (λ (s : Stream). IsNarrow gs s.low s.high) (sym stream) (narrow_next g gs _ c.walk.tally.flow.low c.walk.tally.flow.high split.parts split.within c.walk.invariant.narrow);
      terms = passes.2;
      offset = passes.3;
      modest = passes.4;
    }
