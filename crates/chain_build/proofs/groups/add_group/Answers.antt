use Rattle.std.proofs.Common.{◌≡◌, ◌∙◌, ap, sym, subst, true, arith, rules, FitsSigned}
use Rattle.std.specs.Int.{w128}
use Rattle.std.specs.Option.{option_map}
use Rattle.std.proofs.lemmas.Int.{to_z-of_z}
use Rattle.std.proofs.lemmas.Result.{IfOk-weaker}
use Rattle.mr_values.specs.Timing.{up_factor, down_factor, wide}
use Rattle.mr_values.specs.Width.{IsLeastWidth}
use Rattle.plan_check.specs.declared.group.PlanGroup.{PlanGroup}
use Rattle.plan_check.specs.Forms.{group_fits}
use Rattle.plan_check.specs.Groups.{IsGroup, group_of, filter_of}
use Rattle.mr_values.proofs.LeastBits.{wide_least}
use Rattle.chain_build.specs.declared.groups.Added.{Added}
use Rattle.chain_build.specs.Added.{IsGroupAdded}
use Rattle.chain_build.specs.Prefixes.{flow_before}
use Rattle.chain_build.proofs.AsksLemmas.{asks_form}
use Rattle.chain_build.proofs.FilterAdded.{filter_added}
use Rattle.chain_build.proofs.SerialLemmas.{span-bits}
use Rattle.chain_build.proofs.groups.add_group.Goals as goal

-- a filter is the stage of its group
pub returns-in-Fir-clause-ok : goal.returns-in-Fir-clause-ok
returns-in-Fir-clause-ok g c =
    let low : FitsSigned w128 c.args.fact.now.span_lo = search rules in
    let high : FitsSigned w128 c.args.fact.now.span_hi = search rules in
    let least : IsLeastWidth c.args.fact.now.span_lo c.args.fact.now.span_hi c.least_width.result = simp to_z-of_z at c.least_width.ensures in
    IfOk-weaker c.add_filter.result _ _
    (λ (added : Added) is.
    subst (λ (parts : PlanGroup). IsGroupAdded (group_of parts) (flow_before c.args.from.period c.args.fact.now) (g.R.Ranges.streams c.args.ranges.now) c.args.net.now c.add_filter.new.net c.args.from added) (sym c.in-Fir.is)
    (filter_added _ _ _ (flow_before c.args.from.period c.args.fact.now) (g.R.Ranges.streams c.args.ranges.now) c.args.net.now c.add_filter.new.net c.args.from added _ _ _ _ _ c.filter_or_one.ensures.form c.filter_or_one.ensures.taps
    (c.up.ensures.value ∙ ap (λ (parts : PlanGroup). up_factor (group_of parts)) c.in-Fir.is)
    (c.down.ensures.value ∙ ap (λ (parts : PlanGroup). down_factor (group_of parts)) c.in-Fir.is)
    (wide_least _ _ _ low high least)
    (subst (λ (parts : PlanGroup). group_fits (group_of parts) (flow_before c.args.from.period c.args.fact.now) ≡ true) c.in-Fir.is c.requires.can.fits)
    is))
    c.add_filter.ensures.ok

-- what the form asks holds where it fits the group
pub add_filter-requires-clause-asks : goal.add_filter-requires-clause-asks
add_filter-requires-clause-asks g c =
    let low : FitsSigned w128 c.args.fact.now.span_lo = search rules in
    let high : FitsSigned w128 c.args.fact.now.span_hi = search rules in
    let least : IsLeastWidth c.args.fact.now.span_lo c.args.fact.now.span_hi c.least_width.result = simp to_z-of_z at c.least_width.ensures in
    asks_form c.in-Fir.up (option_map filter_of c.in-Fir.filter) c.in-Fir.down (flow_before c.args.from.period c.args.fact.now) _ _ _ _ _ c.filter_or_one.ensures.form c.filter_or_one.ensures.taps
    (c.up.ensures.value ∙ ap (λ (parts : PlanGroup). up_factor (group_of parts)) c.in-Fir.is)
    (c.down.ensures.value ∙ ap (λ (parts : PlanGroup). down_factor (group_of parts)) c.in-Fir.is)
    (wide_least _ _ _ low high least)
    (subst (λ (parts : PlanGroup). IsGroup (group_of parts)) c.in-Fir.is c.requires.can.limits)
    (subst (λ (parts : PlanGroup). group_fits (group_of parts) (flow_before c.args.from.period c.args.fact.now) ≡ true) c.in-Fir.is c.requires.can.fits)

-- all values have the bits of the span
pub add_filter-requires-clause-bits : goal.add_filter-requires-clause-bits
add_filter-requires-clause-bits g c =
    let low : FitsSigned w128 c.args.fact.now.span_lo = search rules in
    let high : FitsSigned w128 c.args.fact.now.span_hi = search rules in
    let least : IsLeastWidth c.args.fact.now.span_lo c.args.fact.now.span_hi c.least_width.result = simp to_z-of_z at c.least_width.ensures in
    span-bits (g.R.Ranges.streams c.args.ranges.now) c.args.fact.now c.least_width.result least c.requires.spans
