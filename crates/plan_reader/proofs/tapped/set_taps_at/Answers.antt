use Rattle.std.proofs.Common.{◌<◌, ◌∙◌, ℤ, List, length, sym, ap, set, arith}
use Rattle.mr_values.specs.declared.plan.Element.TheVariants.{Filter}
use Rattle.plan_reader.proofs.TappedSteps.{tapped-past, tapped-filter, tapped-other}
use Rattle.plan_reader.proofs.tapped.set_taps_at.Goals as goal

pub returns-in_default : goal.returns-in_default
returns-in_default c =
    let within : c.args.place < length c.args.elements.now.items = omega (arith, c.if-place-len.true, c.len.ensures) in
    tapped-other c.args.place c.args.taps.items c.args.elements.now.items c.index.result.now within (λ form old is. c.in_default.not-Filter _ _ (c.index.ensures ∙ is))

pub returns-in-Filter : goal.returns-in-Filter
returns-in-Filter c =
    let within : c.args.place < length c.args.elements.now.items = omega (arith, c.if-place-len.true, c.len.ensures) in
    ap (λ (taps : List ℤ). set c.args.elements.now.items c.args.place (Filter taps c.in-Filter.form)) c.from_vec.ensures
    ∙ tapped-filter c.args.place c.args.taps.items c.in-Filter.taps c.in-Filter.form c.args.elements.now.items c.index.result.now within (sym c.index.ensures ∙ c.in-Filter.is)

pub returns-else-place-len : goal.returns-else-place-len
returns-else-place-len c = tapped-past c.args.place c.args.taps.items c.args.elements.now.items (omega (arith, c.if-place-len.false, c.len.ensures))
