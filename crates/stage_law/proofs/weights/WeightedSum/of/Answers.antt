use Rattle.std.proofs.Common.{◌∙◌, sym, ap, arith, subst}
use Rattle.stage_law.specs.Rising.{AreRising, factors_from}
use Rattle.stage_law.proofs.WeightLemmas.{sparse-all, sparse-rises, sparse-whole}
use Rattle.stage_law.proofs.weights.WeightedSum.of.Goals as goal

pub invariant_of-result : goal.invariant_of-result
invariant_of-result c =
    let whole = sparse-whole c.args.behind c.args.factors.now c.loop-place.place c.loop-place.weights.items (omega (arith, c.loop-place-test.false, c.loop-place.auto.place-end)) c.loop-place.invariant in
    record { rising = subst AreRising (sym whole) (sparse-rises c.args.behind c.args.factors.now) }

pub returns : goal.returns
returns c =
    let whole = sparse-whole c.args.behind c.args.factors.now c.loop-place.place c.loop-place.weights.items (omega (arith, c.loop-place-test.false, c.loop-place.auto.place-end)) c.loop-place.invariant in
    ap (factors_from 0) whole ∙ sparse-all c.args.behind c.args.factors.now c.requires.some
