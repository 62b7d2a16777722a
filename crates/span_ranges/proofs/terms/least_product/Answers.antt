use Rattle.std.proofs.Common.{◌≡◌, ◌∙◌, ◌*ℤ◌, arith, rules}
use Rattle.std.proofs.lemmas.Int.{ints, to_z-of_z}
use mir.Syntax.{w128}
use mir.Val.{SFits}
use Rattle.span_ranges.proofs.SumLemmas.{term_small_at, term_positive, term_negative}
use Rattle.span_ranges.proofs.terms.least_product.Goals as goal

pub returns-then-factor-ge0-clause-small : goal.returns-then-factor-ge0-clause-small
returns-then-factor-ge0-clause-small c =
    let f = c.ranges.factor in
    let l = c.ranges.low in
    let is : c.product.result ≡ c.args.factor *ℤ c.args.low = simp to_z-of_z at c.product.ensures in
    let r : SFits w128 c.product.result = search rules in
    simp to_z-of_z (term_small_at c.args.factor c.args.low c.args.high c.product.result (is ∙ term_positive c.args.low c.args.high c.args.factor (omega (arith, ints))))

pub returns-else-factor-ge0-clause-small : goal.returns-else-factor-ge0-clause-small
returns-else-factor-ge0-clause-small c =
    let f = c.ranges.factor in
    let h = c.ranges.high in
    let is : c.product-else-factor-ge0.result ≡ c.args.factor *ℤ c.args.high = simp to_z-of_z at c.product-else-factor-ge0.ensures in
    let r : SFits w128 c.product-else-factor-ge0.result = search rules in
    simp to_z-of_z (term_small_at c.args.factor c.args.low c.args.high c.product-else-factor-ge0.result (is ∙ term_negative c.args.low c.args.high c.args.factor (omega (arith, ints))))
