use Rattle.std.proofs.Common.{◌≡◌, ◌≤◌, ◌<◌, ◌*◌, ◌+◌, ◌^◌, ◌∙◌, max, subst, ap, ℤ, ◌+ℤ◌, rules, refl, length, get_or, pos, drop, to_z}
use Rattle.std.specs.Prelude.{unsigned_abs}
use Rattle.std.proofs.lemmas.Int.{to_z-of_z}
use mir.Syntax.{w128}
use mir.Val.{SFits}
use Rattle.mr_values.specs.Timing.{low_end}
use Rattle.stage_law.specs.Streams.{magnitudes}
use Rattle.span_ranges.proofs.SumLemmas.{sum_more, room_more}
use Rattle.span_ranges.proofs.terms.least_sum.Goals as goal

pub loop-factor-preserved : goal.loop-factor-preserved
loop-factor-preserved c =
    let l = c.ranges.low in
    let h = c.ranges.high in
    let form = c.args.factors.now in
    let i = c.loop-factor.factor-index in
    let factor : ℤ = get_or form i (pos 0) in
    let less : i < length form = c.loop-factor-test.true in
    let n : SFits w128 c.with_term-sum.result = search rules in
    let t : SFits w128 c.least_product-term.result = search rules in
    let s : SFits w128 c.loop-factor.sum = search rules in
    let f : SFits w128 (get_or form i (pos 0)) = search rules in
    let term = simp to_z-of_z at c.least_product-term.ensures.value in
    let small = simp to_z-of_z at c.least_product-term.ensures.small in
    let next : c.with_term-sum.result ≡ c.loop-factor.sum +ℤ c.least_product-term.result = (simp to_z-of_z at c.with_term-sum.ensures) ∙ ap (λ (z : ℤ). z +ℤ c.least_product-term.result) c.loop-factor.sum-is in
    let left = drop i form in
    let most = max (unsigned_abs c.args.low) (unsigned_abs c.args.high) in
    let whole_then : to_z w128 c.loop-factor.sum-bits +ℤ low_end left c.args.low c.args.high ≡ low_end form c.args.low c.args.high = simp to_z-of_z at c.loop-factor.invariant.whole in
    let room_then : unsigned_abs (to_z w128 c.loop-factor.sum-bits) + most * magnitudes left ≤ 2 ^ 126 = simp to_z-of_z at c.loop-factor.invariant.room in
    let whole = subst (λ (z : ℤ). z +ℤ low_end left c.args.low c.args.high ≡ low_end form c.args.low c.args.high) c.loop-factor.sum-is whole_then in
    let room = subst (λ (z : ℤ). unsigned_abs z + most * magnitudes left ≤ 2 ^ 126) c.loop-factor.sum-is room_then in
    simp to_z-of_z (record {
      whole = sum_more form i c.args.low c.args.high factor c.loop-factor.sum c.least_product-term.result c.with_term-sum.result (low_end form c.args.low c.args.high) less refl term next whole;
      room = room_more form i (max (unsigned_abs c.args.low) (unsigned_abs c.args.high)) factor c.loop-factor.sum c.least_product-term.result c.with_term-sum.result less refl small next room;
    })
