use Rattle.std.proofs.Common.{◌≡◌, ◌≤◌, ◌<◌, ◌*◌, ◌+◌, ◌^◌, ◌∙◌, max, subst, ap, ℤ, ◌+ℤ◌, rules, sym, length, get_or, drop, to_z, arith}
use Rattle.stage_law.proofs.WeightLemmas.{count-in, factor-at}
use Rattle.std.specs.Prelude.{unsigned_abs}
use Rattle.std.proofs.lemmas.Int.{to_z-of_z}
use mir.Syntax.{w128}
use mir.Val.{SFits}
use Rattle.mr_values.specs.Timing.{low_end}
use Rattle.stage_law.specs.Rising.{blank, factors_in}
use Rattle.stage_law.specs.Streams.{magnitudes}
use Rattle.span_ranges.proofs.SumLemmas.{sum_more, room_more, head-room}
use Rattle.span_ranges.proofs.span.least_weighted.Goals as goal

pub loop-weight-preserved : goal.loop-weight-preserved
loop-weight-preserved c =
    let l = c.ranges.low in
    let h = c.ranges.high in
    let form = factors_in c.args.weights.now in
    let i = c.loop-weight.weight-index in
    let factor : ℤ = (get_or c.args.weights.now i blank).factor in
    let less : i < length form = omega (arith, c.loop-weight-test.true, count-in c.args.weights.now) in
    let own = sym (factor-at c.args.weights.now i c.loop-weight-test.true) in
    let n : SFits w128 c.with_term-sum.result = search rules in
    let t : SFits w128 c.least_product-term.result = search rules in
    let s : SFits w128 c.loop-weight.sum = search rules in
    let f : SFits w128 factor = search rules in
    let term = simp to_z-of_z at c.least_product-term.ensures.value in
    let small = simp to_z-of_z at c.least_product-term.ensures.small in
    let next : c.with_term-sum.result ≡ c.loop-weight.sum +ℤ c.least_product-term.result = (simp to_z-of_z at c.with_term-sum.ensures) ∙ ap (λ (z : ℤ). z +ℤ c.least_product-term.result) c.loop-weight.sum-is in
    let left = drop i form in
    let most = max (unsigned_abs c.args.low) (unsigned_abs c.args.high) in
    let whole_then : to_z w128 c.loop-weight.sum-bits +ℤ low_end left c.args.low c.args.high ≡ low_end form c.args.low c.args.high = simp to_z-of_z at c.loop-weight.invariant.whole in
    let room_then : unsigned_abs (to_z w128 c.loop-weight.sum-bits) + most * magnitudes left ≤ 2 ^ 126 = simp to_z-of_z at c.loop-weight.invariant.room in
    let whole = subst (λ (z : ℤ). z +ℤ low_end left c.args.low c.args.high ≡ low_end form c.args.low c.args.high) c.loop-weight.sum-is whole_then in
    let room = subst (λ (z : ℤ). unsigned_abs z + most * magnitudes left ≤ 2 ^ 126) c.loop-weight.sum-is room_then in
    simp to_z-of_z (record {
      whole = sum_more form i c.args.low c.args.high factor c.loop-weight.sum c.least_product-term.result c.with_term-sum.result (low_end form c.args.low c.args.high) less own term next whole;
      room = room_more form i (max (unsigned_abs c.args.low) (unsigned_abs c.args.high)) factor c.loop-weight.sum c.least_product-term.result c.with_term-sum.result less own small next room;
    })

pub least_product-term-requires : goal.least_product-term-requires
least_product-term-requires c =
    let l = c.ranges.low in
    let h = c.ranges.high in
    let ws = c.args.weights.now in
    let i = c.loop-weight.weight-index in
    let f : SFits w128 (get_or ws i blank).factor = search rules in
    let most = max (unsigned_abs c.args.low) (unsigned_abs c.args.high) in
    let room : unsigned_abs (to_z w128 c.loop-weight.sum-bits) + most * magnitudes (drop i (factors_in ws)) ≤ 2 ^ 126 = simp to_z-of_z at c.loop-weight.invariant.room in
    let head = head-room ws i most (to_z w128 c.loop-weight.sum-bits) c.loop-weight-test.true room in
    let own : unsigned_abs (get_or ws i blank).factor * most ≤ 2 ^ 126 = omega (arith, head) in
    simp to_z-of_z own

pub with_term-sum-requires : goal.with_term-sum-requires
with_term-sum-requires c =
    let l = c.ranges.low in
    let h = c.ranges.high in
    let ws = c.args.weights.now in
    let i = c.loop-weight.weight-index in
    let f : SFits w128 (get_or ws i blank).factor = search rules in
    let t : SFits w128 c.least_product-term.result = search rules in
    let most = max (unsigned_abs c.args.low) (unsigned_abs c.args.high) in
    let room : unsigned_abs (to_z w128 c.loop-weight.sum-bits) + most * magnitudes (drop i (factors_in ws)) ≤ 2 ^ 126 = simp to_z-of_z at c.loop-weight.invariant.room in
    let head = head-room ws i most (to_z w128 c.loop-weight.sum-bits) c.loop-weight-test.true room in
    let small : unsigned_abs c.least_product-term.result ≤ unsigned_abs (get_or ws i blank).factor * most = simp to_z-of_z at c.least_product-term.ensures.small in
    let own : unsigned_abs (to_z w128 c.loop-weight.sum-bits) + unsigned_abs c.least_product-term.result ≤ 2 ^ 126 = omega (arith, head, small) in
    simp to_z-of_z own
