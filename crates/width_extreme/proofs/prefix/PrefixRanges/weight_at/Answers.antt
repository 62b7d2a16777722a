use Rattle.std.proofs.Common.{rules, ◌≡◌, ◌∙◌, ◌<◌, ◌≤◌, ℕ, ℤ, ◌+ℤ◌, ◌*ℤ◌, pos, get_or, length, arith, to_z, sym, ap, subst}
use Rattle.std.specs.Prelude.{unsigned_abs}
use Rattle.std.proofs.lemmas.Int.{to_z-of_z}
use mir.Syntax.{w128}
use mir.Val.{SFits}
use Rattle.stage_law.specs.Rising.{behind_at, factors_in}
use Rattle.stage_law.specs.declared.weights.Weight.{Weight}
use Rattle.stage_law.proofs.WeightLemmas.{count-in, factor-at}
use Rattle.width_extreme.specs.Walk.{delay_at, weight_back}
use Rattle.width_extreme.proofs.Walk.{weight-more, weight-stops, term-is, weight_back-small, product-room, room-left, read-weight}
use Rattle.width_extreme.proofs.prefix.PrefixRanges.weight_at.Goals as goal

pub returns-then-place-delay : goal.returns-then-place-delay
returns-then-place-delay c =
    let ws = c.args.sum.now.weights.items in
    let at = c.loop-at.at in
    let inside : at < length ws = omega (arith, c.loop-at-test.true, c.len-at-end.ensures) in
    let own = read-weight ws at c.index-own.result.now inside c.index-own.ensures in
    let back : c.entry_at-entry.result.back ≡ behind_at ws at = c.entry_at-entry.ensures.back ∙ ap (λ (w : Weight). w.behind) own in
    let same = ap (delay_at c.args.self.now.table c.args.index) back in
    weight-stops c.args.self.now.table c.args.index c.args.place at ws _ _ c.args.self.now.lawful c.args.sum.now.rising
    (omega (arith, c.if-place-delay.true, c.delay-delay.ensures.delay, same)) c.loop-at.invariant.whole

pub with_product-weight-requires : goal.with_product-weight-requires
with_product-weight-requires c =
    let table = c.args.self.now.table in
    let ws = c.args.sum.now.weights.items in
    let at = c.loop-at.at in
    let inside : at < length ws = omega (arith, c.loop-at-test.true, c.len-at-end.ensures) in
    let own = read-weight ws at c.index-own.result.now inside c.index-own.ensures in
    let factor : c.index-own.result.now.factor ≡ get_or (factors_in ws) at (pos 0) = ap (λ (w : Weight). w.factor) own ∙ sym (factor-at ws at inside) in
    let back : c.entry_at-entry.result.back ≡ behind_at ws at = c.entry_at-entry.ensures.back ∙ ap (λ (w : Weight). w.behind) own in
    let e = c.entry_at-entry.result in
    let v = c.loop-at.invariant in
    let below : at < length (factors_in ws) = omega (arith, inside, count-in ws) in
    let f : SFits w128 c.index-own.result.now.factor = search rules in
    let t : SFits w128 c.row_weight.result = search rules in
    let term : c.row_weight.result ≡ weight_back table c.args.index c.args.place (behind_at ws at) =
    term-is table c.args.index c.args.place e.back (behind_at ws at) e.class e.late c.delay-delay.result c.row_weight.result c.entry_at-entry.ensures.entry c.delay-delay.ensures.delay c.if-place-delay.false back
    c.row_weight.ensures in
    let small = subst (λ (z : ℤ). unsigned_abs z ≤ v.room.most) (sym term) (weight_back-small table v.room.most c.args.index c.args.place (behind_at ws at) v.room.small) in
    simp to_z-of_z (product-room (factors_in ws) at v.room.most c.index-own.result.now.factor c.row_weight.result (to_z w128 c.loop-at.weight-bits) below factor small v.room.room)

pub loop-at-preserved : goal.loop-at-preserved
loop-at-preserved c =
    let table = c.args.self.now.table in
    let ws = c.args.sum.now.weights.items in
    let at = c.loop-at.at in
    let inside : at < length ws = omega (arith, c.loop-at-test.true, c.len-at-end.ensures) in
    let own = read-weight ws at c.index-own.result.now inside c.index-own.ensures in
    let factor : c.index-own.result.now.factor ≡ get_or (factors_in ws) at (pos 0) = ap (λ (w : Weight). w.factor) own ∙ sym (factor-at ws at inside) in
    let back : c.entry_at-entry.result.back ≡ behind_at ws at = c.entry_at-entry.ensures.back ∙ ap (λ (w : Weight). w.behind) own in
    let e = c.entry_at-entry.result in
    let v = c.loop-at.invariant in
    let below : at < length (factors_in ws) = omega (arith, inside, count-in ws) in
    let f : SFits w128 c.index-own.result.now.factor = search rules in
    let t : SFits w128 c.row_weight.result = search rules in
    let n : SFits w128 c.with_product-weight.result = search rules in
    let term : c.row_weight.result ≡ weight_back table c.args.index c.args.place (behind_at ws at) =
    term-is table c.args.index c.args.place e.back (behind_at ws at) e.class e.late c.delay-delay.result c.row_weight.result c.entry_at-entry.ensures.entry c.delay-delay.ensures.delay c.if-place-delay.false back
    c.row_weight.ensures in
    let small = subst (λ (z : ℤ). unsigned_abs z ≤ v.room.most) (sym term) (weight_back-small table v.room.most c.args.index c.args.place (behind_at ws at) v.room.small) in
    let next : c.with_product-weight.result ≡ to_z w128 c.loop-at.weight-bits +ℤ c.index-own.result.now.factor *ℤ c.row_weight.result = simp to_z-of_z at c.with_product-weight.ensures in
    let weights : ℕ → ℤ = λ k. weight_back table c.args.index c.args.place (behind_at ws k) in
    simp to_z-of_z (record {
      entry = c.entry_at-entry.ensures.entry;
      whole = weight-more (factors_in ws) at weights c.index-own.result.now.factor (to_z w128 c.loop-at.weight-bits) c.row_weight.result c.with_product-weight.result _ below factor term next v.whole;
      room = record {
        most = v.room.most;
        small = v.room.small;
        room = room-left (factors_in ws) at v.room.most c.index-own.result.now.factor c.row_weight.result (to_z w128 c.loop-at.weight-bits) c.with_product-weight.result below factor small next v.room.room;
      };
    })
