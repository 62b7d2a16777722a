use Rattle.std.proofs.Common.{rules, ◌≡◌, ℕ, ◌+◌, ◌-◌, ◌*◌, ◌≤◌, ◌<◌, max, length, unsigned_abs, ◌∙◌, ap, subst, arith}
use Rattle.std.specs.Prelude.{Option, vec_len}
use Rattle.std.specs.Option.{SomeIff}
use Rattle.std.proofs.lemmas.Int.{to_z-of_z}
use mir.Syntax.{w64}
use mir.Val.{SFits}
use Rattle.plan_check.specs.Amounts.{magnitude}
use Rattle.impulse_phase.specs.Response.{added, scaled, behind}
use Rattle.impulse_phase.proofs.Sums.{magnitude-grown, added-grown, length-poured, slice_back}
use Rattle.impulse_phase.proofs.sum.add_scaled.Goals as goal

pub add_at-requires-clause-room : goal.add_at-requires-clause-room
add_at-requires-clause-room c =
    let t : SFits w64 c.args.tap = search rules in
    let old = c.args.sum.now.items in
    let long : length old ≤ c.max.result = omega (arith, c.max.ensures, c.len.ensures, c.args.sum.now.ok.0) in
    simp to_z-of_z (magnitude-grown old c.deref_mut.result.now c.max.result (c.max.result - vec_len c.args.sum.now) (unsigned_abs c.args.tap * magnitude c.args.weights.now)
    (c.deref_mut.ensures.value ∙ c.in_ok-resize.ensures.items) long c.requires)

pub returns : goal.returns
returns c =
    let t : SFits w64 c.args.tap = search rules in
    let old = c.args.sum.now.items in
    let new = c.resize.new.self in
    let xs = scaled c.args.tap (behind c.args.delay c.args.weights.now) in
    let is = simp to_z-of_z at c.add_at.ensures in
    let long : length old ≤ c.max.result = omega (arith, c.max.ensures, c.len.ensures, c.args.sum.now.ok.0) in
    let end_is : c.in_ok-end.end ≡ c.args.delay + length c.args.weights.now =
    (subst (λ (o : Option ℕ). SomeIff o (c.args.delay + length c.args.weights.now < 18446744073709551616) (c.args.delay + length c.args.weights.now)) c.in_ok-end.ensures.ok_part c.checked_add.ensures).1 in
    let some : 0 < length c.args.weights.now = grind (arith, c.is_empty.ensures, c.if-is_empty.false) in
    let wide : length xs ≡ c.args.delay + length c.args.weights.now = length-poured c.args.tap c.args.delay c.args.weights.now some in
    let size : length new.items ≡ max (length xs) (length old) =
    omega (arith, c.in_ok-resize.ensures.len, new.ok.0, c.max.ensures, c.len.ensures, c.args.sum.now.ok.0, end_is, wide) in
    let kept : length c.add_at.new.sum ≡ length new.items = c.add_at.auto.sum ∙ ap length c.deref_mut.ensures.value in
    slice_back c.add_at.new.sum new.items new.len new.ok.0 kept ∙ is ∙ ap (added xs) c.deref_mut.ensures.value
    ∙ added-grown xs old new.items c.max.result (c.max.result - vec_len c.args.sum.now) c.in_ok-resize.ensures.items long size
