use Rattle.std.proofs.Common.{rules, ◌≡◌, ℕ, ◌+◌, ◌-◌, ◌*◌, ◌^◌, ◌≤◌, List, ℤ, pos, ◌-ℤ◌, get_or, length, unsigned_abs, OnOk, sym, ◌∙◌, ap, subst, refl, arith}
use Rattle.std.proofs.lemmas.Int.{to_z-of_z}
use mir.Syntax.{w64}
use mir.Val.{SFits}
use Rattle.mr_values.specs.Value.{size}
use Rattle.plan_check.specs.Amounts.{magnitude}
use Rattle.impulse_phase.specs.Response.{Response, added, scaled, behind}
use Rattle.impulse_phase.specs.Reading.{as_response, silent, rows_of, responses_of, IsPlaceBefore}
use Rattle.impulse_phase.proofs.Tables.{before_is, delay_is, row_of, count_of}
use Rattle.impulse_phase.proofs.filtered.add_tap.Goals as goal

pub add_scaled-requires : goal.add_scaled-requires
add_scaled-requires c =
    let t : SFits w64 c.args.tap = search rules in
    let table = c.args.table.now in
    let rows = rows_of table in
    let class = c.place_before-place.result.class in
    let rounds = c.place_before-place.result.rounds in
    let row = c.index-row.result.now in
    let many : c.len.result ≡ length rows = omega (arith, c.len.ensures, count_of table, table.rows.ok.0) in
    let place = subst (λ (n : ℕ). IsPlaceBefore n c.args.index c.args.back class rounds) many c.place_before-place.ensures in
    let read : get_or rows class silent ≡ as_response row = row_of table class row (omega (arith, place.below, count_of table)) c.index-row.ensures in
    let before = before_is rows table.step c.args.index c.args.back class rounds (as_response row) place read in
    let weights = ap (λ (r : Response). r.weights) before ∙ sym c.deref.ensures.value in
    simp to_z-of_z (subst (λ (zs : List ℤ). unsigned_abs c.args.tap * magnitude zs + magnitude c.args.sum.now.items ≤ 2 ^ 126) weights c.requires.room)

pub returns : goal.returns
returns c =
    let t : SFits w64 c.args.tap = search rules in
    let table = c.args.table.now in
    let rows = rows_of table in
    let class = c.place_before-place.result.class in
    let rounds = c.place_before-place.result.rounds in
    let row = c.index-row.result.now in
    let first = c.index.result.now in
    let many : c.len.result ≡ length rows = omega (arith, c.len.ensures, count_of table, table.rows.ok.0) in
    let place = subst (λ (n : ℕ). IsPlaceBefore n c.args.index c.args.back class rounds) many c.place_before-place.ensures in
    let read : get_or rows class silent ≡ as_response row = row_of table class row (omega (arith, place.below, count_of table)) c.index-row.ensures in
    let here : get_or rows c.args.index silent ≡ as_response first = row_of table c.args.index first (omega (arith, c.requires.index, count_of table)) c.index.ensures in
    let before = before_is rows table.step c.args.index c.args.back class rounds (as_response row) place read in
    let weights = ap (λ (r : Response). r.weights) before ∙ sym c.deref.ensures.value in
    let delay = delay_is rows table.step c.args.index c.args.back class rounds (as_response first) (as_response row) first.newest row.newest c.requires.index place here read refl refl in
    let told_delay : c.saturating_sub.result ≡ first.newest + rounds * table.step - row.newest = omega (arith, c.saturating_sub.ensures, c.from.ensures, c.from-2.ensures) in
    let made = simp to_z-of_z at c.add_scaled.ensures in
    let with_delay = subst (λ (d : ℕ). OnOk c.add_scaled.result (c.add_scaled.new.sum.items ≡ added (scaled c.args.tap (behind d c.deref.result.now)) c.args.sum.now.items)) (told_delay ∙ sym delay) made in
    subst (λ (zs : List ℤ). OnOk c.add_scaled.result (c.add_scaled.new.sum.items ≡ added (scaled c.args.tap (behind
    (size ((responses_of table (pos c.args.index)).newest -ℤ (responses_of table (pos c.args.index -ℤ pos c.args.back)).newest)) zs)) c.args.sum.now.items)) (sym weights) with_delay
