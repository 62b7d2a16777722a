use Rattle.std.proofs.Common.{rules, ◌≡◌, ℕ, ◌*◌, ◌^◌, ◌<◌, ◌≤◌, ◌∙◌, ap, subst, arith}
use Rattle.std.proofs.lemmas.Int.{to_z-of_z}
use mir.Syntax.{w64}
use mir.Val.{SFits}
use Rattle.mr_values.specs.declared.plan.Element.{Element}
use Rattle.mr_values.specs.Value.{size}
use Rattle.impulse_phase.specs.Gain.{gain_after}
use Rattle.impulse_phase.specs.Response.{IsLinear}
use Rattle.impulse_phase.proofs.Arms.{summed_table, summed_ahead, raised_table, raised_gain}
use Rattle.impulse_phase.proofs.table.Response.through.Goals as goal

pub through_down-requires-in-CicDown-clause-table : goal.through_down-requires-in-CicDown-clause-table
through_down-requires-in-CicDown-clause-table c =
    summed_table c.size-in-CicDown-3.result (c.size-in-CicDown.result * c.size-in-CicDown-2.result) c.args.self c.in_ok-summed-in-CicDown.summed c.requires.table c.in_ok-summed-in-CicDown.ensures

pub through_down-requires-in-CicDown-clause-ahead : goal.through_down-requires-in-CicDown-clause-ahead
through_down-requires-in-CicDown-clause-ahead c =
    summed_ahead c.size-in-CicDown-3.result (c.size-in-CicDown.result * c.size-in-CicDown-2.result) c.args.self c.in_ok-summed-in-CicDown.summed c.requires.ahead c.in_ok-summed-in-CicDown.ensures

pub through_sums-requires-in-CicUp-clause-table : goal.through_sums-requires-in-CicUp-clause-table
through_sums-requires-in-CicUp-clause-table c =
    let fits : SFits w64 c.in-CicUp.factor = search rules in
    let by : c.size-in-CicUp-3.result ≡ size c.in-CicUp.factor = c.size-in-CicUp-3.ensures ∙ ap size (to_z-of_z w64 c.in-CicUp.factor fits) in
    let some : 0 < size c.in-CicUp.factor = subst IsLinear c.in-CicUp.is c.requires.linear in
    raised_table c.size-in-CicUp-3.result c.args.self c.in_ok-spread-in-CicUp.spread (omega (arith, by, some)) c.requires.table c.in_ok-spread-in-CicUp.ensures

pub through_sums-requires-in-CicUp-clause-room : goal.through_sums-requires-in-CicUp-clause-room
through_sums-requires-in-CicUp-clause-room c =
    let factor_fits : SFits w64 c.in-CicUp.factor = search rules in
    let stages_fits : SFits w64 c.in-CicUp.stages = search rules in
    let delay_fits : SFits w64 c.in-CicUp.delay = search rules in
    let a = c.size-in-CicUp.result in
    let b = c.size-in-CicUp-2.result in
    let n = c.size-in-CicUp-4.result in
    let factor : a ≡ size c.in-CicUp.factor = c.size-in-CicUp.ensures ∙ ap size (to_z-of_z w64 c.in-CicUp.factor factor_fits) in
    let delay : b ≡ size c.in-CicUp.delay = c.size-in-CicUp-2.ensures ∙ ap size (to_z-of_z w64 c.in-CicUp.delay delay_fits) in
    let stages : n ≡ size c.in-CicUp.stages = c.size-in-CicUp-4.ensures ∙ ap size (to_z-of_z w64 c.in-CicUp.stages stages_fits) in
    let gain = c.requires.room.gain in
    let bound = subst (λ (e : Element). gain_after e gain ≤ 2 ^ 126) c.in-CicUp.is c.requires.room.modest.gain in
    let same : (a * b) ^ n * gain ≡ (size c.in-CicUp.factor * size c.in-CicUp.delay) ^ size c.in-CicUp.stages * gain =
    ap (λ (m : ℕ). (m * b) ^ n * gain) factor ∙ ap (λ (m : ℕ). (size c.in-CicUp.factor * m) ^ n * gain) delay
    ∙ ap (λ (m : ℕ). (size c.in-CicUp.factor * size c.in-CicUp.delay) ^ m * gain) stages in
    (gain, raised_gain c.size-in-CicUp-3.result gain c.args.self c.in_ok-spread-in-CicUp.spread c.requires.room.has_gain c.in_ok-spread-in-CicUp.ensures, omega (arith, same, bound))
