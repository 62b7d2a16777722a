use Rattle.std.proofs.Common.{◌≡◌, ◌∙◌, ℕ, ◌≤◌, List, All, ℤ, FitsSigned, Option, ap, subst, rules}
use Rattle.std.specs.Int.{w128}
use Rattle.std.proofs.lemmas.Int.{to_z-of_z}
use Rattle.std.specs.Prelude.{IfSome}
use Rattle.mr_values.specs.Value.{size}
use Rattle.mr_values.specs.Width.{FitsWidth}
use Rattle.chain_build.specs.declared.extremes.RegisterSamples.{RegisterSamples}
use Rattle.chain_build.specs.Told.{IsRegisterExtreme}
use Rattle.extreme_file.specs.Reading.{ReadsAs}
use Rattle.extreme_file.specs.Text.{extreme_lines}
use Rattle.register_extremes.proofs.Steps.{extreme_room, text_of}
use Rattle.register_extremes.proofs.text.register_text.Goals as goal

pub extreme_text-requires : goal.extreme_text-requires
extreme_text-requires c =
    let plan = c.args.plan.now in
    let x = c.in-Some.extreme in
    let is = subst (λ (found : Option RegisterSamples). IfSome found (λ y. IsRegisterExtreme (size plan.width) (size plan.ticks) plan.elements c.args.register.now y)) c.in-Some.is c.in_ok-extreme.ensures.some in
    record { room = extreme_room c.deref.result.now c.deref.ensures.value is }

pub returns-in_ok-text-in-Some-clause-some : goal.returns-in_ok-text-in-Some-clause-some
returns-in_ok-text-in-Some-clause-some c =
    let plan = c.args.plan.now in
    let register = c.args.register.now in
    let x = c.in-Some.extreme in
    let text : List ℕ = c.in_ok-text-in-Some.text.items in
    let same : c.deref.result.now ≡ x.samples.items = c.deref.ensures.value in
    let fits : FitsSigned w128 x.value = search rules in
    let lines : text ≡ extreme_lines register x.tick x.value c.deref.result.now =
    c.in_ok-text-in-Some.ensures.lines ∙ ap (λ (v : ℤ). extreme_lines register x.tick v c.deref.result.now) (to_z-of_z w128 x.value fits) in
    let is = subst (λ (found : Option RegisterSamples). IfSome found (λ y. IsRegisterExtreme (size plan.width) (size plan.ticks) plan.elements register y)) c.in-Some.is c.in_ok-extreme.ensures.some in
    text_of plan c.requires.accepted register x text is
    (lines ∙ ap (λ (xs : List ℤ). extreme_lines register x.tick x.value xs) same)
    (subst (λ (xs : List ℤ). (width : ℕ) → width ≤ 128 → All (FitsWidth width) xs → ReadsAs width xs text) same c.in_ok-text-in-Some.ensures.reads)
