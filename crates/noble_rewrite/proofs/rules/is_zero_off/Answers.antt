use Rattle.std.proofs.Common.{◌≡◌, ◌∙◌, sym, ap, ℤ, pos, get_or, FitsSigned, to_z, of_z, rules, inl, inr}
use Rattle.std.specs.Int.{w64}
use Rattle.std.proofs.lemmas.Int.{to_z-of_z}
use Rattle.noble_rewrite.specs.Rules.{is_zero_off}
use Rattle.noble_rewrite.proofs.RuleSteps.{zero_off-more}
use Rattle.noble_rewrite.proofs.rules.is_zero_off.Goals as goal
use Rattle.noble_rewrite.proofs.rules.is_zero_off.Goals.{else-index-factor-ne0-via-then-index-factor-ne0+else-tap-ne0, else-index-factor-ne0-via-else-index-factor-ne0}

pub loop-index-preserved : goal.loop-index-preserved
loop-index-preserved c =
    let tap : ℤ = get_or c.args.taps.now c.loop-index.index (pos 0) in
    zero_off-more c.args.factor c.loop-index.index c.args.taps.now (pos 0) (is_zero_off c.args.factor 0 c.args.taps.now) c.loop-index-test.true
    (elim c.else-index-factor-ne0.branch [
      | else-index-factor-ne0-via-then-index-factor-ne0+else-tap-ne0 w ↦
          let fits : FitsSigned w64 tap = search rules in
          let same : to_z w64 (of_z w64 tap) ≡ tap = to_z-of_z w64 tap fits in
          inr (sym same ∙ ap (to_z w64) w.if-tap-ne0.false)
      | else-index-factor-ne0-via-else-index-factor-ne0 w ↦ inl w.if-index-factor-ne0.false
    ])
    c.loop-index.invariant
