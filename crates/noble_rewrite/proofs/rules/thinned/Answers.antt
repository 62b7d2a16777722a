use Rattle.std.proofs.Common.{◌≡◌, ap, ◌∙◌, ◌++◌, ◌∷◌, [], pos, ℤ, Vec, Global, get_or, FitsSigned, to_z, of_z, rules}
use Rattle.std.specs.Int.{w64}
use Rattle.std.proofs.lemmas.Int.{to_z-of_z}
use Rattle.mr_values.specs.Sequence.{phase}
use Rattle.noble_rewrite.proofs.RuleSteps.{thin-taken, thin-skipped}
use Rattle.noble_rewrite.proofs.rules.thinned.Goals as goal
use Rattle.noble_rewrite.proofs.rules.thinned.Goals.{then-wait-eq0+in_ok-push, else-wait-eq0}

pub loop-tap-preserved : goal.loop-tap-preserved
loop-tap-preserved c =
    let tap : ℤ = get_or c.args.taps.now c.loop-tap.tap-index (pos 0) in
    elim c.if-wait-eq0.branch [
      | then-wait-eq0+in_ok-push w ↦
          let fits : FitsSigned w64 tap = search rules in
          let same : to_z w64 (of_z w64 tap) ≡ tap = to_z-of_z w64 tap fits in
          thin-taken c.loop-tap.kept.items c.if-wait-eq0.kept.items c.args.taps.now (phase c.args.factor 0 c.args.taps.now) c.args.factor c.loop-tap.tap-index c.loop-tap.wait c.if-wait-eq0.wait (pos 0)
          c.loop-tap-test.true w.if-wait-eq0.true w.wait-is (ap (λ (v : Vec ℤ Global). v.items) w.kept-is ∙ w.in_ok-push.ensures.items ∙ ap (λ (z : ℤ). c.loop-tap.kept.items ++ z ∷ []) same) c.loop-tap.invariant
      | else-wait-eq0 w ↦ thin-skipped c.loop-tap.kept.items c.if-wait-eq0.kept.items c.args.taps.now (phase c.args.factor 0 c.args.taps.now) c.args.factor c.loop-tap.tap-index c.loop-tap.wait c.if-wait-eq0.wait
          c.loop-tap-test.true w.if-wait-eq0.false w.wait-is (ap (λ (v : Vec ℤ Global). v.items) w.kept-is) c.loop-tap.invariant
    ]
