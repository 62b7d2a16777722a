use Rattle.std.proofs.Common.{◌≡◌, ◌∙◌, ◌≤◌, length, length-append, ℕ, ap, get_or, arith, pos, FitsSigned, rules}
use Rattle.std.specs.Fmt.{signed_decimal}
use Rattle.std.specs.Int.{w128}
use Rattle.std.specs.declared.vec.Vec.{Vec}
use Rattle.std.specs.declared.alloc.Global.{Global}
use Rattle.std.proofs.lemmas.Int.{to_z-of_z}
use Rattle.sample_file.proofs.PrintSteps.{joined-next, joined-first}
use Rattle.sample_file.proofs.print.joined.Goals as goal
use Rattle.sample_file.proofs.print.joined.Goals.{then-place-gt0+in_ok-push, else-place-gt0}

pub loop-place-preserved : goal.loop-place-preserved
loop-place-preserved c =
    let fits : FitsSigned w128 (get_or c.args.values.now c.loop-place.place (pos 0)) = search rules in
    let text : c.as_bytes.result.now ≡ signed_decimal (get_or c.args.values.now c.loop-place.place (pos 0)) =
    c.as_bytes.ensures.value ∙ c.format.ensures.text ∙ ap signed_decimal (to_z-of_z w128 _ fits) in
    let whole = c.in_ok-extend_from_slice.ensures.items in
    let short : length c.as_bytes.result.now ≤ 40 = omega (arith, ap length c.as_bytes.ensures.value, c.format.ensures.short) in
    elim c.if-place-gt0.branch [
      | then-place-gt0+in_ok-push w ↦ (
          let middle = ap (λ (v : Vec ℕ Global). v.items) w.line-is ∙ w.in_ok-push.ensures.items in
          record {
            text = joined-next c.args.values.now c.loop-place.place (pos 0) c.loop-place.line.items c.if-place-gt0.line.items _ _ c.loop-place-test.true w.if-place-gt0.true c.loop-place.invariant.text middle whole text;
            short = omega (arith, ap length whole, ap length middle, length-append {A = ℕ}, short, c.loop-place.invariant.short);
          })
      | else-place-gt0 w ↦ (
          let same = ap (λ (v : Vec ℕ Global). v.items) w.line-is in
          record {
            text = joined-first c.args.values.now c.loop-place.place (pos 0) c.if-place-gt0.line.items _ _ c.loop-place-test.true w.if-place-gt0.false (same ∙ c.loop-place.invariant.text) whole text;
            short = omega (arith, ap length whole, ap length same, length-append {A = ℕ}, short, c.loop-place.invariant.short);
          })
    ]
