use Rattle.std.proofs.Common.{◌≡◌, ◌∙◌, ℤ, pos, get_or, FitsSigned, arith, rules, ap}
use Rattle.std.specs.Int.{w64}
use Rattle.std.proofs.lemmas.Int.{to_z-of_z}
use Rattle.mr_values.specs.Digit.{positive_count}
use Rattle.mr_values.proofs.PhaseSums.{sum_by-phase_taken, sum_by-phase_skipped}
use Rattle.mr_values.proofs.digit.count_positive_terms.Goals as goal
use Rattle.mr_values.proofs.digit.count_positive_terms.Goals.{then-wait-eq0, else-wait-eq0}

pub loop-tap-preserved : goal.loop-tap-preserved
loop-tap-preserved c =
    let now = c.loop-tap in
    let tap : ℤ = get_or c.args.taps.now now.tap-index (pos 0) in
    elim c.if-wait-eq0.branch [
      | then-wait-eq0 w ↦
          let fits : FitsSigned w64 tap = search rules in
          let one : w.positive_digits.result ≡ positive_count tap = w.positive_digits.ensures.value ∙ ap positive_count (to_z-of_z w64 tap fits) in
          let step = sum_by-phase_taken positive_count c.args.up now.wait now.tap-index c.args.taps.now w.if-wait-eq0.true c.loop-tap-test.true in
          record {
            so_far = rw w.wait-is (omega (arith, one, step, w.count-is, now.invariant.so_far));
            small = omega (arith, w.count-is, now.invariant.small);
            in_range = omega (arith, w.wait-is, now.invariant.in_range);
          }
      | else-wait-eq0 w ↦
          let step = sum_by-phase_skipped positive_count c.args.up now.wait now.tap-index c.args.taps.now (omega (arith, w.if-wait-eq0.false)) c.loop-tap-test.true in
          record {
            so_far = rw (w.count-is, w.wait-is) (omega (arith, step, now.invariant.so_far));
            small = omega (arith, w.count-is, now.invariant.small);
            in_range = omega (arith, w.wait-is, now.invariant.in_range);
          }
    ]
