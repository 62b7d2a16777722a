use Rattle.std.proofs.Common.{◌≡◌, ◌∙◌, Bool, ap, arith, sym, subst, length, length-append, to_z, of_z}
use Rattle.std.specs.Prelude.{unsigned_abs}
use Rattle.std.specs.Int.{w64, is_negative}
use Rattle.std.proofs.lemmas.Int.{to_z-of_z}
use Rattle.mr_values.specs.Digit.{total, AreApart, IsWeight, non_adjacent, digits_from}
use Rattle.mr_values.proofs.NonAdjacent.{total-non_adjacent, AreApart-non_adjacent, length-non_adjacent, IsWeight-digit_count}
use Rattle.mr_values.proofs.DigitSteps.{so_far-odd, so_far-even, small-next, small-end, so_far-end}
use Rattle.mr_values.proofs.digit.digits.Goals as goal
use Rattle.mr_values.proofs.digit.digits.Goals.{then-rest-eq1, else-rest-eq1}

pub loop-place-preserved : goal.loop-place-preserved
loop-place-preserved c =
    let now = c.loop-place in
    let next = c.above_digit-rest.ensures in
    elim c.if-rest-eq1.branch [
      | then-rest-eq1 w ↦
          record {
            so_far = rw (w.digits-is, w.push.ensures, next) (so_far-odd now.digits _ _ now.place now.rest w.if-rest-eq1.true now.invariant.so_far);
            few = rw (w.digits-is, w.push.ensures, length-append) (omega (arith, now.invariant.few));
            small = rw next (small-next now.place now.rest c.loop-place-test.true now.invariant.small);
          }
      | else-rest-eq1 w ↦
          record {
            so_far = rw (w.digits-is, next) (so_far-even now.digits _ _ now.place now.rest (omega (arith, w.if-rest-eq1.false)) now.invariant.so_far);
            few = rw w.digits-is (omega (arith, now.invariant.few));
            small = rw next (small-next now.place now.rest c.loop-place-test.true now.invariant.small);
          }
    ]

all_digits : (c : goal.After-loop-place) → c.loop-place.digits ≡ non_adjacent c.args.c
all_digits c =
    let now = c.loop-place in
    let end : now.rest ≡ 0 = small-end now.place now.rest c.loop-place-test.false now.invariant.small in
    let argument : to_z w64 (of_z w64 c.args.c) ≡ c.args.c = to_z-of_z w64 c.args.c c.ranges.c in
    let sign : c.is_negative-negative.result ≡ is_negative c.args.c = c.is_negative-negative.ensures ∙ ap is_negative argument in
    let magnitude : c.unsigned_abs-rest.result ≡ unsigned_abs c.args.c = c.unsigned_abs-rest.ensures.value ∙ ap unsigned_abs argument in
    so_far-end now.digits c.is_negative-negative.result now.place now.rest c.unsigned_abs-rest.result end now.invariant.so_far
    ∙ ap (λ (s : Bool). digits_from s 0 c.unsigned_abs-rest.result) sign
    ∙ ap (digits_from (is_negative c.args.c) 0) magnitude

pub returns-clause-value : goal.returns-clause-value
returns-clause-value c = all_digits c

pub returns-clause-sum : goal.returns-clause-sum
returns-clause-sum c = ap total (all_digits c) ∙ total-non_adjacent c.args.c

pub returns-clause-apart : goal.returns-clause-apart
returns-clause-apart c = subst AreApart (sym (all_digits c)) (AreApart-non_adjacent c.args.c)

pub returns-clause-least : goal.returns-clause-least
returns-clause-least c =
    subst (IsWeight c.args.c) (sym (ap length (all_digits c) ∙ length-non_adjacent c.args.c)) (IsWeight-digit_count c.args.c)
