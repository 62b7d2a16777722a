-- Each sum over the stream of zeros is 0.
use Rattle.std.proofs.Common.{◌≡◌, ℕ, suc, ◌<◌, ℤ, pos, ◌-ℤ◌, List, [], ◌∷◌, refl, arith}
use Rattle.std.proofs.lemmas.Int.{ints}
use native.Mathlib.Nat.{mod-eq_of_lt}
use Rattle.mr_values.specs.Sequence.{Sequence, weighted_sum}
use Rattle.stage_law.specs.declared.ranges.Class.{Class}
use Rattle.stage_law.specs.declared.ranges.Range.{Range}
use Rattle.stage_law.specs.Range.{IsRange}
use Rattle.stage_law.specs.Streams.{Streams}

abbrev pub silent : Streams
silent v = (k : ℤ) → v k ≡ pos 0

sum_zero : (form : List ℤ) (f : ℕ → ℤ) → ((k : ℕ) → f k ≡ pos 0) → weighted_sum form f ≡ pos 0
sum_zero [] f z = refl
sum_zero (c ∷ cs) f z = let e = sum_zero cs (λ k. f (suc k)) (λ k. z (suc k)) in let h = z 0 in rw (h, e) (omega (arith, ints))

pub IsRange-silent : (form : List ℤ) (class : Class) (range : Range) → range ≡ record { lo = pos 0; hi = pos 0 } → class.residue < class.modulus → IsRange silent form class range
IsRange-silent form class range e small =
    let none = λ (v : Sequence) (z : silent v) (k : ℕ). sum_zero form (λ i. v (pos k -ℤ pos i)) (λ i. z (pos k -ℤ pos i)) in
    let quiet : Sequence = λ k. pos 0 in
    rw e (record {
      low = λ v z k h. let e = none v z k in omega (arith, ints, e);
      high = λ v z k h. let e = none v z k in omega (arith, ints, e);
      low_reached = record { stream = quiet; is_one = λ k. refl; index = class.residue; in_class = mod-eq_of_lt small; is = none quiet (λ k. refl) class.residue };
      high_reached = record { stream = quiet; is_one = λ k. refl; index = class.residue; in_class = mod-eq_of_lt small; is = none quiet (λ k. refl) class.residue };
    })
