-- Sums of products, bit by bit.
use Rattle.std.proofs.Common.{◌≡◌, ℕ, zero, suc, ◌-◌, ◌^◌, ◌<◌, List, [], ◌∷◌, length, ℤ, pos, ◌+ℤ◌, ◌-ℤ◌, ◌*ℤ◌, arith, refl, sym, ◌∙◌, ap}
use Rattle.std.proofs.lemmas.Int.{ints}
use Rattle.mr_values.specs.Width.{floor_quotient}
use Rattle.mr_values.specs.Sequence.{weighted_sum}
use Rattle.mr_values.proofs.Ring.{*ℤ-+ℤ, +ℤ-*ℤ, *ℤ_assoc}
use Rattle.mr_values.proofs.Polyphase.{weighted_sum-same}
use Rattle.bit_serial.specs.Bits.{bit_of}
use Rattle.bit_serial.specs.Serial.{FirstStepLaw, NextStepLaw, WholeLaw}
use Rattle.bit_serial.proofs.BitLemmas.{halving, highest_bit, floor_one}

-- terms that are equal below the length
pub weighted_sum-below : (cs : List ℤ) (f g : ℕ → ℤ) → ((k : ℕ) → k < length cs → f k ≡ g k) → weighted_sum cs f ≡ weighted_sum cs g
weighted_sum-below [] f g h = refl
weighted_sum-below (c ∷ cs) f g h = rw (h zero (omega arith), weighted_sum-below cs (λ k. f (suc k)) (λ k. g (suc k)) (λ k p. h (suc k) (omega arith))) refl

times_minus : (a b : ℤ) → a *ℤ (pos 0 -ℤ b) ≡ pos 0 -ℤ a *ℤ b
times_minus a b = omega (arith, ints, *ℤ-+ℤ a (pos 0 -ℤ b) b, ap (λ (n : ℤ). a *ℤ n) (none b))
  where
    none : (b : ℤ) → (pos 0 -ℤ b) +ℤ b ≡ pos 0
    none b = omega (arith, ints)

pub weighted_sum-minus : (cs : List ℤ) (f : ℕ → ℤ) → weighted_sum cs (λ k. pos 0 -ℤ f k) ≡ pos 0 -ℤ weighted_sum cs f
weighted_sum-minus [] f = omega (arith, ints)
weighted_sum-minus (c ∷ cs) f = omega (arith, ints, times_minus c (f zero), weighted_sum-minus cs (λ k. f (suc k)))

pub weighted_sum-double : (cs : List ℤ) (f g : ℕ → ℤ) → weighted_sum cs (λ k. f k *ℤ pos 2 +ℤ g k) ≡ weighted_sum cs f *ℤ pos 2 +ℤ weighted_sum cs g
weighted_sum-double [] f g = omega (arith, ints)
weighted_sum-double (c ∷ cs) f g = omega (
  arith,
  ints,
  *ℤ-+ℤ c (f zero *ℤ pos 2) (g zero),
  *ℤ_assoc c (f zero) (pos 2),
  +ℤ-*ℤ (c *ℤ f zero) (weighted_sum cs (λ k. f (suc k))) (pos 2),
  weighted_sum-double cs (λ k. f (suc k)) (λ k. g (suc k)),
)

pub first_step : FirstStepLaw
first_step w taps x fits =
    sym (weighted_sum-minus taps (λ k. pos (bit_of (w - 1) (x k)))) ∙ weighted_sum-below taps _ _ (λ k h. sym (highest_bit w (x k) (fits k h)))

pub next_step : NextStepLaw
next_step w taps x j h =
    let m = w - 1 - suc j in
    let place : w - 1 - j ≡ suc m = omega arith in
    rw place (sym (weighted_sum-double taps (λ k. floor_quotient (x k) (2 ^ suc m)) (λ k. pos (bit_of m (x k)))) ∙ weighted_sum-same taps _ _ (λ k. sym (halving m (x k))))

pub whole_law : WholeLaw
whole_law taps x = weighted_sum-same taps _ _ (λ k. floor_one (x k))
