-- A number that needs so many bits doesn't fit fewer.
use Rattle.std.proofs.Common.{◌≡◌, ◌∙◌, ℕ, zero, suc, ◌-◌, ◌/◌, ◌^◌, ◌<◌, ◌≤◌, max, sym, ap, arith, inl, inr, Bool, true, false, nat_eq, ℤ, pos, negsuc}
use Rattle.std.proofs.lemmas.Int.{ints}
use Rattle.std.proofs.Math.Nat.{pow-suc}
use Rattle.std.proofs.lemmas.Bool.{cases_lt, eqb-true, eqb-false, ne_eqb}
use Rattle.mr_values.specs.Width.{FitsWidth}
use Rattle.mr_values.specs.Timing.{bit_length_to, signed_bits}
use Rattle.stage_law.specs.Registers.{bits_for, needs_high}
use Rattle.stage_law.specs.declared.ranges.Range.{Range}
use Rattle.width_extreme.specs.Furthest.{end_of}

length_least : (fuel n k : ℕ) → n < 2 ^ k → bit_length_to fuel n ≤ k
length_least zero n k h = omega arith
length_least (suc fuel) zero k h = omega arith
length_least (suc fuel) (suc m) zero h = absurd (omega arith)
length_least (suc fuel) (suc m) (suc k) h =
    let half : suc m / 2 < 2 ^ k = omega (arith, pow-suc 2 k) in
    rw (ne_eqb (suc m) 0 (λ e. omega arith)) (let rest = length_least fuel (suc m / 2) k half in omega (arith, rest))

pub bits_least : (z : ℤ) (w : ℕ) → 1 ≤ w → FitsWidth w z → signed_bits z ≤ w
bits_least (pos n) w some fits =
    let below : n < 2 ^ (w - 1) = omega (arith, ints, fits.high) in
    let few = length_least 128 n (w - 1) below in
    omega (arith, few, some)
bits_least (negsuc n) w some fits =
    let below : n < 2 ^ (w - 1) = omega (arith, ints, fits.low) in
    let few = length_least 128 n (w - 1) below in
    omega (arith, few, some)

-- the end of a range that is meant needs all of the range's bits
end-bits : (range : Range) (bits : ℕ) (b : Bool) → nat_eq (signed_bits range.hi) bits ≡ b → bits_for range ≡ bits → signed_bits (end_of b range) ≡ bits
end-bits range bits true is whole = eqb-true (signed_bits range.hi) bits is
end-bits range bits false is whole = other (signed_bits range.lo) (signed_bits range.hi) bits whole (eqb-false (signed_bits range.hi) bits is)
  where
    other : (low high most : ℕ) → max low high ≡ most → (high ≡ most → ⊥) → low ≡ most
    other low high most whole ne = elim (cases_lt low high) [
      | inl less ↦ absurd (ne (omega (arith, whole, less)))
      | inr le ↦ omega (arith, whole, le)
    ]

pub end-over : (range : Range) (bits : ℕ) (high : Bool) (value : ℤ) → high ≡ needs_high range bits → bits_for range ≡ bits → 2 ≤ bits → value ≡ end_of high range → FitsWidth (bits - 1) value → ⊥
end-over range bits high value is whole some end fits =
    let own : signed_bits value ≡ bits = ap (λ (z : ℤ). signed_bits z) end ∙ end-bits range bits high (sym is) whole in
    let least = bits_least value (bits - 1) (omega (arith, some)) fits in
    absurd (omega (arith, own, least, some))
