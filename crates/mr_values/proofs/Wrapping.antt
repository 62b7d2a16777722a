-- Wrapping to a width: the one number that fits and differs by a multiple of the power.
use Rattle.std.proofs.Common.{◌≡◌, ℕ, ◌+◌, ◌-◌, ◌^◌, ◌<◌, ◌≤◌, ℤ, pos, ◌+ℤ◌, ◌-ℤ◌, ◌*ℤ◌, arith, lit<, sym, ◌∙◌, ap}
use Rattle.std.proofs.lemmas.Int.{ints}
use Rattle.std.proofs.lemmas.Nat.{pow_pos}
use borrow.Author.Differences.{up, down, product_is, sum_is_lem}
use Rattle.mr_values.specs.Width.{FitsWidth, pattern, signed, wrap, floor_quotient, floor_remainder}
use Rattle.mr_values.proofs.Ring.{+ℤ-*ℤ, *ℤ_assoc}
use Rattle.mr_values.proofs.Division.{floor_split, floor_remainder_below, pow_halves}
use Rattle.mr_values.proofs.WidthLemmas.{pattern-lt, pattern_split, pattern_from, signed-pattern}

-- the only number that fits and differs from z by a multiple of the power
pub wrap_unique : (w : ℕ) (z v k : ℤ) → 1 ≤ w → FitsWidth w v → z ≡ v +ℤ k *ℤ pos (2 ^ w) → wrap w z ≡ v
wrap_unique w z v k h fits e =
    let m = 2 ^ w in
    let s = pattern_split w v in
    let same : pattern w v ≡ pattern w z =
    pattern_from w (pattern w v) z (s.0 + up k) (s.1 + down k) (pattern-lt w v) (omega (arith, ints, s.2, e, product_is k (pos m), sum_is_lem v (k *ℤ pos m))) in
    ap (signed w) (sym same) ∙ signed-pattern w v h fits

-- a number by its low bits and the parity of the rest
pub wrap_even : (w : ℕ) (z : ℤ) → 1 ≤ w → floor_remainder (floor_quotient z (2 ^ (w - 1))) 2 ≡ 0 → wrap w z ≡ pos (floor_remainder z (2 ^ (w - 1)))
wrap_even w z h even =
    let half = 2 ^ (w - 1) in
    let high = floor_quotient z half in
    let low = floor_remainder z half in
    let k = floor_quotient high 2 in
    let below : low < half = floor_remainder_below z half (pow_pos (w - 1)) in
    let fits : FitsWidth w (pos low) = record { low = omega (arith, ints); high = omega (arith, ints) } in
    let double : high ≡ k *ℤ pos 2 = omega (arith, ints, floor_split high 2 (lit< tt)) in
    let whole : pos 2 *ℤ pos half ≡ pos (2 ^ w) = omega (arith, ints, pow_halves w h) in
    let split : z ≡ pos low +ℤ k *ℤ pos (2 ^ w) =
    omega (arith, ints, floor_split z half (pow_pos (w - 1)), ap (λ (n : ℤ). n *ℤ pos half) double, *ℤ_assoc k (pos 2) (pos half), ap (λ (n : ℤ). k *ℤ n) whole) in
    wrap_unique w z (pos low) k h fits split

pub wrap_odd : (w : ℕ) (z : ℤ) → 1 ≤ w → floor_remainder (floor_quotient z (2 ^ (w - 1))) 2 ≡ 1 → wrap w z ≡ pos (floor_remainder z (2 ^ (w - 1))) -ℤ pos (2 ^ (w - 1))
wrap_odd w z h odd =
    let half = 2 ^ (w - 1) in
    let high = floor_quotient z half in
    let low = floor_remainder z half in
    let k = floor_quotient high 2 in
    let below : low < half = floor_remainder_below z half (pow_pos (w - 1)) in
    let fits : FitsWidth w (pos low -ℤ pos half) = record { low = omega (arith, ints); high = omega (arith, ints) } in
    let double : high ≡ k *ℤ pos 2 +ℤ pos 1 = omega (arith, ints, floor_split high 2 (lit< tt)) in
    let whole : pos 2 *ℤ pos half ≡ pos (2 ^ w) = omega (arith, ints, pow_halves w h) in
    let split : z ≡ (pos low -ℤ pos half) +ℤ (k +ℤ pos 1) *ℤ pos (2 ^ w) =
    omega (arith, ints, floor_split z half (pow_pos (w - 1)), pow_halves w h, ap (λ (n : ℤ). n *ℤ pos half) double, +ℤ-*ℤ (k *ℤ pos 2) (pos 1) (pos half), *ℤ_assoc k (pos 2) (pos half), ap (λ (n : ℤ). k *ℤ n) whole, +ℤ-*ℤ k (pos 1) (pos (2 ^ w))) in
    wrap_unique w z (pos low -ℤ pos half) (k +ℤ pos 1) h fits split
