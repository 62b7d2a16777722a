-- The least width of two numbers is the greater of the numbers of their bits.
use Rattle.std.proofs.Common.{◌≡◌, ℕ, zero, suc, ◌-◌, ◌/◌, ◌^◌, ◌<◌, ◌≤◌, arith, ℤ, pos, negsuc, FitsSigned}
use Rattle.std.specs.Int.{w128}
use Rattle.std.proofs.lemmas.Int.{ints}
use Rattle.std.proofs.Math.Nat.{pow-suc, pow-le-pow_right}
use Rattle.std.proofs.lemmas.Bool.{ne_eqb}
use Rattle.mr_values.specs.Width.{FitsWidth, IsLeastWidth}
use Rattle.mr_values.specs.Timing.{bit_length_to, signed_bits, wide}

-- how many bits a number has
record HasBits (n bits : ℕ) : Type 0 where
  below : n < 2 ^ bits
  least : (k : ℕ) → n < 2 ^ k → bits ≤ k

has_bits-zero : HasBits 0 0
has_bits-zero = record { below = omega arith; least = λ k h. omega arith }

has_bits-more : (n bits : ℕ) → 0 < n → HasBits (n / 2) bits → HasBits n (suc bits)
has_bits-more n bits some half = record {
  below = omega (arith, half.below, pow-suc 2 bits);
  least = more;
}
  where
    more : (k : ℕ) → n < 2 ^ k → suc bits ≤ k
    more zero h = absurd (omega arith)
    more (suc k) h = let below : n / 2 < 2 ^ k = omega (arith, pow-suc 2 k) in omega (arith, half.least k below)

has_bits : (fuel n : ℕ) → n < 2 ^ fuel → HasBits n (bit_length_to fuel n)
has_bits zero n h = let none : n ≡ 0 = omega arith in rw none has_bits-zero
has_bits (suc fuel) zero h = has_bits-zero
has_bits (suc fuel) (suc m) h =
    rw (ne_eqb (suc m) 0 (λ e. omega arith)) (has_bits-more (suc m) (bit_length_to fuel (suc m / 2)) (omega arith) (has_bits fuel (suc m / 2) (omega (arith, pow-suc 2 fuel))))

bits_hold : (v : ℤ) → FitsSigned w128 v → FitsWidth (signed_bits v) v
bits_hold (pos n) f =
    let b = has_bits 128 n (omega (arith, ints)) in
    let e : suc (bit_length_to 128 n) - 1 ≡ bit_length_to 128 n = omega arith in
    record { low = omega (arith, ints); high = rw e (omega (arith, ints, b.below)) }
bits_hold (negsuc n) f =
    let b = has_bits 128 n (omega (arith, ints)) in
    let e : suc (bit_length_to 128 n) - 1 ≡ bit_length_to 128 n = omega arith in
    record { low = rw e (omega (arith, ints, b.below)); high = omega (arith, ints) }

bits_least : (v : ℤ) (w : ℕ) → FitsSigned w128 v → 1 ≤ w → FitsWidth w v → signed_bits v ≤ w
bits_least (pos n) w f some fits =
    let b = has_bits 128 n (omega (arith, ints)) in
    let below : n < 2 ^ (w - 1) = omega (arith, ints, fits.high) in
    omega (arith, b.least (w - 1) below)
bits_least (negsuc n) w f some fits =
    let b = has_bits 128 n (omega (arith, ints)) in
    let below : n < 2 ^ (w - 1) = omega (arith, ints, fits.low) in
    omega (arith, b.least (w - 1) below)

-- more bits hold as much
holds_more : (w more : ℕ) (v : ℤ) → w ≤ more → FitsWidth w v → FitsWidth more v
holds_more w more v h fits =
    let some : 0 < 2 = omega arith in
    let up : 2 ^ (w - 1) ≤ 2 ^ (more - 1) = pow-le-pow_right some {i = w - 1} {j = more - 1} (omega arith) in
    let low = fits.low in
    let high = fits.high in
    record { low = omega (arith, ints, up); high = omega (arith, ints, up) }

bits_some : (v : ℤ) → 1 ≤ signed_bits v
bits_some (pos n) = omega arith
bits_some (negsuc n) = omega arith

same_from : (a b : ℕ) → a ≤ b → b ≤ a → a ≡ b
same_from a b p q = omega arith

pub wide_least : (low high : ℤ) (w : ℕ) → FitsSigned w128 low → FitsSigned w128 high → IsLeastWidth low high w → w ≡ wide low high
wide_least low high w f g least =
    let a = bits_least low w f least.positive least.holds_low in
    let b = bits_least high w g least.positive least.holds_high in
    let c = holds_more (signed_bits low) (wide low high) low (omega arith) (bits_hold low f) in
    let d = holds_more (signed_bits high) (wide low high) high (omega arith) (bits_hold high g) in
    let some = bits_some low in
    let most : w ≤ wide low high = least.least (wide low high) (omega (arith, some)) c d in
    same_from w (wide low high) most (omega (arith, a, b))

-- ---- what `signed_bits` and `wide` are

-- a number of 128 bits is one of the machine
pub machine : (v : ℤ) → FitsWidth 128 v → FitsSigned w128 v
machine v fits = let low = fits.low in let high = fits.high in omega (arith, ints)

pub wide_law : (low high : ℤ) → FitsWidth 128 low → FitsWidth 128 high → IsLeastWidth low high (wide low high)
wide_law low high p q =
    let f = machine low p in
    let g = machine high q in
    let some = bits_some low in
    record {
      positive = omega (arith, some);
      most = let a = bits_least low 128 f (omega arith) p in let b = bits_least high 128 g (omega arith) q in omega (arith, a, b);
      holds_low = holds_more (signed_bits low) (wide low high) low (omega arith) (bits_hold low f);
      holds_high = holds_more (signed_bits high) (wide low high) high (omega arith) (bits_hold high g);
      least = λ v positive holds other. let a = bits_least low v f positive holds in let b = bits_least high v g positive other in omega (arith, a, b);
    }

pub bits_law : (v : ℤ) → FitsWidth 128 v → IsLeastWidth v v (signed_bits v)
bits_law v fits =
    let f = machine v fits in
    record {
      positive = bits_some v;
      most = bits_least v 128 f (omega arith) fits;
      holds_low = bits_hold v f;
      holds_high = bits_hold v f;
      least = λ w positive holds other. bits_least v w f positive holds;
    }
