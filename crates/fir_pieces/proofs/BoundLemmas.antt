-- How wide what a window and a tree hold is.
use Rattle.std.proofs.Common.{◌≡◌, ℕ, zero, suc, ◌+◌, ◌-◌, ◌*◌, ◌^◌, ◌<◌, ◌≤◌, List, [], ◌∷◌, ap, arith, inl, inr, subst, ◌⊎◌, ℤ, pos, negsuc, ◌*ℤ◌, unsigned_abs}
use Rattle.std.proofs.lemmas.Bool.{cases_lt}
use Rattle.std.proofs.lemmas.Int.{ints, unsigned_abs-mul}
use Rattle.std.proofs.lemmas.Nat.{pow_below, pow-add}
use Rattle.std.proofs.Math.Nat.{mul-le-mul_left, mul-le-mul_right}
use Rattle.mr_values.specs.Sequence.{Sequence, weighted_sum, filter}
use Rattle.mr_values.specs.Width.{FitsWidth, IsLeastWidth}
use Rattle.stage_law.specs.Streams.{Streams, AreWithin, magnitudes}
use Rattle.fir_pieces.specs.Held.{IsFormWidth}
use Rattle.fir_pieces.proofs.FormLemmas.{unsigned_abs-+}

-- a sum of bounded values
pub sum_within : (cs : List ℤ) (f : ℕ → ℤ) (most : ℕ) → ((k : ℕ) → unsigned_abs (f k) ≤ most) → unsigned_abs (weighted_sum cs f) ≤ magnitudes cs * most
sum_within [] f most h = omega arith
sum_within (c ∷ cs) f most h =
    let first = unsigned_abs-mul c (f zero) in
    let bound : unsigned_abs c * unsigned_abs (f zero) ≤ unsigned_abs c * most = mul-le-mul_left (unsigned_abs c) (h zero) in
    let rest = sum_within cs (λ k. f (suc k)) most (λ k. h (suc k)) in
    let both = unsigned_abs-+ (c *ℤ f zero) (weighted_sum cs (λ k. f (suc k))) in
    omega (arith, first, bound, rest, both)

-- a number of small magnitude fits
fits_small : (w : ℕ) (z : ℤ) → unsigned_abs z < 2 ^ (w - 1) → FitsWidth w z
fits_small w (pos n) h = record { low = omega (arith, ints); high = omega (arith, ints) }
fits_small w (negsuc n) h = record { low = omega (arith, ints); high = omega (arith, ints) }

-- the least width of small numbers is small
pub width_small : (lo hi : ℤ) (w most : ℕ) → IsLeastWidth lo hi w → unsigned_abs lo ≤ most → unsigned_abs hi ≤ most → (w ≤ 1) ⊎ (2 ^ (w - 2) ≤ most)
width_small lo hi w most l low high = elim (cases_lt 1 w) [
  | inr few ↦ inl few
  | inl more ↦ elim (cases_lt most (2 ^ (w - 2))) [
    | inr le ↦ inr le
    | inl less ↦
        let same : w - 1 - 1 ≡ w - 2 = omega arith in
        let power : 2 ^ (w - 1 - 1) ≡ 2 ^ (w - 2) = ap (λ (n : ℕ). 2 ^ n) same in
        let narrow = l.least (w - 1) (omega arith) (fits_small (w - 1) lo (omega (arith, power))) (fits_small (w - 1) hi (omega (arith, power))) in
        absurd (omega arith)
  ]
]

-- a power of two below another has the lesser place
pub place_below : (a b : ℕ) → 2 ^ a ≤ 2 ^ b → a ≤ b
place_below a b h = elim (cases_lt b a) [
  | inl more ↦ absurd (let strict = pow_below b a more in omega arith)
  | inr le ↦ le
]

-- a value of the streams, shifted, has room
pub shift_room : (w place most gain : ℕ) → (w ≤ 1) ⊎ (2 ^ (w - 2) ≤ most) → 2 ^ place ≤ gain → place ≤ 90 → (room : ℕ) → most * gain ≤ 2 ^ room → 90 ≤ room → w + place ≤ room + 2
shift_room w place most gain way power low room h much = elim way [
  | inl few ↦ omega arith
  | inr le ↦
      let first : 2 ^ (w - 2) * 2 ^ place ≤ most * 2 ^ place = mul-le-mul_right (2 ^ place) le in
      let second : most * 2 ^ place ≤ most * gain = mul-le-mul_left most power in
      let sum : 2 ^ (w - 2 + place) ≡ 2 ^ (w - 2) * 2 ^ place = pow-add 2 (w - 2) place in
      let both = place_below (w - 2 + place) room (omega arith) in
      omega arith
]

-- the ends of a range are sums that are reached
pub range_within : (streams : Streams) (form : List ℤ) (w most bound : ℕ) → AreWithin streams most → ((v : Sequence) → streams v → (k : ℕ) → unsigned_abs (filter form v (pos k)) ≤ bound) → IsFormWidth streams form w → (w ≤ 1) ⊎ (2 ^ (w - 2) ≤ bound)
range_within streams form w most bound within each f =
    let low = f.is_range.low_reached in
    let high = f.is_range.high_reached in
    width_small f.range.lo f.range.hi w bound f.least
    (subst (λ (z : ℤ). unsigned_abs z ≤ bound) low.is (each low.stream low.is_one low.index))
    (subst (λ (z : ℤ). unsigned_abs z ≤ bound) high.is (each high.stream high.is_one high.index))
