-- Single bits of a number, and its lowest bits, as nodes have them.
use Rattle.std.proofs.Common.{◌≡◌, ℕ, zero, suc, ◌+◌, ◌-◌, ◌*◌, ◌^◌, ◌<◌, ◌≤◌, refl, ◌∙◌, ap, arith, lit<, ℤ, pos, negsuc, ◌+ℤ◌, ◌-ℤ◌, ◌*ℤ◌, Bool, true, false, cond, nat_eq}
use Rattle.std.proofs.lemmas.Int.{ints}
use Rattle.std.proofs.lemmas.Nat.{pow_pos}
use lib.Dec.{eqb}
use borrow.Author.Tests.{eqb-true, eqb-false}
use Rattle.mr_values.specs.Width.{FitsWidth, wrap, floor_quotient, floor_remainder}
use Rattle.mr_values.proofs.Division.{floor_split, floor_remainder_below, floor_unique, pow_halves}
use Rattle.mr_values.proofs.Ring.{+ℤ-*ℤ, *ℤ_assoc}
use Rattle.mr_values.proofs.WidthLemmas.{wrap_fits, wrap_zero, fits_pos}
use Rattle.mr_values.proofs.Wrapping.{wrap_unique}
use Rattle.net_graph.specs.Run.{equality, selected}
use Rattle.rounding_stage.specs.Bits.{least_of}

-- ---- a bit as a signed number of one bit

pub set_one : wrap 1 (pos 1) ≡ negsuc 0
set_one = wrap_unique 1 (pos 1) (negsuc 0) (pos 1) (omega arith) (record { low = omega (arith, ints); high = omega (arith, ints) }) (omega (arith, ints))

pub set_none : wrap 1 (pos 0) ≡ pos 0
set_none = wrap_zero 1 (omega arith)

pub set_all : wrap 1 (negsuc 0) ≡ negsuc 0
set_all = wrap_fits 1 (negsuc 0) (omega arith) (record { low = omega (arith, ints); high = omega (arith, ints) })

-- 0 or -1
abbrev pub bit_value : ℕ → ℤ
bit_value zero = pos 0
bit_value (suc n) = negsuc 0

pub wrap_bit : (b : ℕ) → b < 2 → wrap 1 (pos b) ≡ bit_value b
wrap_bit zero h = set_none
wrap_bit (suc zero) h = set_one
wrap_bit (suc (suc b)) h = absurd (omega arith)

pub wrap_value : (b : ℕ) → wrap 1 (bit_value b) ≡ bit_value b
wrap_value zero = set_none
wrap_value (suc b) = set_all

-- ---- equal numbers

pub same_number : (a b : ℤ) → a ≡ b → wrap 1 (equality a b) ≡ negsuc 0
same_number (pos m) (pos n) e = by (nat_eq m n) refl
  where
    by : (t : Bool) → nat_eq m n ≡ t → wrap 1 (cond t (pos 1) (pos 0)) ≡ negsuc 0
    by true f = set_one
    by false f = absurd (omega (arith, ints, eqb-false))
same_number (pos m) (negsuc n) e = absurd (omega (arith, ints))
same_number (negsuc m) (pos n) e = absurd (omega (arith, ints))
same_number (negsuc m) (negsuc n) e = by (nat_eq m n) refl
  where
    by : (t : Bool) → nat_eq m n ≡ t → wrap 1 (cond t (pos 1) (pos 0)) ≡ negsuc 0
    by true f = set_one
    by false f = absurd (omega (arith, ints, eqb-false))

pub other_number : (a b : ℤ) → (a ≡ b → ⊥) → wrap 1 (equality a b) ≡ pos 0
other_number (pos m) (pos n) e = by (nat_eq m n) refl
  where
    by : (t : Bool) → nat_eq m n ≡ t → wrap 1 (cond t (pos 1) (pos 0)) ≡ pos 0
    by true f = absurd (e (omega (arith, ints, eqb-true)))
    by false f = set_none
other_number (pos m) (negsuc n) e = set_none
other_number (negsuc m) (pos n) e = set_none
other_number (negsuc m) (negsuc n) e = by (nat_eq m n) refl
  where
    by : (t : Bool) → nat_eq m n ≡ t → wrap 1 (cond t (pos 1) (pos 0)) ≡ pos 0
    by true f = absurd (e (omega (arith, ints, eqb-true)))
    by false f = set_none

-- ---- division by powers of two

pub whole_quotient : (v : ℤ) → floor_quotient v (2 ^ 0) ≡ v
whole_quotient v = (floor_unique v v (2 ^ 0) 0 (omega arith) (omega (arith, ints))).0

-- the quotient by a power, from the one by half of it and the bit between
pub record Halves (s : ℕ) (v : ℤ) (bit : ℕ) : Type 0 where
  pub below : floor_quotient v (2 ^ (s - 1)) ≡ floor_quotient v (2 ^ s) *ℤ pos 2 +ℤ pos bit
  pub is : floor_remainder (floor_quotient v (2 ^ (s - 1))) 2 ≡ bit

twice_half : (q : ℤ) (half : ℕ) → q *ℤ pos 2 *ℤ pos half ≡ q *ℤ pos (half + half)
twice_half q half =
    let two : pos 2 *ℤ pos half ≡ pos (half + half) = omega (arith, ints) in
    *ℤ_assoc q (pos 2) (pos half) ∙ ap (λ (z : ℤ). q *ℤ z) two

halves_by : (q v : ℤ) (half r bit : ℕ) → 0 < half → r < half → v ≡ q *ℤ pos (half + half) +ℤ pos (bit * half + r) → floor_quotient v half ≡ q *ℤ pos 2 +ℤ pos bit
halves_by q v half r bit some less e =
    let parts : (q *ℤ pos 2 +ℤ pos bit) *ℤ pos half ≡ q *ℤ pos (half + half) +ℤ pos (bit * half) = +ℤ-*ℤ (q *ℤ pos 2) (pos bit) (pos half) ∙ ap (λ (z : ℤ). z +ℤ pos (bit * half)) (twice_half q half) in
    (floor_unique v (q *ℤ pos 2 +ℤ pos bit) half r less (e ∙ omega (arith, ints, parts))).0

halves_of : (s : ℕ) (v : ℤ) (bit r : ℕ) → 1 ≤ s → bit < 2 → r < 2 ^ (s - 1) → floor_remainder v (2 ^ s) ≡ bit * 2 ^ (s - 1) + r → Halves s v bit
halves_of s v bit r h two less e =
    let q = floor_quotient v (2 ^ s) in
    let half = 2 ^ (s - 1) in
    let split : v ≡ q *ℤ pos (half + half) +ℤ pos (bit * half + r) =
    floor_split v (2 ^ s) (pow_pos s) ∙ ap (λ (n : ℕ). q *ℤ pos (2 ^ s) +ℤ pos n) e ∙ ap (λ (n : ℕ). q *ℤ pos n +ℤ pos (bit * half + r)) (pow_halves s h) in
    let below = halves_by q v half r bit (pow_pos (s - 1)) less split in
    record { below = below; is = (floor_unique (floor_quotient v half) q 2 bit two below).1 }

-- the highest bit of the remainder: 0 below the half, 1 from it on
pub low_half : (s : ℕ) (v : ℤ) → 1 ≤ s → floor_remainder v (2 ^ s) < 2 ^ (s - 1) → Halves s v 0
low_half s v h less = halves_of s v 0 (floor_remainder v (2 ^ s)) h (omega arith) less (omega arith)

pub high_half : (s : ℕ) (v : ℤ) → 1 ≤ s → 2 ^ (s - 1) ≤ floor_remainder v (2 ^ s) → Halves s v 1
high_half s v h more =
    let below = floor_remainder_below v (2 ^ s) (pow_pos s) in
    halves_of s v 1 (floor_remainder v (2 ^ s) - 2 ^ (s - 1)) h (omega arith) (omega (arith, below, pow_halves s h, more)) (omega (arith, more))

-- ---- selections

-- the bit of one place
pub one_bit : (v : ℤ) (place : ℕ) → wrap 1 (selected v place place) ≡ bit_value (floor_remainder (floor_quotient v (2 ^ place)) 2)
one_bit v place =
    let width : place - place + 1 ≡ 1 = omega arith in
    ap (λ (w : ℕ). wrap 1 (pos (floor_remainder (floor_quotient v (2 ^ place)) (2 ^ w)))) width
    ∙ wrap_bit (floor_remainder (floor_quotient v (2 ^ place)) 2) (floor_remainder_below (floor_quotient v (2 ^ place)) 2 (lit< tt))

-- the lowest bits are the remainder
pub low_bits : (s : ℕ) (v : ℤ) → 1 ≤ s → selected v (s - 1) 0 ≡ pos (floor_remainder v (2 ^ s))
low_bits s v h =
    let width : s - 1 - 0 + 1 ≡ s = omega arith in
    ap (λ (w : ℕ). pos (floor_remainder (floor_quotient v (2 ^ 0)) (2 ^ w))) width ∙ ap (λ (z : ℤ). pos (floor_remainder z (2 ^ s))) (whole_quotient v)

pub fits_least : (s : ℕ) → FitsWidth s (least_of s)
fits_least s = let some = pow_pos (s - 1) in record { low = omega (arith, ints); high = omega (arith, ints, some) }

pub least_twice : (s : ℕ) → 1 ≤ s → wrap s (wrap s (least_of s)) ≡ least_of s
least_twice s h = ap (wrap s) (wrap_fits s (least_of s) h (fits_least s)) ∙ wrap_fits s (least_of s) h (fits_least s)

-- of the remainders the half alone is the least number
pub tie_low : (s r : ℕ) → 1 ≤ s → r < 2 ^ (s - 1) → wrap s (pos r) ≡ least_of s → ⊥
tie_low s r h less e =
    let is = wrap_fits s (pos r) h (fits_pos s r less) in
    let some = pow_pos (s - 1) in
    absurd (omega (arith, ints, is, e, some))

above_is : (s r : ℕ) → 1 ≤ s → 2 ^ (s - 1) ≤ r → r < 2 ^ s → wrap s (pos r) ≡ pos r -ℤ pos (2 ^ s)
above_is s r h more less =
    wrap_unique s (pos r) (pos r -ℤ pos (2 ^ s)) (pos 1) h (record { low = omega (arith, ints, more, pow_halves s h); high = omega (arith, ints, less) }) (omega (arith, ints))

pub tie_high : (s r : ℕ) → 1 ≤ s → 2 ^ (s - 1) < r → r < 2 ^ s → wrap s (pos r) ≡ least_of s → ⊥
tie_high s r h more less e = absurd (omega (arith, ints, above_is s r h (omega (arith, more)) less, e, pow_halves s h, more))

pub tie_half : (s r : ℕ) → 1 ≤ s → r ≡ 2 ^ (s - 1) → wrap s (pos r) ≡ least_of s
tie_half s r h e =
    let some = pow_pos (s - 1) in
    above_is s r h (omega (arith, e)) (omega (arith, e, pow_halves s h, some)) ∙ omega (arith, ints, e, pow_halves s h)
