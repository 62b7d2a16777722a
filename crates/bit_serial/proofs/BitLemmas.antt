-- Bits by division that rounds down.
use Rattle.std.proofs.Common.{◌≡◌, ℕ, zero, suc, ◌+◌, ◌-◌, ◌*◌, ◌/◌, ◌%◌, ◌^◌, ◌<◌, ℤ, pos, negsuc, ◌+ℤ◌, ◌-ℤ◌, ◌*ℤ◌, arith, lit<, refl, sym, ◌∙◌, ap, ◌⊎◌, inl, inr}
use Rattle.std.proofs.lemmas.Int.{ints}
use Rattle.std.proofs.lemmas.Nat.{pow_pos, pow-add, div-add-mod', mod_below}
use Rattle.std.proofs.Math.Nat.{pow-suc}
use borrow.Author.Differences.{up, down}
use Rattle.mr_values.specs.Width.{pattern, floor_quotient, floor_remainder}
use Rattle.mr_values.proofs.Ring.{+ℤ-*ℤ, *ℤ_assoc}
use Rattle.mr_values.proofs.Division.{floor_split, floor_remainder_below, floor_unique}
use Rattle.mr_values.proofs.WidthLemmas.{pattern_split, pattern-wrap}
use Rattle.bit_serial.specs.Bits.{bit_of, HalvingLaw, SmallBitLaw, PatternLaw, HighestBitLaw, KeepsBits, shifted, ShiftedLaw, CutsLaw}

pub small_bit : SmallBitLaw
small_bit m v = floor_remainder_below (floor_quotient v (2 ^ m)) 2 (lit< tt)

-- a number is what its two lowest parts leave
whole_split : (v q : ℤ) (r p b : ℕ) → v ≡ q *ℤ pos p +ℤ pos r → (h : ℤ) → q ≡ h *ℤ pos 2 +ℤ pos b → v ≡ h *ℤ pos (2 * p) +ℤ pos (b * p + r)
whole_split v q r p b e h d =
    let twice : pos 2 *ℤ pos p ≡ pos (2 * p) = omega (arith, ints) in
    omega (arith, ints, e, ap (λ (n : ℤ). n *ℤ pos p) d, +ℤ-*ℤ (h *ℤ pos 2) (pos b) (pos p), *ℤ_assoc h (pos 2) (pos p), ap (λ (n : ℤ). h *ℤ n) twice)

pub halving : HalvingLaw
halving m v =
    let p = 2 ^ m in
    let q = floor_quotient v p in
    let h = floor_quotient q 2 in
    let b = bit_of m v in
    let r = floor_remainder v p in
    let split : q ≡ h *ℤ pos 2 +ℤ pos b = floor_split q 2 (lit< tt) in
    let whole = whole_split v q r p b (floor_split v p (pow_pos m)) h split in
    let below : b * p + r < 2 * p = below_two b r p (small_bit m v) (floor_remainder_below v p (pow_pos m)) in
    let power : 2 * p ≡ 2 ^ suc m = omega (arith, pow-suc 2 m) in
    let same : floor_quotient v (2 ^ suc m) ≡ h = rw power at (floor_unique v h (2 * p) (b * p + r) below whole).0 in
    rw same split
  where
    below_two : (b r p : ℕ) → b < 2 → r < p → b * p + r < 2 * p
    below_two zero r p c d = omega arith
    below_two (suc zero) r p c d = omega arith
    below_two (suc (suc b)) r p c d = absurd (omega arith)

-- ---- bits of a pattern

power_split : (m d w : ℕ) → suc d + m ≡ w → 2 ^ w ≡ 2 ^ d * 2 * 2 ^ m
power_split m d w e = ap (λ (n : ℕ). 2 ^ n) (sym e) ∙ pow-add 2 (suc d) m ∙ ap (λ (n : ℕ). n * 2 ^ m) (pow-suc 2 d)

-- a number and its lowest bits, in multiples of an even power
bit_from : (m d w r j k : ℕ) (v : ℤ) → suc d + m ≡ w → up v + k * 2 ^ w ≡ r + down v + j * 2 ^ w → bit_of m v ≡ r / 2 ^ m % 2
bit_from m d w r j k v e is =
    let p = 2 ^ m in
    let half = 2 ^ d in
    let a = r / p in
    let whole = power_split m d w e in
    let q : ℤ = pos (a + j * half * 2) +ℤ (pos 0 -ℤ pos (k * half * 2)) in
    let below : r % p < p = mod_below r p (pow_pos m) in
    let at_q : v ≡ q *ℤ pos p +ℤ pos (r % p) =
    omega (arith, ints, is, div-add-mod' r p, ap (λ (n : ℕ). j * n) whole, ap (λ (n : ℕ). k * n) whole, +ℤ-*ℤ (pos (a + j * half * 2)) (pos 0 -ℤ pos (k * half * 2)) (pos p), minus_times (k * half * 2) p) in
    let first : floor_quotient v p ≡ q = (floor_unique v q p (r % p) below at_q).0 in
    let bit : a % 2 < 2 = mod_below a 2 (lit< tt) in
    let at_half : q ≡ (pos (a / 2 + j * half) -ℤ pos (k * half)) *ℤ pos 2 +ℤ pos (a % 2) = omega (arith, ints, div-add-mod' a 2) in
    ap (λ (n : ℤ). floor_remainder n 2) first ∙ (floor_unique q (pos (a / 2 + j * half) -ℤ pos (k * half)) 2 (a % 2) bit at_half).1
  where
    minus_times : (a b : ℕ) → (pos 0 -ℤ pos a) *ℤ pos b ≡ pos 0 -ℤ pos (a * b)
    minus_times a b = omega (arith, ints, +ℤ-*ℤ (pos 0 -ℤ pos a) (pos a) (pos b), ap (λ (n : ℤ). n *ℤ pos b) (none a))
      where
        none : (a : ℕ) → (pos 0 -ℤ pos a) +ℤ pos a ≡ pos 0
        none a = omega (arith, ints)

pub pattern_bit : PatternLaw
pattern_bit w m v h =
    let s = pattern_split w v in
    bit_from m (w - 1 - m) w (pattern w v) s.0 s.1 v (omega arith) s.2

-- ---- the highest bit

pub floor_one : (v : ℤ) → floor_quotient v (2 ^ 0) ≡ v
floor_one v = (floor_unique v v 1 0 (lit< tt) (omega (arith, ints))).0

none_or_all : (q : ℤ) → (q ≡ pos 0) ⊎ (q ≡ negsuc 0) → q ≡ pos 0 -ℤ pos (floor_remainder q 2)
none_or_all q (inl e) = rw e refl
none_or_all q (inr e) = rw e refl

pub highest_bit : HighestBitLaw
highest_bit w (pos n) f =
    let below : n < 2 ^ (w - 1) = let h = f.high in omega (arith, ints) in
    none_or_all (floor_quotient (pos n) (2 ^ (w - 1))) (inl (floor_unique (pos n) (pos 0) (2 ^ (w - 1)) n below (omega (arith, ints))).0)
highest_bit w (negsuc n) f =
    let p = 2 ^ (w - 1) in
    let below : n < p = let h = f.low in omega (arith, ints) in
    none_or_all (floor_quotient (negsuc n) p) (inr (floor_unique (negsuc n) (negsuc 0) p (p - 1 - n) (omega arith) (omega (arith, ints))).0)

-- ---- a copy that is shifted up

pub same_bit : (w m : ℕ) (u v : ℤ) → m < w → pattern w u ≡ pattern w v → bit_of m u ≡ bit_of m v
same_bit w m u v h e = pattern_bit w m u h ∙ ap (λ (n : ℕ). n / 2 ^ m % 2) e ∙ sym (pattern_bit w m v h)

pub double_bit : (m : ℕ) (v : ℤ) → bit_of (suc m) (v *ℤ pos 2) ≡ bit_of m v
double_bit m v =
    let p = 2 ^ m in
    let q = floor_quotient v p in
    let r = floor_remainder v p in
    let power : 2 * p ≡ 2 ^ suc m = omega (arith, pow-suc 2 m) in
    let below : r < p = floor_remainder_below v p (pow_pos m) in
    let turned : q *ℤ pos p *ℤ pos 2 ≡ q *ℤ pos (2 * p) = *ℤ_assoc q (pos p) (pos 2) ∙ ap (λ (n : ℤ). q *ℤ n) (omega (arith, ints)) in
    let split : v *ℤ pos 2 ≡ q *ℤ pos (2 * p) +ℤ pos (2 * r) = omega (arith, ints, ap (λ (n : ℤ). n *ℤ pos 2) (floor_split v p (pow_pos m)), +ℤ-*ℤ (q *ℤ pos p) (pos r) (pos 2), turned) in
    let same : floor_quotient (v *ℤ pos 2) (2 ^ suc m) ≡ q = rw power at (floor_unique (v *ℤ pos 2) q (2 * p) (2 * r) (omega arith) split).0 in
    ap (λ (n : ℤ). floor_remainder n 2) same

pub shifted_bit : (w : ℕ) (cut : ℤ → ℤ) → KeepsBits w cut → (j m : ℕ) (v : ℤ) → j + m < w → bit_of (j + m) (shifted cut j v) ≡ bit_of m v
shifted_bit w cut keeps zero m v h = ap (λ (n : ℕ). bit_of n v) (omega arith)
shifted_bit w cut keeps (suc j) m v h =
    let s = shifted cut j v in
    ap (λ (n : ℕ). bit_of n (cut (s *ℤ pos 2))) (next j m) ∙ same_bit w (suc (j + m)) (cut (s *ℤ pos 2)) (s *ℤ pos 2) (omega arith) (keeps (s *ℤ pos 2)) ∙ double_bit (j + m) s ∙ shifted_bit w cut keeps j m v (omega arith)
  where
    next : (j m : ℕ) → suc j + m ≡ suc (j + m)
    next j m = omega arith

pub shifted_law : ShiftedLaw
shifted_law w cut keeps j v h =
    let place : j + (w - 1 - j) ≡ w - 1 = omega arith in
    rw place at (shifted_bit w cut keeps j (w - 1 - j) v (omega arith))

pub cuts_law : CutsLaw
cuts_law w h = (λ v. pattern-wrap w v h, λ v. refl)
