-- Laws of `pattern`, `signed`, `wrap` and `extended`: bits against whole numbers.
use Rattle.std.proofs.Common.{◌≡◌, ℕ, suc, ◌+◌, ◌-◌, ◌*◌, ◌/◌, ◌%◌, ◌^◌, ◌<◌, ◌≤◌, ℤ, pos, negsuc, neg_ℤ, ◌+ℤ◌, ◌-ℤ◌, ◌*ℤ◌, refl, sym, ◌∙◌, ap, arith, Bool, true, false, cond, ◌⊎◌, inl, inr}
use Rattle.std.proofs.lemmas.Int.{ints}
use Rattle.std.proofs.lemmas.Nat.{pow_pos, pow-add}
use native.Mathlib.Nat.{add-mul-mod_self_right, div-add-mod', mod-eq_of_lt, mod-lt, pow-le-pow_right, mul-le-mul_right}
use borrow.Author.Differences.{up, down, same_in, same_out, sum_is_lem, neg_is, product_is}
use lib.Dec.{ltb}
use mir.Val.{SFits, of_z}
use mir.Syntax.{w128}
use borrow.Author.Tests.{ltb-true, ltb-false, eq-eqb, ne_eqb}
use Rattle.mr_values.specs.Width.{FitsWidth, pattern, signed, wrap, extended, set_bit, equal_bit}

-- two numbers below m that differ by multiples of m are one
same_residue : (m r s j k : ℕ) → r < m → s < m → r + j * m ≡ s + k * m → r ≡ s
same_residue m r s j k p q e =
    sym (mod-eq_of_lt p) ∙ sym (add-mul-mod_self_right r j m) ∙ ap (λ x. x % m) e ∙ add-mul-mod_self_right s k m ∙ mod-eq_of_lt q

pub pattern-lt : (w : ℕ) (v : ℤ) → pattern w v < 2 ^ w
unfolding pattern
pattern-lt w (pos n) = mod-lt n (pow_pos w)
pattern-lt w (negsuc n) = omega (arith, pow_pos w)

-- v and its pattern differ by multiples of 2 ^ w
pub pattern_split : (w : ℕ) (v : ℤ) → (j : ℕ) × (k : ℕ) × (up v + k * 2 ^ w ≡ pattern w v + down v + j * 2 ^ w)
unfolding pattern
pattern_split w (pos n) = (n / 2 ^ w, 0, omega (arith, div-add-mod' n (2 ^ w)))
pattern_split w (negsuc n) = (0, suc (n / 2 ^ w), omega (arith, div-add-mod' n (2 ^ w), mod-lt n (pow_pos w)))

-- what lies below 2 ^ w and differs from v by multiples of 2 ^ w is the pattern of v
pub pattern_from : (w r : ℕ) (v : ℤ) (j k : ℕ) → r < 2 ^ w → up v + k * 2 ^ w ≡ r + down v + j * 2 ^ w → r ≡ pattern w v
pattern_from w r v j k small e =
    let s = pattern_split w v in
    same_residue (2 ^ w) r (pattern w v) (j + s.1) (s.0 + k) small (pattern-lt w v) (omega (arith, s.2))

pub pattern-+ : (w : ℕ) (a b : ℤ) → pattern w (a +ℤ b) ≡ (pattern w a + pattern w b) % 2 ^ w
pattern-+ w a b =
    let m = 2 ^ w in
    let s = pattern_split w a in
    let t = pattern_split w b in
    let sum = pattern w a + pattern w b in
    sym (pattern_from w (sum % m) (a +ℤ b) (s.0 + t.0 + sum / m) (s.1 + t.1) (mod-lt sum (pow_pos w))
    (omega (arith, s.2, t.2, div-add-mod' sum m, sum_is_lem a b)))

pub pattern-- : (w : ℕ) (a b : ℤ) → pattern w (a -ℤ b) ≡ (pattern w a + (2 ^ w - pattern w b)) % 2 ^ w
pattern-- w a b =
    let m = 2 ^ w in
    let s = pattern_split w a in
    let t = pattern_split w b in
    let sum = pattern w a + (m - pattern w b) in
    sym (pattern_from w (sum % m) (a -ℤ b) (s.0 + t.1 + sum / m) (s.1 + t.0 + 1) (mod-lt sum (pow_pos w))
    (omega (arith, s.2, t.2, div-add-mod' sum m, sum_is_lem a (neg_ℤ b), neg_is b, pattern-lt w b)))

pub pattern-* : (w k : ℕ) (a : ℤ) → pattern w (a *ℤ pos (2 ^ k)) ≡ (pattern w a * 2 ^ k) % 2 ^ w
pattern-* w k a =
    let m = 2 ^ w in
    let p = 2 ^ k in
    let s = pattern_split w a in
    let product = pattern w a * p in
    let scaled = ap (λ x. x * p) s.2 in
    sym (pattern_from w (product % m) (a *ℤ pos p) (s.0 * p + product / m) (s.1 * p) (mod-lt product (pow_pos w))
    (omega (arith, scaled, div-add-mod' product m, product_is a (pos p))))

-- fewer bits of the same number
pub pattern_cut : (w l : ℕ) (v : ℤ) → w ≤ l → pattern l v % 2 ^ w ≡ pattern w v
pattern_cut w l v h =
    let m = 2 ^ w in
    let p = 2 ^ (l - w) in
    let more : (l - w) + w ≡ l = omega arith in
    let whole : 2 ^ l ≡ p * m = ap (λ x. 2 ^ x) (sym more) ∙ pow-add 2 (l - w) w in
    let s = pattern_split l v in
    let scaled_j = ap (λ x. s.0 * x) whole in
    let scaled_k = ap (λ x. s.1 * x) whole in
    let r = pattern l v in
    pattern_from w (r % m) v (s.0 * p + r / m) (s.1 * p) (mod-lt r (pow_pos w))
    (omega (arith, s.2, scaled_j, scaled_k, div-add-mod' r m))

half : (w : ℕ) → 1 ≤ w → 2 ^ w ≡ 2 ^ (w - 1) + 2 ^ (w - 1)
half w h = let more : 1 + (w - 1) ≡ w = omega arith in let e : 2 ^ w ≡ 2 ^ 1 * 2 ^ (w - 1) = ap (λ x. 2 ^ x) (sym more) ∙ pow-add 2 1 (w - 1) in omega (arith, e)

-- a number of w bits, as a difference of naturals
pub fits_out : (w : ℕ) (v : ℤ) → FitsWidth w v → (up v < 2 ^ (w - 1) + down v) × (down v ≤ 2 ^ (w - 1) + up v)
fits_out w v f = let l = f.low in let h = f.high in omega (arith, ints)

pub fits_in : (w : ℕ) (v : ℤ) → up v < 2 ^ (w - 1) + down v → down v ≤ 2 ^ (w - 1) + up v → FitsWidth w v
fits_in w v p q = record { low = omega (arith, ints); high = omega (arith, ints) }

small_pattern : (w : ℕ) (v : ℤ) → 1 ≤ w → FitsWidth w v → (pattern w v < 2 ^ (w - 1)) × (v ≡ pos (pattern w v)) ⊎ (2 ^ (w - 1) ≤ pattern w v) × (v ≡ pos (pattern w v) -ℤ pos (2 ^ w))
unfolding pattern
small_pattern w (pos n) h f =
    let o = fits_out w (pos n) f in
    let below : n < 2 ^ w = omega (arith, half w h) in
    let e : n % 2 ^ w ≡ n = mod-eq_of_lt below in
    inl (omega arith, ap pos (sym e))
small_pattern w (negsuc n) h f =
    let o = fits_out w (negsuc n) f in
    let below : n < 2 ^ w = omega (arith, half w h) in
    let e : n % 2 ^ w ≡ n = mod-eq_of_lt below in
    inr (omega (arith, half w h), same_in (negsuc n) (pos (2 ^ w - 1 - n % 2 ^ w) -ℤ pos (2 ^ w)) (omega (arith, e, sum_is_lem (pos (2 ^ w - 1 - n % 2 ^ w)) (neg_ℤ (pos (2 ^ w))), neg_is (pos (2 ^ w)))))

pub signed-pattern : (w : ℕ) (v : ℤ) → 1 ≤ w → FitsWidth w v → signed w (pattern w v) ≡ v
unfolding signed
signed-pattern w v h f =
    elim (small_pattern w v h f) [
      | inl s ↦ sym (s.1 ∙ read (pattern w v) (ltb (pattern w v) (2 ^ (w - 1))) refl s.0)
      | inr s ↦ sym (s.1 ∙ write (pattern w v) (ltb (pattern w v) (2 ^ (w - 1))) refl s.0)
    ]
  where
    read : (n : ℕ) (t : Bool) → ltb n (2 ^ (w - 1)) ≡ t → n < 2 ^ (w - 1) → pos n ≡ cond t (pos n) (pos n -ℤ pos (2 ^ w))
    read n true e p = refl
    read n false e p = absurd (omega (arith, ltb-false))

    write : (n : ℕ) (t : Bool) → ltb n (2 ^ (w - 1)) ≡ t → 2 ^ (w - 1) ≤ n → pos n -ℤ pos (2 ^ w) ≡ cond t (pos n) (pos n -ℤ pos (2 ^ w))
    write n true e p = absurd (omega (arith, ltb-true))
    write n false e p = refl

-- two numbers of w bits with the same pattern are one
pub pattern_same : (w : ℕ) (a b : ℤ) → 1 ≤ w → FitsWidth w a → FitsWidth w b → pattern w a ≡ pattern w b → a ≡ b
pattern_same w a b h f g e = sym (signed-pattern w a h f) ∙ ap (signed w) e ∙ signed-pattern w b h g

pub wrap_fits : (w : ℕ) (v : ℤ) → 1 ≤ w → FitsWidth w v → wrap w v ≡ v
wrap_fits w v h f = signed-pattern w v h f

-- the signed value of w bits: it fits, and it has these bits
pub signed_is : (w n : ℕ) → 1 ≤ w → n < 2 ^ w → FitsWidth w (signed w n) × (n ≡ pattern w (signed w n))
unfolding signed
signed_is w n h p = by (ltb n (2 ^ (w - 1))) refl
  where
    by : (t : Bool) → ltb n (2 ^ (w - 1)) ≡ t → FitsWidth w (cond t (pos n) (pos n -ℤ pos (2 ^ w))) × (n ≡ pattern w (cond t (pos n) (pos n -ℤ pos (2 ^ w))))
    by true e = let q : n < 2 ^ (w - 1) = omega (arith, ltb-true) in (fits_in w (pos n) (omega arith) (omega arith), pattern_from w n (pos n) 0 0 p (omega arith))
    by false e =
        let q : 2 ^ (w - 1) ≤ n = omega (arith, ltb-false) in
        let s = sum_is_lem (pos n) (neg_ℤ (pos (2 ^ w))) in
        let t = neg_is (pos (2 ^ w)) in
        (fits_in w (pos n -ℤ pos (2 ^ w)) (omega (arith, s, t, half w h)) (omega (arith, s, t, half w h)), pattern_from w n (pos n -ℤ pos (2 ^ w)) 0 1 p (omega (arith, s, t)))

pub FitsWidth-wrap : (w : ℕ) (v : ℤ) → 1 ≤ w → FitsWidth w (wrap w v)
FitsWidth-wrap w v h = (signed_is w (pattern w v) h (pattern-lt w v)).0

pub pattern-wrap : (w : ℕ) (v : ℤ) → 1 ≤ w → pattern w (wrap w v) ≡ pattern w v
pattern-wrap w v h = sym ((signed_is w (pattern w v) h (pattern-lt w v)).1)

-- repeating the top bit keeps the number
pub extended-pattern : (w l : ℕ) (v : ℤ) → 1 ≤ w → w ≤ l → FitsWidth w v → extended w l (pattern w v) ≡ pattern l v
unfolding extended
extended-pattern w l v h le f =
    let n = pattern w v in
    let wider : 2 ^ w ≤ 2 ^ l = pow-le-pow_right {n = 2} (omega arith) le in
    let below = pattern-lt w v in
    elim (small_pattern w v h f) [
      | inl s ↦
          let o = same_out v (pos n) s.1 in
          keeps n (ltb n (2 ^ (w - 1))) refl s.0 ∙ pattern_from l n v 0 0 (omega arith) (omega (arith, o))
      | inr s ↦
          let o = same_out v (pos n -ℤ pos (2 ^ w)) s.1 in
          let d = sum_is_lem (pos n) (neg_ℤ (pos (2 ^ w))) in
          let g = neg_is (pos (2 ^ w)) in
          adds n (ltb n (2 ^ (w - 1))) refl s.0 ∙ pattern_from l (n + (2 ^ l - 2 ^ w)) v 0 1 (omega arith) (omega (arith, o, d, g))
    ]
  where
    keeps : (n : ℕ) (t : Bool) → ltb n (2 ^ (w - 1)) ≡ t → n < 2 ^ (w - 1) → cond t n (n + (2 ^ l - 2 ^ w)) ≡ n
    keeps n true e p = refl
    keeps n false e p = absurd (omega (arith, ltb-false))

    adds : (n : ℕ) (t : Bool) → ltb n (2 ^ (w - 1)) ≡ t → 2 ^ (w - 1) ≤ n → cond t n (n + (2 ^ l - 2 ^ w)) ≡ n + (2 ^ l - 2 ^ w)
    adds n true e p = absurd (omega (arith, ltb-true))
    adds n false e p = refl

pub wrap_zero : (w : ℕ) → 1 ≤ w → wrap w (pos 0) ≡ pos 0
wrap_zero w h = wrap_fits w (pos 0) h (fits_in w (pos 0) (omega (arith, pow_pos (w - 1))) (omega arith))

pub FitsWidth-zero : (w : ℕ) → FitsWidth w (pos 0)
FitsWidth-zero w = fits_in w (pos 0) (omega (arith, pow_pos (w - 1))) (omega arith)

pub fits_pos : (w n : ℕ) → n < 2 ^ (w - 1) → FitsWidth w (pos n)
fits_pos w n h = fits_in w (pos n) (omega arith) (omega arith)

pub FitsWidth-more : (w l : ℕ) (v : ℤ) → w ≤ l → FitsWidth w v → FitsWidth l v
FitsWidth-more w l v h f =
    let o = fits_out w v f in
    let wider : 2 ^ (w - 1) ≤ 2 ^ (l - 1) = pow-le-pow_right {n = 2} (omega arith) (omega arith) in
    fits_in l v (omega arith) (omega arith)

-- ---- bits

pub equal_bit-same : (x y : ℤ) → x ≡ y → equal_bit x y ≡ set_bit
equal_bit-same x y e = rw (← e) (self x)
  where
    self : (z : ℤ) → equal_bit z z ≡ set_bit
    self (pos n) = rw (eq-eqb n n refl) refl
    self (negsuc n) = rw (eq-eqb n n refl) refl

pub equal_bit_apart : (x y : ℤ) → (x ≡ y → ⊥) → equal_bit x y ≡ pos 0
equal_bit_apart (pos a) (pos b) h = rw (ne_eqb a b (λ e. h (ap pos e))) refl
equal_bit_apart (pos a) (negsuc b) h = refl
equal_bit_apart (negsuc a) (pos b) h = refl
equal_bit_apart (negsuc a) (negsuc b) h = rw (ne_eqb a b (λ e. h (ap negsuc e))) refl

pub pattern-zero : (w : ℕ) → pattern w (pos 0) ≡ 0
pattern-zero w = sym (pattern_from w 0 (pos 0) 0 0 (pow_pos w) (omega arith))

pub pattern_some : (w : ℕ) (v : ℤ) → 1 ≤ w → FitsWidth w v → (v ≡ pos 0 → ⊥) → pattern w v ≡ 0 → ⊥
pattern_some w v wide f apart e = apart (pattern_same w v (pos 0) wide f (FitsWidth-zero w) (e ∙ sym (pattern-zero w)))

pub pattern-set_bit : pattern 1 set_bit ≡ 1
unfolding pattern
pattern-set_bit = refl

-- the bits of a number of 128 bits, as a cast gives them
pub of_z-pattern : (v : ℤ) → SFits w128 v → of_z w128 v ≡ pattern 128 v
of_z-pattern (pos n) f = let h = f.sfits in pattern_from 128 n (pos n) 0 0 (omega arith) (omega arith)
of_z-pattern (negsuc n) f = let h = f.sfits in pattern_from 128 (2 ^ 128 - suc n) (negsuc n) 0 1 (omega arith) (omega arith)

-- a number of w bits times a power of two
pub FitsWidth-* : (w by : ℕ) (v : ℤ) → 1 ≤ w → FitsWidth w v → FitsWidth (w + by) (v *ℤ pos (2 ^ by))
FitsWidth-* w by v wide f =
    let o = fits_out w v f in
    let p = 2 ^ by in
    let e : w + by - 1 ≡ (w - 1) + by = omega arith in
    let whole : 2 ^ (w + by - 1) ≡ 2 ^ (w - 1) * p = ap (λ (n : ℕ). 2 ^ n) e ∙ pow-add 2 (w - 1) by in
    let is = product_is v (pos p) in
    let low : suc (up v) * p ≤ (2 ^ (w - 1) + down v) * p = mul-le-mul_right p o.0 in
    let high : down v * p ≤ (2 ^ (w - 1) + up v) * p = mul-le-mul_right p o.1 in
    let some = pow_pos by in
    fits_in (w + by) (v *ℤ pos p) (omega (arith, is, whole, low, some)) (omega (arith, is, whole, high))
