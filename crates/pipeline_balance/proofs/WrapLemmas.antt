-- Arithmetic modulo 2 ^ w, and equality as a bit.
use Rattle.std.proofs.Common.{◌≡◌, ℕ, suc, ◌+◌, ◌*◌, ◌%◌, ◌^◌, ◌<◌, ◌≤◌, refl, sym, ◌∙◌, ap, arith, inl, inr, ℤ, pos, negsuc, ◌+ℤ◌, ◌<ℤ◌, ◌≤ℤ◌, Bool, true, false, cond, eqb, eq-eqb}
use Rattle.std.proofs.lemmas.Bool.{cases_lt, eqb-true}
use Rattle.std.proofs.lemmas.Int.{ints}
use Rattle.std.proofs.lemmas.Nat.{pow_pos}
use Rattle.std.proofs.Math.Nat.{mul-le-mul_right}
use borrow.Author.Differences.{up, down, same_in}
use Rattle.mr_values.specs.Width.{wrap, pattern, signed, set_bit}
use Rattle.mr_values.proofs.WidthLemmas.{pattern-+, pattern-wrap, pattern_split, FitsWidth-wrap, fits_in, wrap_fits}
use Rattle.mr_values.proofs.Wrapping.{wrap_unique}
use Rattle.net_graph.specs.Run.{equality}

-- a sum of wrapped numbers wraps as the sum of the numbers
pub wrap-+ : (w : ℕ) (a b : ℤ) → 1 ≤ w → wrap w (wrap w a +ℤ wrap w b) ≡ wrap w (a +ℤ b)
wrap-+ w a b wide =
    ap (signed w)
    (pattern-+ w (wrap w a) (wrap w b)
    ∙ ap (λ (m : ℕ). (m + pattern w (wrap w b)) % 2 ^ w) (pattern-wrap w a wide)
    ∙ ap (λ (m : ℕ). (pattern w a + m) % 2 ^ w) (pattern-wrap w b wide)
    ∙ sym (pattern-+ w a b))

pub wrap_twice : (w : ℕ) (a : ℤ) → 1 ≤ w → wrap w (wrap w a) ≡ wrap w a
wrap_twice w a wide = wrap_fits w (wrap w a) wide (FitsWidth-wrap w a wide)

-- numbers that differ by a multiple of n, and by less than n, are one
apart : (a b : ℤ) (n r j k l m : ℕ) → 0 < n → a ≤ℤ b → b <ℤ (a +ℤ pos n) → up a + k * n ≡ r + down a + j * n → up b + m * n ≡ r + down b + l * n → a ≡ b
apart a b n r j k l m some below near p q =
    let low : up a + down b ≤ up b + down a = omega (arith, ints) in
    let high : up b + down a < up a + down b + n = omega (arith, ints) in
    elim (cases_lt (k + l) (m + j)) [
      | inl less ↦ let more : suc (k + l) * n ≤ (m + j) * n = mul-le-mul_right n less in absurd (omega arith)
      | inr le ↦ elim (cases_lt (m + j) (k + l)) [
        | inl less ↦ let more : suc (m + j) * n ≤ (k + l) * n = mul-le-mul_right n less in absurd (omega arith)
        | inr ge ↦
            let same : (k + l) * n ≡ (m + j) * n = ap (λ (s : ℕ). s * n) (omega arith) in
            same_in a b (omega arith)
      ]
    ]

-- numbers that wrap alike and lie within 2 ^ w of each other are one
pub wrap_apart : (w : ℕ) (a b : ℤ) → 1 ≤ w → a ≤ℤ b → b <ℤ (a +ℤ pos (2 ^ w)) → wrap w a ≡ wrap w b → a ≡ b
wrap_apart w a b wide below near e =
    let same : pattern w a ≡ pattern w b = sym (pattern-wrap w a wide) ∙ ap (pattern w) e ∙ pattern-wrap w b wide in
    let p = pattern_split w a in
    let q = pattern_split w b in
    apart a b (2 ^ w) (pattern w b) p.0 p.1 q.0 q.1 (pow_pos w) below near (p.2 ∙ ap (λ (m : ℕ). m + down a + p.0 * 2 ^ w) same) q.2

-- the number 1 is the pattern of a bit that is set
pub wrap-one : wrap 1 (pos 1) ≡ set_bit
wrap-one = wrap_unique 1 (pos 1) (negsuc 0) (pos 1) (omega arith) (fits_in 1 (negsuc 0) (omega arith) (omega arith)) refl

equality-test : (a b : ℕ) → a ≡ b → cond (eqb a b) (pos 1) (pos 0) ≡ pos 1
equality-test a b e = ap (λ (t : Bool). cond t (pos 1) (pos 0)) (eq-eqb a b e)

equality-fails : (a b : ℕ) → (a ≡ b → ⊥) → cond (eqb a b) (pos 1) (pos 0) ≡ pos 0
equality-fails a b ne = by_test (eqb a b) refl
  where
    by_test : (t : Bool) → eqb a b ≡ t → cond t (pos 1) (pos 0) ≡ pos 0
    by_test true e = absurd (ne (eqb-true a b e))
    by_test false e = refl

pub equality-same : (x y : ℤ) → x ≡ y → equality x y ≡ pos 1
equality-same (pos a) (pos b) e = equality-test a b (omega (arith, ints, e))
equality-same (pos a) (negsuc b) e = absurd (omega (arith, ints, e))
equality-same (negsuc a) (pos b) e = absurd (omega (arith, ints, e))
equality-same (negsuc a) (negsuc b) e = equality-test a b (omega (arith, ints, e))

pub equality_apart : (x y : ℤ) → (x ≡ y → ⊥) → equality x y ≡ pos 0
equality_apart (pos a) (pos b) ne = equality-fails a b (λ e. ne (ap pos e))
equality_apart (pos a) (negsuc b) ne = refl
equality_apart (negsuc a) (pos b) ne = refl
equality_apart (negsuc a) (negsuc b) ne = equality-fails a b (λ e. ne (ap negsuc e))
