-- Sums of forms.
use Rattle.std.proofs.Common.{◌≡◌, ℕ, zero, suc, ◌+◌, ◌*◌, ◌≤◌, List, [], ◌∷◌, length, refl, arith, ℤ, pos, ◌+ℤ◌, ◌*ℤ◌, unsigned_abs}
use Rattle.std.proofs.lemmas.Int.{ints, unsigned_abs-mul}
use Rattle.mr_values.specs.Sequence.{weighted_sum}
use Rattle.mr_values.proofs.Ring.{*ℤ-+ℤ, +ℤ-*ℤ, *ℤ_assoc}
use Rattle.stage_law.specs.Streams.{magnitudes}
use Rattle.fir_pieces.specs.FormSums.{plus_form, times_form}

pub weighted_sum-plus : (xs ys : List ℤ) (f : ℕ → ℤ) → weighted_sum (plus_form xs ys) f ≡ weighted_sum xs f +ℤ weighted_sum ys f
weighted_sum-plus [] ys f = omega (arith, ints)
weighted_sum-plus (a ∷ xs) [] f = omega (arith, ints)
weighted_sum-plus (a ∷ xs) (b ∷ ys) f = let rest = weighted_sum-plus xs ys (λ k. f (suc k)) in let own = +ℤ-*ℤ a b (f 0) in omega (arith, ints, rest, own)

pub weighted_sum-times : (c : ℤ) (xs : List ℤ) (f : ℕ → ℤ) → weighted_sum (times_form c xs) f ≡ c *ℤ weighted_sum xs f
weighted_sum-times c [] f = nothing c
  where
    nothing : (z : ℤ) → pos 0 ≡ z *ℤ pos 0
    nothing z = omega (arith, ints)
weighted_sum-times c (a ∷ xs) f =
    let rest = weighted_sum-times c xs (λ k. f (suc k)) in
    let own = *ℤ_assoc c a (f 0) in
    let both = *ℤ-+ℤ c (a *ℤ f 0) (weighted_sum xs (λ k. f (suc k))) in
    omega (arith, ints, rest, own, both)

-- ---- how long and how great

pub length-times : (c : ℤ) (xs : List ℤ) → length (times_form c xs) ≡ length xs
length-times c [] = refl
length-times c (a ∷ xs) = let rest = length-times c xs in omega (arith, rest)

pub length-plus : (depth : ℕ) (xs ys : List ℤ) → length xs ≤ depth → length ys ≤ depth → length (plus_form xs ys) ≤ depth
length-plus depth [] ys p q = q
length-plus depth (a ∷ xs) [] p q = p
length-plus zero (a ∷ xs) (b ∷ ys) p q = absurd (omega arith)
length-plus (suc depth) (a ∷ xs) (b ∷ ys) p q = let rest = length-plus depth xs ys (omega arith) (omega arith) in omega (arith, rest)

abs_sum : (a b : ℤ) → unsigned_abs (a +ℤ b) ≤ unsigned_abs a + unsigned_abs b
abs_sum a b = grind (arith, ints)

pub magnitudes-plus : (xs ys : List ℤ) → magnitudes (plus_form xs ys) ≤ magnitudes xs + magnitudes ys
magnitudes-plus [] ys = omega arith
magnitudes-plus (a ∷ xs) [] = omega arith
magnitudes-plus (a ∷ xs) (b ∷ ys) = let rest = magnitudes-plus xs ys in let own = abs_sum a b in omega (arith, rest, own)

pub magnitudes-times : (c : ℤ) (xs : List ℤ) → magnitudes (times_form c xs) ≡ unsigned_abs c * magnitudes xs
magnitudes-times c [] = omega arith
magnitudes-times c (a ∷ xs) = let rest = magnitudes-times c xs in let own = unsigned_abs-mul c a in omega (arith, rest, own)
