-- Rounded values.
use Rattle.std.proofs.Common.{◌≡◌, ℕ, suc, ◌+◌, ◌-◌, ◌^◌, ◌<◌, ◌≤◌, List, [], ◌∷◌, ◌++◌, length, map, take, get_or, ℤ, pos, negsuc, neg_ℤ, ◌+ℤ◌, ◌≤ℤ◌, ◌<ℤ◌, arith, refl, sym, ◌∙◌, ap, subst, append_assoc, FitsSigned}
use Rattle.std.specs.Int.{w64}
use Rattle.std.proofs.lemmas.Int.{ints}
use Rattle.std.proofs.lemmas.List.{map-append, take_more}
use Rattle.std.proofs.lemmas.Nat.{div_below}
use Rattle.std.proofs.Math.Pow.{pow_mono}
use lib.IntN.{+ℤ_idr}
use Rattle.mr_values.specs.Width.{floor_quotient, floor_remainder}
use Rattle.mr_values.specs.Rounding.{half_even, clip_value}
use Rattle.mr_values.proofs.Division.{floor_remainder_below}
use Rattle.mr_values.proofs.HalfEvenLemmas.{floor_law}
use Rattle.mr_values.specs.Sequence.{Sequence}
use Rattle.chain_values.specs.Streams.{AreFrom, values_from}

pub two_le : (s : ℕ) → 1 ≤ s → 2 ≤ 2 ^ s
two_le s h = pow_mono {i = 1} {j = s} h

pub power_below : (k : ℕ) → k ≤ 63 → 2 ^ k ≤ 2 ^ 63
power_below k h = pow_mono {i = k} {j = 63} h

pub quotient_fits : (v : ℤ) (d : ℕ) → 2 ≤ d → neg_ℤ (pos (2 ^ 63)) ≤ℤ v → v <ℤ pos (2 ^ 64) → FitsSigned w64 (floor_quotient v d)
quotient_fits (pos a) d h low high = record { sfits = div_below a d (2 ^ 63) (omega arith) (omega (arith, ints)) }
quotient_fits (negsuc a) d h low high = record { sfits = div_below a d (2 ^ 63) (omega arith) (omega (arith, ints)) }

-- f of each value of a part of a sequence
pub mapped_values : (f : ℤ → ℤ) (x : Sequence) (n : ℤ) (vs : List ℤ) → AreFrom x n vs → map f vs ≡ values_from (λ i. f (x i)) n (length vs)
mapped_values f x n [] h = refl
mapped_values f x n (v ∷ vs) h =
    let first : v ≡ x n = h.value 0 (omega arith) ∙ ap x (+ℤ_idr n) in
    let at : (k : ℕ) → n +ℤ pos (suc k) ≡ n +ℤ pos 1 +ℤ pos k = λ k. omega (arith, ints) in
    let rest = mapped_values f x (n +ℤ pos 1) vs (record { value = λ k less. h.value (suc k) (omega arith) ∙ ap x (at k) }) in
    ap (λ (u : ℤ). f u ∷ map f vs) first ∙ ap (λ (us : List ℤ). f (x n) ∷ us) rest

-- a half less one, or a half, of the power
addend_small : (s r : ℕ) → 1 ≤ s → s ≤ 64 → r ≤ 1 → 2 ^ (s - 1) - 1 + r ≤ 2 ^ 63
addend_small s r h most e = omega (arith, power_below (s - 1) (omega arith))

pub half_even_fits : (s : ℕ) (v : ℤ) → 1 ≤ s → s ≤ 64 → FitsSigned w64 v → FitsSigned w64 (half_even s v)
half_even_fits s v h most fits =
    let k = 2 ^ (s - 1) - 1 + floor_remainder (floor_quotient v (2 ^ s)) 2 in
    let small : k ≤ 2 ^ 63 = addend_small s (floor_remainder (floor_quotient v (2 ^ s)) 2) h most (omega (arith, floor_remainder_below (floor_quotient v (2 ^ s)) 2 (omega arith))) in
    subst (λ (z : ℤ). FitsSigned w64 z) (sym (floor_law s v h)) (quotient_fits (v +ℤ pos k) (2 ^ s) (two_le s h) (raised-low v k fits) (raised-high v k fits small))
  where
    raised-low : (v : ℤ) (k : ℕ) → FitsSigned w64 v → neg_ℤ (pos (2 ^ 63)) ≤ℤ (v +ℤ pos k)
    raised-low (pos a) k f = omega (arith, ints, f.sfits)
    raised-low (negsuc a) k f = omega (arith, ints, f.sfits)

    raised-high : (v : ℤ) (k : ℕ) → FitsSigned w64 v → k ≤ 2 ^ 63 → (v +ℤ pos k) <ℤ pos (2 ^ 64)
    raised-high (pos a) k f h = omega (arith, ints, f.sfits)
    raised-high (negsuc a) k f h = omega (arith, ints, f.sfits)

pub clip_fits : (b : ℕ) (v : ℤ) → FitsSigned w64 v → FitsSigned w64 (clip_value b v)
clip_fits b (pos n) f = record { sfits = omega (arith, f.sfits) }
clip_fits b (negsuc n) f = record { sfits = omega (arith, f.sfits) }

-- f of one value more of a list
pub mapped_more : (f : ℤ → ℤ) (vs : List ℤ) (k : ℕ) (given : ℤ) (old between new : List ℤ) → k < length vs → between ≡ old ++ map f (take k vs) → given ≡ f (get_or vs k (pos 0)) → new ≡ between ++ given ∷ []
    → new ≡ old ++ map f (take (k + 1) vs)
mapped_more f vs k given old between new h so_far is e =
    e ∙ ap (λ (us : List ℤ). us ++ given ∷ []) so_far ∙ append_assoc old (map f (take k vs)) (given ∷ [])
    ∙ ap (λ (z : ℤ). old ++ (map f (take k vs) ++ z ∷ [])) is
    ∙ ap (λ (us : List ℤ). old ++ us) (sym (map-append f (take k vs) (get_or vs k (pos 0) ∷ [])))
    ∙ ap (λ (us : List ℤ). old ++ map f us) (sym (take_more vs k (pos 0) h))
