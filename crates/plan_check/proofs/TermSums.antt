-- The terms of taps, by their signs, and of taps that are one phase.
use Rattle.std.proofs.Common.{◌≡◌, ℕ, zero, suc, ◌+◌, refl, ap, arith, ◌≤◌, List, [], ◌∷◌, sum_by, ℤ, pos, max}
use Rattle.std.proofs.lemmas.List.Sums.{sum_by-cons}
use Rattle.mr_values.specs.Sequence.{phase}
use Rattle.mr_values.specs.Digit.{positive_count, negative_count, digit_count}
use Rattle.mr_values.specs.Timing.{terms, plus_terms, minus_terms, greatest, greatest_below, ceil_log}
use Rattle.mr_values.proofs.NonAdjacent.{digit_count-signs}

phase-whole : (taps : List ℤ) → phase 1 0 taps ≡ taps
phase-whole [] = refl
phase-whole (c ∷ cs) = ap (λ (xs : List ℤ). c ∷ xs) (phase-whole cs)

pub terms_whole : (taps : List ℤ) → sum_by digit_count (phase 1 0 taps) ≡ terms taps
terms_whole taps = ap terms (phase-whole taps)

pub terms_signs : (taps : List ℤ) → plus_terms taps + minus_terms taps ≡ terms taps
terms_signs [] = refl
terms_signs (c ∷ cs) =
    let plus = sum_by-cons positive_count c cs in
    let minus = sum_by-cons negative_count c cs in
    let all = sum_by-cons digit_count c cs in
    omega (arith, plus, minus, all, digit_count-signs c, terms_signs cs)

-- a tap of 1 by itself has one term, in its first phase
greatest_below-one : (up r : ℕ) → greatest_below terms up (suc r) (pos 1 ∷ []) ≡ 1
greatest_below-one up zero = refl
greatest_below-one up (suc r) = ap (λ (n : ℕ). max 0 n) (greatest_below-one up r)

pub greatest_one : (up : ℕ) → 1 ≤ up → greatest terms up (pos 1 ∷ []) ≡ 1
greatest_one zero h = absurd (omega arith)
greatest_one (suc r) h = greatest_below-one (suc r) r

pub delay_one : (up : ℕ) → 1 ≤ up → 1 + ceil_log (greatest terms up (pos 1 ∷ [])) ≡ 1
delay_one up h = ap (λ (n : ℕ). 1 + ceil_log n) (greatest_one up h)
