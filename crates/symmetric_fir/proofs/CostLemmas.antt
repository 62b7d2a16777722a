-- What a filter with mirrored taps costs, by the digits of its taps.
use Rattle.std.proofs.Common.{◌≡◌, ℕ, zero, suc, ◌+◌, ◌/◌, ◌≤◌, Bool, true, false, cond, List, [], ◌∷◌, ◌++◌, length, length-append, take, get_or, refl, sym, ◌∙◌, ap, arith, sum_by, ℤ, pos, negsuc}
use Rattle.std.specs.Prelude.{count_by}
use Rattle.std.proofs.lemmas.List.Sums.{sum_by_push}
use Rattle.std.proofs.Math.Seq.{take-suc}
use Rattle.mr_values.specs.Digit.{positive_count, negative_count}
use Rattle.mr_values.specs.Timing.{plus_terms, minus_terms, ceil_div}
use Rattle.plan_check.specs.StageCosts.{is_some_tap, tree_adders, term_adders as taps_adders, mirrored_adders}
use Rattle.fir_pieces.specs.Placed.{term_adders}
use Rattle.fir_pieces.proofs.CostLemmas.{term_adders-taps}
use Rattle.fir_pieces.proofs.TermLemmas.{phase-one}
use Rattle.symmetric_fir.specs.Facts.{mirror_facts}
use Rattle.symmetric_fir.specs.Pairs.{tap, is_zero, place_if, places_below, pair_places, firsts, mirror_terms}
use Rattle.symmetric_fir.proofs.PairLemmas.{half_sums}

-- one for a tap that isn't 0
some_tap : ℤ → ℕ
some_tap z = cond (is_some_tap z) 1 0

length-place : (taps : List ℤ) (i : ℕ) → length (place_if taps i) ≡ some_tap (tap taps i)
unfolding some_tap
length-place taps i = at (tap taps i)
  where
    at : (z : ℤ) → length (cond (is_zero z) [] (i ∷ [])) ≡ cond (is_some_tap z) 1 0
    at (pos zero) = refl
    at (pos (suc n)) = refl
    at (negsuc n) = refl

-- a pair for each tap that isn't 0
count-places : (taps : List ℤ) (i : ℕ) → i ≤ length taps → length (places_below taps i) ≡ sum_by some_tap (take i taps)
count-places taps zero h = refl
count-places taps (suc i) h =
    let longer : take (suc i) taps ≡ take i taps ++ (get_or taps i (pos 0) ∷ []) = take-suc taps i (pos 0) (omega arith) in
    length-append (places_below taps i) (place_if taps i)
    ∙ ap (λ (n : ℕ). n + length (place_if taps i)) (count-places taps i (omega arith))
    ∙ ap (λ (n : ℕ). sum_by some_tap (take i taps) + n) (length-place taps i)
    ∙ sym (sum_by_push some_tap (take i taps) (get_or taps i (pos 0)))
    ∙ sym (ap (sum_by some_tap) longer)

tree-terms : (taps : List ℤ) → term_adders (mirror_terms taps) ≡ taps_adders (take (ceil_div (length taps) 2) taps)
tree-terms taps =
    term_adders-taps 1 0 0 (firsts taps)
    ∙ ap taps_adders (phase-one (firsts taps))
    ∙ ap (λ (n : ℕ). tree_adders n (minus_terms (firsts taps))) (half_sums positive_count refl taps)
    ∙ ap (tree_adders (plus_terms (take (ceil_div (length taps) 2) taps))) (half_sums negative_count refl taps)

-- the adders of the stage are those of its form
pub mirror-adders : (anti : ℕ) (taps : List ℤ) (down : ℕ) → (mirror_facts anti taps down).adders ≡ mirrored_adders taps
unfolding some_tap
mirror-adders anti taps down =
    ap (λ (n : ℕ). n + term_adders (mirror_terms taps)) (count-places taps (length taps / 2) (omega arith))
    ∙ ap (λ (n : ℕ). count_by is_some_tap (take (length taps / 2) taps) + n) (tree-terms taps)
