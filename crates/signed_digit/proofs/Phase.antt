-- The terms of a phase, tap by tap.
use Rattle.std.proofs.Common.{◌≡◌, ℕ, zero, suc, ◌+◌, ◌-◌, ◌<◌, ◌≤◌, List, [], ◌∷◌, ◌++◌, length, drop, get_or, sum_by, ℤ, pos, arith, ap, sym, ◌∙◌, refl, append_assoc, append-nil, length-append, drop-cons, add-one}
use Rattle.std.proofs.lemmas.List.{length-map, drop_all}
use Rattle.std.proofs.lemmas.List.Sums.{sum_by-cons}
use Rattle.mr_values.specs.Digit.{non_adjacent, digit_count}
use Rattle.mr_values.specs.Sequence.{phase}
use Rattle.mr_values.proofs.NonAdjacent.{length-non_adjacent}
use Rattle.signed_digit.specs.declared.term_list.Term.{Term}
use Rattle.signed_digit.specs.Terms.{term_of, tap_terms, terms_from}

pub terms_from-taken : (up index : ℕ) (taps : List ℤ) (tap : ℤ) → index < length taps → terms_from up 0 index (drop index taps) ≡ tap_terms index (get_or taps index tap) ++ terms_from up (up - 1) (index + 1) (drop (index + 1) taps)
terms_from-taken up index taps tap h = rw (add-one, drop-cons taps index tap) refl

pub terms_from-skipped : (up wait index : ℕ) (taps : List ℤ) → 0 < wait → index < length taps → terms_from up wait index (drop index taps) ≡ terms_from up (wait - 1) (index + 1) (drop (index + 1) taps)
terms_from-skipped up zero index taps some h = absurd (omega arith)
terms_from-skipped up (suc wait) index taps some h =
    let less : suc wait - 1 ≡ wait = omega arith in
    rw (less, add-one, drop-cons taps index (pos 0)) refl

-- ---- the loop's step

pub so_far-taken : (ts all : List Term) (up wait index : ℕ) (taps : List ℤ) (tap : ℤ) → tap ≡ get_or taps index (pos 0) → wait ≡ 0 → index < length taps → ts ++ terms_from up wait index (drop index taps) ≡ all → (ts ++ tap_terms index tap) ++ terms_from up (up - 1) (index + 1) (drop (index + 1) taps) ≡ all
so_far-taken ts all up wait index taps tap is now h e =
    let step : terms_from up wait index (drop index taps) ≡ tap_terms index tap ++ terms_from up (up - 1) (index + 1) (drop (index + 1) taps) =
    rw (now, is) (terms_from-taken up index taps (pos 0) h) in
    rw append_assoc (ap (λ (rest : List Term). ts ++ rest) (sym step) ∙ e)

pub so_far-skipped : (ts all : List Term) (up wait index : ℕ) (taps : List ℤ) → 0 < wait → index < length taps → ts ++ terms_from up wait index (drop index taps) ≡ all → ts ++ terms_from up (wait - 1) (index + 1) (drop (index + 1) taps) ≡ all
so_far-skipped ts all up wait index taps some h e =
    ap (λ (rest : List Term). ts ++ rest) (sym (terms_from-skipped up wait index taps some h)) ∙ e

pub so_far-end : (ts all : List Term) (up wait index : ℕ) (taps : List ℤ) → length taps ≤ index → ts ++ terms_from up wait index (drop index taps) ≡ all → ts ≡ all
so_far-end ts all up wait index taps past e =
    let none : drop index taps ≡ [] = drop_all index taps past in
    sym (append-nil ts) ∙ ap (λ (rest : List ℤ). ts ++ terms_from up wait index rest) (sym none) ∙ e

-- ---- the count

-- as many as the weights of its taps
pub length-terms_from : (up wait index : ℕ) (taps : List ℤ) → length (terms_from up wait index taps) ≡ sum_by digit_count (phase up wait taps)
length-terms_from up wait index [] = refl
length-terms_from up zero index (c ∷ cs) =
    omega (
      arith,
      length-append (tap_terms index c) (terms_from up (up - 1) (suc index) cs),
      length-map (non_adjacent c) (term_of index),
      length-non_adjacent c,
      length-terms_from up (up - 1) (suc index) cs,
      sum_by-cons digit_count c (phase up (up - 1) cs),
    )
length-terms_from up (suc wait) index (c ∷ cs) = length-terms_from up wait (suc index) cs
