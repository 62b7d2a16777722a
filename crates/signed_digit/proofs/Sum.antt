-- The terms of a phase sum to the phase's taps.
use Rattle.std.proofs.Common.{◌≡◌, ℕ, zero, suc, ◌+◌, ◌-◌, ◌*◌, ◌<◌, List, [], ◌∷◌, ◌++◌, map, ℤ, ◌+ℤ◌, ◌*ℤ◌, arith, ap, ◌∙◌, refl}
use Rattle.std.proofs.lemmas.Int.{ints}
use Rattle.mr_values.specs.declared.digit.Digit.{Digit}
use Rattle.mr_values.specs.Digit.{power_of, total, non_adjacent}
use Rattle.mr_values.specs.Sequence.{phase, weighted_sum}
use Rattle.mr_values.proofs.Ring.{+ℤ-*ℤ}
use Rattle.mr_values.proofs.Polyphase.{weighted_sum-same}
use Rattle.mr_values.proofs.NonAdjacent.{total-non_adjacent}
use Rattle.signed_digit.specs.declared.term_list.Term.{Term}
use Rattle.signed_digit.specs.Terms.{term_of, tap_terms, terms_from, terms_of, term_sum}

term_sum-append : (f : ℕ → ℤ) (ts us : List Term) → term_sum f (ts ++ us) ≡ term_sum f ts +ℤ term_sum f us
term_sum-append f [] us = omega (arith, ints)
term_sum-append f (t ∷ ts) us = omega (arith, ints, term_sum-append f ts us)

term_sum-tap : (f : ℕ → ℤ) (index : ℕ) (ds : List Digit) → term_sum f (map (term_of index) ds) ≡ total ds *ℤ f index
term_sum-tap f index [] = omega (arith, ints)
term_sum-tap f index (d ∷ ds) = omega (arith, ints, term_sum-tap f index ds, +ℤ-*ℤ (power_of d) (total ds) (f index))

pub term_sum-terms_from : (f : ℕ → ℤ) (up wait index : ℕ) (taps : List ℤ) → 0 < up → term_sum f (terms_from up wait index taps) ≡ weighted_sum (phase up wait taps) (λ k. f (index + wait + k * up))
term_sum-terms_from f up wait index [] some = refl
term_sum-terms_from f up zero index (c ∷ cs) some =
    let first : total (non_adjacent c) *ℤ f index ≡ c *ℤ f (index + 0 + 0 * up) =
    ap (λ (z : ℤ). z *ℤ f index) (total-non_adjacent c) ∙ ap (λ (n : ℕ). c *ℤ f n) (place up index) in
    let rest = weighted_sum-same (phase up (up - 1) cs) (λ k. f (suc index + (up - 1) + k * up)) (λ k. f (index + 0 + suc k * up)) (λ k. ap f (next up index k some)) in
    omega (
      arith,
      ints,
      term_sum-append f (tap_terms index c) (terms_from up (up - 1) (suc index) cs),
      term_sum-tap f index (non_adjacent c),
      first,
      term_sum-terms_from f up (up - 1) (suc index) cs some,
      rest,
    )
  where
    place : (up index : ℕ) → index ≡ index + 0 + 0 * up
    place up index = omega arith

    next : (up index k : ℕ) → 0 < up → suc index + (up - 1) + k * up ≡ index + 0 + suc k * up
    next up index k some = omega arith
term_sum-terms_from f up (suc wait) index (c ∷ cs) some =
    term_sum-terms_from f up wait (suc index) cs some
    ∙ weighted_sum-same (phase up wait cs) (λ k. f (suc index + wait + k * up)) (λ k. f (index + suc wait + k * up)) (λ k. ap f (next up wait index k))
  where
    next : (up wait index k : ℕ) → suc index + wait + k * up ≡ index + suc wait + k * up
    next up wait index k = omega arith

pub term_sum-terms_of : (f : ℕ → ℤ) (up phase_number : ℕ) (taps : List ℤ) → 0 < up → term_sum f (terms_of up phase_number taps) ≡ weighted_sum (phase up phase_number taps) (λ k. f (phase_number + k * up))
term_sum-terms_of f up phase_number taps some =
    term_sum-terms_from f up phase_number 0 taps some
    ∙ weighted_sum-same (phase up phase_number taps) (λ k. f (0 + phase_number + k * up)) (λ k. f (phase_number + k * up)) (λ k. ap f (start phase_number up k))
  where
    start : (r up k : ℕ) → 0 + r + k * up ≡ r + k * up
    start r up k = omega arith
