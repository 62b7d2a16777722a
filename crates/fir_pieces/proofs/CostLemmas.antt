-- What a tree over the terms of taps costs, by the digits of the taps.
use Rattle.std.proofs.Common.{◌≡◌, ℕ, zero, suc, ◌+◌, ◌-◌, Bool, true, false, not, cond, List, [], ◌∷◌, ◌++◌, length, map, refl, sym, ◌∙◌, ap, arith, sum_by, ℤ}
use Rattle.std.specs.Prelude.{count_by}
use Rattle.std.proofs.lemmas.List.Sums.{sum_by-cons, sum_by-append}
use Rattle.mr_values.specs.declared.digit.Digit.{Digit}
use Rattle.mr_values.specs.Digit.{non_adjacent}
use Rattle.mr_values.specs.Sequence.{phase}
use Rattle.plan_check.specs.StageCosts.{tree_adders, term_adders as taps_adders}
use Rattle.signed_digit.specs.declared.term_list.Term.{Term}
use Rattle.signed_digit.specs.Terms.{term_of, tap_terms, terms_from}
use Rattle.fir_pieces.specs.Placed.{all_minus, adders_for, term_adders}

-- how many terms have a sign that passes the test
signs : (Bool → Bool) → List Term → ℕ
signs test ts = count_by (λ (t : Term). test t.negative) ts

signs-none : (test : Bool → Bool) → signs test [] ≡ 0
unfolding signs
signs-none test = refl

signs-append : (test : Bool → Bool) (ts us : List Term) → signs test (ts ++ us) ≡ signs test ts + signs test us
unfolding signs
signs-append test ts us = sum_by-append (λ (t : Term). cond (test t.negative) 1 0) ts us

signs-cons : (test : Bool → Bool) (t : Term) (ts : List Term) → signs test (t ∷ ts) ≡ cond (test t.negative) 1 0 + signs test ts
unfolding signs
signs-cons test t ts = sum_by-cons (λ (t : Term). cond (test t.negative) 1 0) t ts

signs-tap : (test : Bool → Bool) (index : ℕ) (ds : List Digit) → signs test (map (term_of index) ds) ≡ count_by (λ (d : Digit). test d.negative) ds
unfolding signs
signs-tap test index [] = refl
signs-tap test index (d ∷ ds) =
    sum_by-cons (λ (t : Term). cond (test t.negative) 1 0) (term_of index d) (map (term_of index) ds)
    ∙ ap (λ (n : ℕ). cond (test d.negative) 1 0 + n) (signs-tap test index ds)
    ∙ sym (sum_by-cons (λ (d : Digit). cond (test d.negative) 1 0) d ds)

-- they are those of the taps of the phase
signs-from : (test : Bool → Bool) (up wait index : ℕ) (taps : List ℤ) → signs test (terms_from up wait index taps) ≡ sum_by (λ (c : ℤ). count_by (λ (d : Digit). test d.negative) (non_adjacent c)) (phase up wait taps)
signs-from test up wait index [] = signs-none test
signs-from test up zero index (c ∷ cs) =
    signs-append test (tap_terms index c) (terms_from up (up - 1) (suc index) cs)
    ∙ ap (λ (n : ℕ). n + signs test (terms_from up (up - 1) (suc index) cs)) (signs-tap test index (non_adjacent c))
    ∙ ap (λ (n : ℕ). count_by (λ (d : Digit). test d.negative) (non_adjacent c) + n) (signs-from test up (up - 1) (suc index) cs)
    ∙ sym (sum_by-cons (λ (c : ℤ). count_by (λ (d : Digit). test d.negative) (non_adjacent c)) c (phase up (up - 1) cs))
signs-from test up (suc wait) index (c ∷ cs) = signs-from test up wait (suc index) cs

-- a tree's adders by the signs of its terms
pub record IsSigned (ts : List Term) (plus minus : ℕ) : Type 0 where
  pub many : length ts ≡ plus + minus
  pub none : plus ≡ 0 → all_minus ts ≡ true
  pub some : (n : ℕ) → plus ≡ suc n → all_minus ts ≡ false

signed : (ts : List Term) → IsSigned ts (signs not ts) (signs (λ b. b) ts)
signed [] = record { many = let a = signs-none not in let b = signs-none (λ b. b) in omega (arith, a, b); none = λ e. refl; some = λ n e. absurd (let z = signs-none not in omega (arith, e, z)) }
signed (t ∷ ts) = at t.negative refl (signed ts)
  where
    at : (b : Bool) → t.negative ≡ b → IsSigned ts (signs not ts) (signs (λ b. b) ts) → IsSigned (t ∷ ts) (signs not (t ∷ ts)) (signs (λ b. b) (t ∷ ts))
    at true is rest =
        let plus : signs not (t ∷ ts) ≡ 0 + signs not ts = signs-cons not t ts ∙ ap (λ (b : Bool). cond (not b) 1 0 + signs not ts) is in
        let minus : signs (λ b. b) (t ∷ ts) ≡ 1 + signs (λ b. b) ts = signs-cons (λ b. b) t ts ∙ ap (λ (b : Bool). cond b 1 0 + signs (λ b. b) ts) is in
        let first : all_minus (t ∷ ts) ≡ all_minus ts = ap (λ (b : Bool). cond b (all_minus ts) false) is in
        record {
          many = let m = rest.many in omega (arith, m, plus, minus);
          none = λ e. first ∙ rest.none (omega (arith, e, plus));
          some = λ n e. first ∙ rest.some n (omega (arith, e, plus));
        }
    at false is rest =
        let plus : signs not (t ∷ ts) ≡ 1 + signs not ts = signs-cons not t ts ∙ ap (λ (b : Bool). cond (not b) 1 0 + signs not ts) is in
        let minus : signs (λ b. b) (t ∷ ts) ≡ 0 + signs (λ b. b) ts = signs-cons (λ b. b) t ts ∙ ap (λ (b : Bool). cond b 1 0 + signs (λ b. b) ts) is in
        record {
          many = let m = rest.many in omega (arith, m, plus, minus);
          none = λ e. absurd (omega (arith, e, plus));
          some = λ n e. ap (λ (b : Bool). cond b (all_minus ts) false) is;
        }

by_signs : (n plus minus : ℕ) (all : Bool) → n ≡ plus + minus → (plus ≡ 0 → all ≡ true) → ((k : ℕ) → plus ≡ suc k → all ≡ false) → adders_for n all ≡ tree_adders plus minus
by_signs n zero minus all many none some = ap (λ (b : Bool). adders_for n b) (none refl) ∙ every n ∙ many ∙ omega arith
  where
    every : (n : ℕ) → adders_for n true ≡ n
    every zero = refl
    every (suc n) = refl
by_signs zero (suc plus) minus all many none some = absurd (omega (arith, many))
by_signs (suc n) (suc plus) minus all many none some = ap (λ (b : Bool). adders_for (suc n) b) (some plus refl) ∙ omega (arith, many)

pub term_adders-taps : (up wait index : ℕ) (taps : List ℤ) → term_adders (terms_from up wait index taps) ≡ taps_adders (phase up wait taps)
term_adders-taps up wait index taps =
    let ts = terms_from up wait index taps in
    let s = signed ts in
    by_signs (length ts) (signs not ts) (signs (λ b. b) ts) (all_minus ts) s.many s.none s.some
    ∙ ap (λ (n : ℕ). tree_adders n (signs (λ b. b) ts)) (signs-from not up wait index taps)
    ∙ ap (tree_adders (sum_by (λ (c : ℤ). count_by (λ (d : Digit). not d.negative) (non_adjacent c)) (phase up wait taps))) (signs-from (λ b. b) up wait index taps)
