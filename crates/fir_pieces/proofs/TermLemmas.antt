-- The terms of a phase: their sum, their places and how great they are.
use Rattle.std.proofs.Common.{◌≡◌, ℕ, zero, suc, ◌+◌, ◌-◌, ◌*◌, ◌/◌, ◌%◌, ◌^◌, ◌<◌, ◌≤◌, List, [], ◌∷◌, ◌++◌, length, map, take, drop, refl, ◌∙◌, ap, arith, Bool, ℤ, All, unsigned_abs, inl, inr}
use Rattle.std.proofs.lemmas.List.Elements.{All-nil, All-cons, All-append, All-map}
use Rattle.std.proofs.lemmas.Bool.{cases_eq}
use Rattle.std.proofs.Math.Nat.{mul-le-mul_right, pow-suc}
use Rattle.std.specs.Int.{is_negative}
use Rattle.mr_values.specs.declared.digit.Digit.{Digit}
use Rattle.mr_values.specs.Digit.{rest_of, rest_by, with_digit, digits_to, non_adjacent}
use Rattle.mr_values.specs.Sequence.{weighted_sum, phase}
use Rattle.mr_values.specs.Timing.{terms}
use Rattle.mr_values.proofs.Polyphase.{weighted_sum-same}
use Rattle.signed_digit.specs.declared.term_list.Term.{Term}
use Rattle.signed_digit.specs.Terms.{term_of, tap_terms, terms_from, terms_of, term_sum}
use Rattle.signed_digit.proofs.Phase.{length-terms_from}
use Rattle.signed_digit.proofs.Sum.{term_sum-terms_of}
use Rattle.stage_law.specs.Streams.{magnitudes}
use Rattle.fir_pieces.specs.Placed.{powers}

-- ---- the sum

pub phase-one : (taps : List ℤ) → phase 1 0 taps ≡ taps
phase-one [] = refl
phase-one (c ∷ cs) = ap (λ (xs : List ℤ). c ∷ xs) (phase-one cs)

-- the terms of all taps sum to these
pub term_sum-taps : (f : ℕ → ℤ) (taps : List ℤ) → term_sum f (terms_of 1 0 taps) ≡ weighted_sum taps f
term_sum-taps f taps =
    term_sum-terms_of f 1 0 taps (omega arith) ∙ weighted_sum-same (phase 1 0 taps) (λ k. f (0 + k * 1)) f (λ k. ap f (same k)) ∙ ap (λ (xs : List ℤ). weighted_sum xs f) (phase-one taps)
  where
    same : (k : ℕ) → 0 + k * 1 ≡ k
    same k = omega arith

pub length-terms_of : (taps : List ℤ) → length (terms_of 1 0 taps) ≡ terms taps
length-terms_of taps = length-terms_from 1 0 0 taps ∙ ap terms (phase-one taps)

-- ---- the places

below_tap : (index n : ℕ) (ds : List Digit) → index < n → All (λ (t : Term). t.index < n) (map (term_of index) ds)
below_tap index n ds h = All-map (λ (t : Term). t.index < n) (term_of index) ds (λ k d inside. h)

below_from : (up wait index n : ℕ) (taps : List ℤ) → index + length taps ≤ n → All (λ (t : Term). t.index < n) (terms_from up wait index taps)
below_from up wait index n [] h = All-nil (λ (t : Term). t.index < n)
below_from up zero index n (c ∷ cs) h = All-append (λ (t : Term). t.index < n) (tap_terms index c) (terms_from up (up - 1) (suc index) cs) (below_tap index n (non_adjacent c) (omega arith)) (below_from up (up - 1) (suc index) n cs (omega arith))
below_from up (suc wait) index n (c ∷ cs) h = below_from up wait (suc index) n cs (omega arith)

-- each term is of one of the taps
pub terms_below : (up r : ℕ) (taps : List ℤ) → All (λ (t : Term). t.index < length taps) (terms_of up r taps)
terms_below up r taps = below_from up r 0 (length taps) taps (omega arith)

-- ---- how great they are

digit_powers : List Digit → ℕ
digit_powers [] = 0
digit_powers (d ∷ ds) = 2 ^ d.place + digit_powers ds

pub powers-append : (ts us : List Term) → powers (ts ++ us) ≡ powers ts + powers us
powers-append [] us = omega arith
powers-append (t ∷ ts) us = let rest = powers-append ts us in omega arith

powers-tap : (index : ℕ) (ds : List Digit) → powers (map (term_of index) ds) ≡ digit_powers ds
unfolding digit_powers
powers-tap index [] = refl
powers-tap index (d ∷ ds) = ap (λ (n : ℕ). 2 ^ d.place + n) (powers-tap index ds)

-- the digits from a place on are less than twice the number there, and less still where it is even
record Less (place n sum : ℕ) : Type 0 where
  some : 1 ≤ n → sum + 2 ^ place ≤ 2 * n * 2 ^ place
  even : 1 ≤ n → n % 2 ≡ 0 → sum + 2 * 2 ^ place ≤ 2 * n * 2 ^ place

Less-zero : (place sum : ℕ) → Less place 0 sum
Less-zero place sum = record { some = λ h. absurd (omega arith); even = λ h e. absurd (omega arith) }

Less-none : (place n : ℕ) → Less place n 0
Less-none place n = record {
  some = λ h. let more : 1 * 2 ^ place ≤ n * 2 ^ place = mul-le-mul_right (2 ^ place) h in omega arith;
  even = λ h e. let more : 1 * 2 ^ place ≤ n * 2 ^ place = mul-le-mul_right (2 ^ place) h in omega arith;
}

Less-with_digit : (negative : Bool) (place n : ℕ) (ds : List Digit) → 1 ≤ n → (rest_of n ≡ 0 → digit_powers ds ≡ 0) → Less (suc place) (rest_of n) (digit_powers ds) → Less place n (digit_powers (with_digit (n % 4) negative place ds))
unfolding digit_powers
Less-with_digit negative place n ds positive none less = at (n % 4) refl negative none less
  where
    two : 2 ^ suc place ≡ 2 ^ place * 2
    two = pow-suc 2 place

    -- an even number
    at_even : n % 2 ≡ 0 → Less (suc place) (n / 2) (digit_powers ds) → Less place n (digit_powers ds)
    at_even e l =
        let halves : n ≡ 2 * (n / 2) = omega arith in
        let whole : n * 2 ^ place ≡ 2 * (n / 2) * 2 ^ place = ap (λ (m : ℕ). m * 2 ^ place) halves in
        let big : 1 ≤ n / 2 = omega arith in
        let bound = l.some big in
        let scaled : n / 2 * 2 ^ suc place ≡ n / 2 * (2 ^ place * 2) = ap (λ (m : ℕ). n / 2 * m) two in
        record { some = λ h. omega (arith, bound, two, whole, scaled); even = λ h e. omega (arith, bound, two, whole, scaled) }

    at : (r : ℕ) → n % 4 ≡ r → (s : Bool) → (rest_by r n ≡ 0 → digit_powers ds ≡ 0) → Less (suc place) (rest_by r n) (digit_powers ds) → Less place n (digit_powers (with_digit r s place ds))
    at zero m s none l = at_even (omega arith) l
    at (suc zero) m s none l =
        let halves : n ≡ 2 * (n / 2) + 1 = omega arith in
        let whole : n * 2 ^ place ≡ (2 * (n / 2) + 1) * 2 ^ place = ap (λ (k : ℕ). k * 2 ^ place) halves in
        let scaled : n / 2 * 2 ^ suc place ≡ n / 2 * (2 ^ place * 2) = ap (λ (k : ℕ). n / 2 * k) two in
        record {
          some = λ h. elim (cases_eq (n / 2) 0) [
            | inl e ↦ let nothing = none e in let left : n / 2 * 2 ^ place ≡ 0 * 2 ^ place = ap (λ (k : ℕ). k * 2 ^ place) e in omega (arith, nothing, whole, left)
            | inr ne ↦ let bound = l.some (omega arith) in omega (arith, bound, two, whole, scaled)
          ];
          even = λ h e. absurd (omega arith);
        }
    at (suc (suc zero)) m s none l = at_even (omega arith) l
    at (suc (suc (suc zero))) m s none l =
        let halves : n + 1 ≡ 2 * suc (n / 2) = omega arith in
        let whole : (n + 1) * 2 ^ place ≡ 2 * suc (n / 2) * 2 ^ place = ap (λ (k : ℕ). k * 2 ^ place) halves in
        let scaled : suc (n / 2) * 2 ^ suc place ≡ suc (n / 2) * (2 ^ place * 2) = ap (λ (k : ℕ). suc (n / 2) * k) two in
        let bound = l.even (omega arith) (omega arith) in
        record { some = λ h. omega (arith, bound, two, whole, scaled); even = λ h e. absurd (omega arith) }
    at (suc (suc (suc (suc r)))) m s none l = absurd (omega arith)

digit_powers-none : (fuel : ℕ) (negative : Bool) (place n : ℕ) → n ≡ 0 → digit_powers (digits_to fuel negative place n) ≡ 0
unfolding digit_powers
digit_powers-none fuel negative place zero e = refl
digit_powers-none fuel negative place (suc n) e = absurd (omega arith)

digits_less : (fuel : ℕ) (negative : Bool) (place n : ℕ) → Less place n (digit_powers (digits_to fuel negative place n))
unfolding digit_powers
digits_less fuel negative place zero = Less-zero place (digit_powers (digits_to fuel negative place 0))
digits_less zero negative place (suc n) = Less-none place (suc n)
digits_less (suc fuel) negative place (suc n) =
    Less-with_digit negative place (suc n) (digits_to fuel negative (suc place) (rest_of (suc n))) (omega arith) (digit_powers-none fuel negative (suc place) (rest_of (suc n))) (digits_less fuel negative (suc place) (rest_of (suc n)))

pub tap_powers : (index : ℕ) (c : ℤ) → powers (tap_terms index c) ≤ 2 * unsigned_abs c
tap_powers index c = elim (cases_eq (unsigned_abs c) 0) [
  | inl e ↦ let none = digit_powers-none (unsigned_abs c) (is_negative c) 0 (unsigned_abs c) e in let same = powers-tap index (non_adjacent c) in omega arith
  | inr ne ↦ let bound = (digits_less (unsigned_abs c) (is_negative c) 0 (unsigned_abs c)).some (omega arith) in let same = powers-tap index (non_adjacent c) in omega arith
]

powers_from : (up wait index : ℕ) (taps : List ℤ) → powers (terms_from up wait index taps) ≤ 2 * magnitudes taps
powers_from up wait index [] = omega arith
powers_from up zero index (c ∷ cs) = let one = tap_powers index c in let rest = powers_from up (up - 1) (suc index) cs in let sum = powers-append (tap_terms index c) (terms_from up (up - 1) (suc index) cs) in omega arith
powers_from up (suc wait) index (c ∷ cs) = let rest = powers_from up wait (suc index) cs in omega arith

-- the powers of two of a phase are at most twice the magnitudes of the taps
pub powers-terms : (up r : ℕ) (taps : List ℤ) → powers (terms_of up r taps) ≤ 2 * magnitudes taps
powers-terms up r taps = powers_from up r 0 taps

-- each power is at most the sum
pub each_power : (ts : List Term) (most : ℕ) → powers ts ≤ most → All (λ (t : Term). 2 ^ t.place ≤ most) ts
each_power [] most h = All-nil (λ (t : Term). 2 ^ t.place ≤ most)
each_power (t ∷ ts) most h = All-cons (λ (t : Term). 2 ^ t.place ≤ most) t ts (omega arith) (each_power ts most (omega arith))

pub powers-take : (n : ℕ) (ts : List Term) → powers (take n ts) ≤ powers ts
powers-take zero ts = omega arith
powers-take (suc n) [] = omega arith
powers-take (suc n) (t ∷ ts) = let rest = powers-take n ts in omega arith

pub powers-drop : (n : ℕ) (ts : List Term) → powers (drop n ts) ≤ powers ts
powers-drop zero ts = omega arith
powers-drop (suc n) [] = omega arith
powers-drop (suc n) (t ∷ ts) = let rest = powers-drop n ts in omega arith
