-- The non-adjacent form: its sum, its length, and that no two of its places are neighbours.
use Rattle.std.proofs.Common.{◌≡◌, ℕ, zero, suc, ◌+◌, ◌*◌, ◌/◌, ◌%◌, ◌^◌, ◌≤◌, arith, refl, ap, ◌∙◌, Bool, true, false, ltb, List, [], ◌∷◌, length, ℤ, pos, negsuc}
use Rattle.std.specs.Prelude.{not, ◌==◌, All, count_by, cond}
use Rattle.std.proofs.lemmas.List.Sums.{sum_by-cons}
use mathlib.Core.Bool.{beq}
use Rattle.std.proofs.lemmas.Int.{ints}
use Rattle.std.proofs.Math.Nat.{pow-suc}
use Rattle.std.specs.Prelude.{unsigned_abs}
use Rattle.std.specs.Int.{is_negative}
use Rattle.mr_values.specs.declared.digit.Digit.{Digit}
use Rattle.mr_values.specs.Digit.{with_sign, total, rest_of, rest_by, with_digit, digits_to, digits_from, non_adjacent, with_one, count_to, digit_count, positive_count, negative_count, IsWeight, AreApart}
use Rattle.mr_values.proofs.DigitCounts.{ByFour, even, one, three, by_four, rest_of-below}
use Rattle.mr_values.proofs.LeastWeight.{digit_count-total}

-- ---- a number at a place, by its lowest digit

half_even : (n place : ℕ) → n % 2 ≡ 0 → n * 2 ^ place ≡ n / 2 * 2 ^ suc place
half_even n place e =
    let halves : n ≡ 2 * (n / 2) = omega arith in
    omega (arith, ap (λ x. x * 2 ^ place) halves, ap (λ x. n / 2 * x) (pow-suc 2 place))

half_one : (n place : ℕ) → n % 2 ≡ 1 → n * 2 ^ place ≡ 2 ^ place + n / 2 * 2 ^ suc place
half_one n place e =
    let halves : n ≡ 2 * (n / 2) + 1 = omega arith in
    omega (arith, ap (λ x. x * 2 ^ place) halves, ap (λ x. n / 2 * x) (pow-suc 2 place))

half_three : (n place : ℕ) → n % 2 ≡ 1 → n * 2 ^ place + 2 ^ place ≡ suc (n / 2) * 2 ^ suc place
half_three n place e =
    let halves : n + 1 ≡ 2 * suc (n / 2) = omega arith in
    omega (arith, ap (λ x. x * 2 ^ place) halves, ap (λ x. suc (n / 2) * x) (pow-suc 2 place))

-- ---- the length

length-with_digit : (r : ℕ) (negative : Bool) (place : ℕ) (ds : List Digit) → length (with_digit r negative place ds) ≡ with_one r (length ds)
length-with_digit zero negative place ds = refl
length-with_digit (suc zero) negative place ds = refl
length-with_digit (suc (suc zero)) negative place ds = refl
length-with_digit (suc (suc (suc zero))) negative place ds = refl
length-with_digit (suc (suc (suc (suc r)))) negative place ds = refl

length-digits_to : (fuel : ℕ) (negative : Bool) (place n : ℕ) → length (digits_to fuel negative place n) ≡ count_to fuel n
length-digits_to fuel negative place zero = refl
length-digits_to zero negative place (suc n) = refl
length-digits_to (suc fuel) negative place (suc n) =
    length-with_digit (suc n % 4) negative place (digits_to fuel negative (suc place) (rest_of (suc n)))
    ∙ ap (with_one (suc n % 4)) (length-digits_to fuel negative (suc place) (rest_of (suc n)))

pub length-non_adjacent : (c : ℤ) → length (non_adjacent c) ≡ digit_count c
length-non_adjacent c = length-digits_to (unsigned_abs c) _ 0 (unsigned_abs c)

-- ---- the sum

total-with_digit : (negative : Bool) (place n : ℕ) (ds : List Digit) → total ds ≡ with_sign negative (rest_of n * 2 ^ suc place) → total (with_digit (n % 4) negative place ds) ≡ with_sign negative (n * 2 ^ place)
total-with_digit negative place n ds = at (n % 4) refl negative
  where
    at : (r : ℕ) → n % 4 ≡ r → (s : Bool) → total ds ≡ with_sign s (rest_by r n * 2 ^ suc place) → total (with_digit r s place ds) ≡ with_sign s (n * 2 ^ place)
    at zero m false e = omega (arith, ints, e, half_even n place (omega arith))
    at zero m true e = omega (arith, ints, e, half_even n place (omega arith))
    at (suc zero) m false e = omega (arith, ints, e, half_one n place (omega arith))
    at (suc zero) m true e = omega (arith, ints, e, half_one n place (omega arith))
    at (suc (suc zero)) m false e = omega (arith, ints, e, half_even n place (omega arith))
    at (suc (suc zero)) m true e = omega (arith, ints, e, half_even n place (omega arith))
    at (suc (suc (suc zero))) m false e = omega (arith, ints, e, half_three n place (omega arith))
    at (suc (suc (suc zero))) m true e = omega (arith, ints, e, half_three n place (omega arith))
    at (suc (suc (suc (suc r)))) m s e = absurd (omega arith)

total-digits_to : (fuel : ℕ) (negative : Bool) (place n : ℕ) → n ≤ fuel → total (digits_to fuel negative place n) ≡ with_sign negative (n * 2 ^ place)
total-digits_to fuel false place zero h = omega (arith, ints)
total-digits_to fuel true place zero h = omega (arith, ints)
total-digits_to zero negative place (suc n) h = absurd (omega arith)
total-digits_to (suc fuel) negative place (suc n) h =
    total-with_digit negative place (suc n) _ (total-digits_to fuel negative (suc place) (rest_of (suc n)) (rest_of-below n fuel h))

pub total-non_adjacent : (c : ℤ) → total (non_adjacent c) ≡ c
total-non_adjacent c = total-digits_to (unsigned_abs c) (is_negative c) 0 (unsigned_abs c) (omega arith) ∙ sign c
  where
    sign : (c : ℤ) → with_sign (is_negative c) (unsigned_abs c * 2 ^ 0) ≡ c
    sign (pos n) = let not_below : ltb n 0 ≡ false = grind arith in rw not_below (omega (arith, ints))
    sign (negsuc n) = omega (arith, ints)

-- each digit is positive or negative
count_by_sign : (ds : List Digit) → count_by (λ d. not d.negative) ds + count_by (λ d. d.negative) ds ≡ length ds
count_by_sign [] = refl
count_by_sign (d ∷ ds) =
    let positive = sum_by-cons (λ (e : Digit). cond (not e.negative) 1 0) d ds in
    let negative = sum_by-cons (λ (e : Digit). cond e.negative 1 0) d ds in
    omega (arith, positive, negative, one d.negative, count_by_sign ds)
  where
    one : (b : Bool) → cond (not b) 1 0 + cond b 1 0 ≡ 1
    one true = refl
    one false = refl

pub digit_count-signs : (c : ℤ) → positive_count c + negative_count c ≡ digit_count c
digit_count-signs c = count_by_sign (non_adjacent c) ∙ length-non_adjacent c

-- the count is the weight
pub IsWeight-digit_count : (c : ℤ) → IsWeight c (digit_count c)
IsWeight-digit_count c = record {
  reached = (non_adjacent c, total-non_adjacent c, length-non_adjacent c);
  least = λ ds e. let bound : digit_count (total ds) ≤ length ds = digit_count-total ds in rw e at bound;
}

-- ---- one step

digits_to-same : (a b : ℕ) (negative : Bool) (place n : ℕ) → n ≤ a → n ≤ b → digits_to a negative place n ≡ digits_to b negative place n
digits_to-same a b negative place zero h k = refl
digits_to-same zero b negative place (suc n) h k = absurd (omega arith)
digits_to-same (suc a) zero negative place (suc n) h k = absurd (omega arith)
digits_to-same (suc a) (suc b) negative place (suc n) h k =
    ap (with_digit (suc n % 4) negative place) (digits_to-same a b negative (suc place) (rest_of (suc n)) (rest_of-below n a h) (rest_of-below n b k))

pub digits_from-step : (negative : Bool) (place n : ℕ) → digits_from negative place n ≡ with_digit (n % 4) negative place (digits_from negative (suc place) (rest_of n))
digits_from-step negative place zero = refl
digits_from-step negative place (suc n) =
    ap (with_digit (suc n % 4) negative place) (digits_to-same n (rest_of (suc n)) negative (suc place) (rest_of (suc n)) (rest_of-below n n (omega arith)) (omega arith))

-- ---- no neighbours

-- the digits stand from the place on
abbrev StandFrom : ℕ → List Digit → Type 0
StandFrom place ds = All (λ d. place ≤ d.place) ds

StandFrom-less : (place : ℕ) (ds : List Digit) → StandFrom (suc place) ds → StandFrom place ds
StandFrom-less place ds from k other h = omega (arith, from k other h)

StandFrom-cons : (place : ℕ) (negative : Bool) (ds : List Digit) → StandFrom (suc place) ds → StandFrom place (record { place = place; negative = negative } ∷ ds)
StandFrom-cons place negative ds from zero other h = omega arith
StandFrom-cons place negative ds from (suc k) other h = omega (arith, from k other (omega arith))

StandFrom-with_digit : (r : ℕ) (negative : Bool) (place : ℕ) (ds : List Digit) → StandFrom (suc place) ds → StandFrom place (with_digit r negative place ds)
StandFrom-with_digit zero negative place ds from = StandFrom-less place ds from
StandFrom-with_digit (suc zero) negative place ds from = StandFrom-cons place negative ds from
StandFrom-with_digit (suc (suc zero)) negative place ds from = StandFrom-less place ds from
StandFrom-with_digit (suc (suc (suc zero))) negative place ds from = StandFrom-cons place (not negative) ds from
StandFrom-with_digit (suc (suc (suc (suc r)))) negative place ds from = StandFrom-less place ds from

StandFrom-digits_to : (fuel : ℕ) (negative : Bool) (place n : ℕ) → StandFrom place (digits_to fuel negative place n)
StandFrom-digits_to fuel negative place zero = λ k other h. absurd (omega arith)
StandFrom-digits_to zero negative place (suc n) = λ k other h. absurd (omega arith)
StandFrom-digits_to (suc fuel) negative place (suc n) =
    StandFrom-with_digit (suc n % 4) negative place _ (StandFrom-digits_to fuel negative (suc place) (rest_of (suc n)))

-- an even number has no digit at its first place
StandFrom-even : (fuel : ℕ) (negative : Bool) (place n half : ℕ) → n ≡ 2 * half → StandFrom (suc place) (digits_to fuel negative place n)
StandFrom-even fuel negative place zero half e = λ k other h. absurd (omega arith)
StandFrom-even zero negative place (suc n) half e = λ k other h. absurd (omega arith)
StandFrom-even (suc fuel) negative place (suc n) half e = at (suc n % 4) refl _ (StandFrom-digits_to fuel negative (suc place) (rest_of (suc n)))
  where
    at : (r : ℕ) → suc n % 4 ≡ r → (ds : List Digit) → StandFrom (suc place) ds → StandFrom (suc place) (with_digit r negative place ds)
    at zero m ds from = from
    at (suc zero) m ds from = absurd (omega arith)
    at (suc (suc zero)) m ds from = from
    at (suc (suc (suc zero))) m ds from = absurd (omega arith)
    at (suc (suc (suc (suc r)))) m ds from = absurd (omega arith)

AreApart-cons : (place : ℕ) (negative : Bool) (ds : List Digit) → StandFrom (suc (suc place)) ds → AreApart ds → AreApart (record { place = place; negative = negative } ∷ ds)
AreApart-cons place negative ds from apart i zero other h k = absurd (omega arith)
AreApart-cons place negative ds from apart zero (suc j) other h k = from j other (omega arith)
AreApart-cons place negative ds from apart (suc i) (suc j) other h k = apart i j other (omega arith) (omega arith)

AreApart-with_digit : (n : ℕ) (negative : Bool) (place : ℕ) (ds : List Digit) → ((half : ℕ) → rest_of n ≡ 2 * half → StandFrom (suc (suc place)) ds) → AreApart ds → AreApart (with_digit (n % 4) negative place ds)
AreApart-with_digit n negative place ds from apart = at (n % 4) refl from
  where
    at : (r : ℕ) → n % 4 ≡ r → ((half : ℕ) → rest_by r n ≡ 2 * half → StandFrom (suc (suc place)) ds) → AreApart (with_digit r negative place ds)
    at zero m from = apart
    at (suc zero) m from = AreApart-cons place negative ds (from (n / 4) (omega arith)) apart
    at (suc (suc zero)) m from = apart
    at (suc (suc (suc zero))) m from = AreApart-cons place (not negative) ds (from (suc (n / 4)) (omega arith)) apart
    at (suc (suc (suc (suc r)))) m from = apart

AreApart-digits_to : (fuel : ℕ) (negative : Bool) (place n : ℕ) → AreApart (digits_to fuel negative place n)
AreApart-digits_to fuel negative place zero = λ i j other h k. absurd (omega arith)
AreApart-digits_to zero negative place (suc n) = λ i j other h k. absurd (omega arith)
AreApart-digits_to (suc fuel) negative place (suc n) =
    AreApart-with_digit (suc n) negative place _ (StandFrom-even fuel negative (suc place) (rest_of (suc n))) (AreApart-digits_to fuel negative (suc place) (rest_of (suc n)))

pub AreApart-non_adjacent : (c : ℤ) → AreApart (non_adjacent c)
AreApart-non_adjacent c = AreApart-digits_to (unsigned_abs c) (is_negative c) 0 (unsigned_abs c)

-- ---- the digit at a place

pub digits_from-odd : (negative : Bool) (place n : ℕ) → n % 2 ≡ 1 → digits_from negative place n ≡ record { place = place; negative = not (beq negative (n % 4 == 3)) } ∷ digits_from negative (suc place) (rest_of n)
digits_from-odd negative place n odd = digits_from-step negative place n ∙ at (n % 4) refl negative
  where
    at : (r : ℕ) → n % 4 ≡ r → (s : Bool) → with_digit r s place (digits_from negative (suc place) (rest_of n)) ≡ record { place = place; negative = not (beq s (r == 3)) } ∷ digits_from negative (suc place) (rest_of n)
    at zero m s = absurd (omega arith)
    at (suc zero) m false = refl
    at (suc zero) m true = refl
    at (suc (suc zero)) m s = absurd (omega arith)
    at (suc (suc (suc zero))) m false = refl
    at (suc (suc (suc zero))) m true = refl
    at (suc (suc (suc (suc r)))) m s = absurd (omega arith)

pub digits_from-even : (negative : Bool) (place n : ℕ) → n % 2 ≡ 0 → digits_from negative place n ≡ digits_from negative (suc place) (rest_of n)
digits_from-even negative place n even_n = digits_from-step negative place n ∙ at (n % 4) refl
  where
    at : (r : ℕ) → n % 4 ≡ r → with_digit r negative place (digits_from negative (suc place) (rest_of n)) ≡ digits_from negative (suc place) (rest_of n)
    at zero m = refl
    at (suc zero) m = absurd (omega arith)
    at (suc (suc zero)) m = refl
    at (suc (suc (suc zero))) m = absurd (omega arith)
    at (suc (suc (suc (suc r)))) m = refl

-- each place halves the bound
pub rest_of-bound : (k n : ℕ) → n ≤ 2 ^ k → 2 * rest_of n ≤ 2 ^ k
rest_of-bound zero n h = at (by_four n)
  where
    at : ByFour n → 2 * rest_of n ≤ 1
    at (even half e rest w) = omega arith
    at (one quarter e rest w) = omega arith
    at (three quarter e rest w) = omega arith
rest_of-bound (suc k) n h = at (by_four n)
  where
    at : ByFour n → 2 * rest_of n ≤ 2 ^ suc k
    at (even half e rest w) = omega arith
    at (one quarter e rest w) = omega arith
    at (three quarter e rest w) = omega arith
