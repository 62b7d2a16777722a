-- Signed powers of two: their sums, the least number of them, and the non-adjacent form.
-- Meyer-Baese, Digital Signal Processing with Field Programmable Gate Arrays, 2.2 (canonic signed digits).
use Rattle.std.specs.Prelude.{◌≡◌, ℕ, zero, suc, ◌/◌, ◌%◌, ◌^◌, ◌<◌, ◌≤◌, Bool, true, false, not, List, [], ◌∷◌, length, count_by, ℤ, pos, neg_ℤ, ◌+ℤ◌, unsigned_abs}
use Rattle.std.specs.Int.{is_negative}
use Rattle.std.specs.List.{AllPairs}
use Rattle.mr_values.specs.declared.digit.Digit.{Digit}

-- ---- sums of signed powers of two

abbrev pub with_sign : Bool → ℕ → ℤ
with_sign false n = pos n
with_sign true n = neg_ℤ (pos n)

abbrev pub power_of : Digit → ℤ
power_of d = with_sign d.negative (2 ^ d.place)

abbrev pub total : List Digit → ℤ
total [] = pos 0
total (d ∷ ds) = power_of d +ℤ total ds

-- the places rise, and no two are neighbours
abbrev pub AreApart : List Digit → Type 0
AreApart ds = AllPairs (λ d e. suc d.place < e.place) ds

-- n is the least length of a list of signed powers of two whose sum is c
pub record IsWeight (c : ℤ) (n : ℕ) : Type 0 where
  pub reached : (ds : List Digit) × (total ds ≡ c) × (length ds ≡ n)
  pub least : (ds : List Digit) → total ds ≡ c → n ≤ length ds

-- ---- the non-adjacent form

-- What is left of n above its lowest digit, from n modulo 4: that digit is 0 where n is even,
-- 1 where n leaves 1 modulo 4, and -1 where it leaves 3.
abbrev pub rest_by : ℕ → ℕ → ℕ
rest_by (suc (suc (suc zero))) n = suc (n / 2)
rest_by _ n = n / 2

abbrev pub rest_of : ℕ → ℕ
rest_of n = rest_by (n % 4) n

abbrev pub with_digit : ℕ → Bool → ℕ → List Digit → List Digit
with_digit (suc zero) negative place ds = record { place = place; negative = negative } ∷ ds
with_digit (suc (suc (suc zero))) negative place ds = record { place = place; negative = not negative } ∷ ds
with_digit _ negative place ds = ds

-- the digits of n, or of -n, lowest first, from a place on; n is at most the fuel
abbrev pub digits_to : ℕ → Bool → ℕ → ℕ → List Digit
digits_to fuel negative place zero = []
digits_to zero negative place (suc n) = []
digits_to (suc fuel) negative place (suc n) = with_digit (suc n % 4) negative place (digits_to fuel negative (suc place) (rest_of (suc n)))

abbrev pub digits_from : Bool → ℕ → ℕ → List Digit
digits_from negative place n = digits_to n negative place n

abbrev pub non_adjacent : ℤ → List Digit
non_adjacent c = digits_from (is_negative c) 0 (unsigned_abs c)

-- ---- how many digits

abbrev pub with_one : ℕ → ℕ → ℕ
with_one (suc zero) count = suc count
with_one (suc (suc (suc zero))) count = suc count
with_one _ count = count

abbrev pub count_to : ℕ → ℕ → ℕ
count_to fuel zero = 0
count_to zero (suc n) = 0
count_to (suc fuel) (suc n) = with_one (suc n % 4) (count_to fuel (rest_of (suc n)))

abbrev pub count_of : ℕ → ℕ
count_of n = count_to n n

-- the weight of c, to compute with
abbrev pub digit_count : ℤ → ℕ
digit_count c = count_of (unsigned_abs c)

-- the digits 1 and the digits -1 of the non-adjacent form
abbrev pub positive_count : ℤ → ℕ
positive_count c = count_by (λ d. not d.negative) (non_adjacent c)

abbrev pub negative_count : ℤ → ℕ
negative_count c = count_by (λ d. d.negative) (non_adjacent c)
