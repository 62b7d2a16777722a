-- What `parse` answers for a field that is a numeral.
use Rattle.std.proofs.Common.{◌≡◌, ◌==◌, not, subst, FitsSigned, ℕ, ◌<◌, Bool, true, false, cond, List, [], ◌∷◌, length, drop, ℤ, pos, negsuc, None, arith, refl}
use borrow.Author.Tests.{eqb-true}
use Rattle.std.specs.List.{list_all}
use Rattle.std.specs.Char.{is_ascii_digit}
use Rattle.std.specs.Str.{IsAscii}
use Rattle.std.specs.Char.{digit_value}
use Rattle.std.specs.Int.{w128}
use Rattle.std.proofs.lemmas.Bool.Decides.{nat_tests}
use Rattle.std.specs.Str.Parse.{AllDigits, IsNumeral, without_leading_sign, signed_digits_value}
use Rattle.std.proofs.lemmas.Bool.{and_parts, false_from_ne_true, false≢true}
use Rattle.std.proofs.lemmas.Str.Ascii.{IsAscii-nil, IsAscii-cons}
use Rattle.std.proofs.lemmas.Int.{ints}
use Rattle.sample_file.specs.Fields.{is_numeral, is_held, number_of}

digits-ascii : (ds : List ℕ) → list_all is_ascii_digit ds ≡ true → IsAscii ds
digits-ascii [] h = IsAscii-nil
digits-ascii (d ∷ ds) h =
    let (first, others) = and_parts (is_ascii_digit d) (list_all is_ascii_digit ds) h in
    IsAscii-cons d ds (digit_ascii d first) (digits-ascii ds others)
  where
    digit_ascii : (d : ℕ) → is_ascii_digit d ≡ true → d < 128
    digit_ascii d h = grind (arith, nat_tests)

signed-ascii : (b : ℕ) (bs : List ℕ) (minus plus : Bool) → (b == 45) ≡ minus → (b == 43) ≡ plus → list_all is_ascii_digit (cond minus bs (drop (cond plus 1 0) (b ∷ bs))) ≡ true → IsAscii (b ∷ bs)
signed-ascii b bs true plus is_minus is_plus h = let is : b ≡ 45 = eqb-true b 45 is_minus in IsAscii-cons b bs (omega (arith, is)) (digits-ascii bs h)
signed-ascii b bs false true is_minus is_plus h = let is : b ≡ 43 = eqb-true b 43 is_plus in IsAscii-cons b bs (omega (arith, is)) (digits-ascii bs h)
signed-ascii b bs false false is_minus is_plus h = digits-ascii (b ∷ bs) h

pub numeral-ascii : (field : List ℕ) → is_numeral field ≡ true → IsAscii field
numeral-ascii [] h = IsAscii-nil
numeral-ascii (b ∷ bs) h =
    signed-ascii b bs (b == 45) (b == 43) refl refl (and_parts _ (list_all is_ascii_digit (without_leading_sign (b ∷ bs))) h).1

digits-all : (ds : List ℕ) → list_all is_ascii_digit ds ≡ true → AllDigits 10 ds
digits-all [] h = tt
digits-all (d ∷ ds) h =
    let (first, others) = and_parts (is_ascii_digit d) (list_all is_ascii_digit ds) h in
    (digit_small d first, digits-all ds others)
  where
    digit_small : (d : ℕ) → is_ascii_digit d ≡ true → digit_value d < 10
    digit_small d h = grind (arith, nat_tests)

held-fits : (z : ℤ) → is_held 128 z ≡ true → FitsSigned w128 z
held-fits (pos n) h = record { sfits = grind (arith, ints, nat_tests) }
held-fits (negsuc n) h = record { sfits = grind (arith, ints, nat_tests) }

filled : (xs : List ℕ) → not (length xs == 0) ≡ true → 0 < length xs
filled [] h = absurd (false≢true h)
filled (x ∷ xs) h = omega arith

-- a numeral that doesn't parse is none of 128 bits
pub number-refused : (field text : List ℕ) → text ≡ field → (IsNumeral 10 (without_leading_sign text) × FitsSigned w128 (signed_digits_value 10 text) → ⊥) → is_numeral field ≡ true → None ≡ number_of field
number-refused field text same refused numeral =
    let (some, digits) = and_parts (not (length (without_leading_sign field) == 0)) (list_all is_ascii_digit (without_leading_sign field)) numeral in
    let refusal = subst (λ (bs : List ℕ). IsNumeral 10 (without_leading_sign bs) × FitsSigned w128 (signed_digits_value 10 bs) → ⊥) same refused in
    let outside : is_held 128 (signed_digits_value 10 field) ≡ false = false_from_ne_true _ (λ held. refusal ((filled _ some, digits-all _ digits), held-fits _ held)) in
    rw outside refl
