-- Printed numbers as lines and as fields.
use Rattle.std.proofs.Common.{◌≡◌, ◌==◌, ◌∙◌, ℕ, zero, suc, ◌+◌, ◌-◌, ◌%◌, ◌<◌, ◌≤◌, ◌^◌, Bool, true, false, not, ◌&&◌, cond, List, [], ◌∷◌, ◌++◌, length, filter, None, Some, refl, sym, ap, ℤ, pos, negsuc, neg_ℤ, arith}
use Rattle.std.specs.Prelude.{decimal, slice_index}
use Rattle.std.specs.Fmt.{signed_decimal}
use Rattle.std.specs.Char.{is_ascii_digit}
use Rattle.std.specs.List.{list_all, slice_split, onto_first}
use Rattle.std.specs.Str.Parse.{starts_with_minus, without_leading_sign, digits_value, signed_digits_value}
use Rattle.std.proofs.lemmas.Fmt.{decimal_by_steps_wide, decimal_is_IsNumeral_wide, length-decimal-le_wide}
use Rattle.std.proofs.lemmas.Bool.{ne_eqb}
use Rattle.std.proofs.lemmas.Bool.Decides.{nat_tests}
use Rattle.mr_values.specs.Width.{FitsWidth}
use Rattle.mr_values.proofs.WidthLemmas.{fits_out}
use Rattle.sample_file.specs.Lines.{content_of}
use Rattle.sample_file.specs.Fields.{is_blank, is_filled, fields_of, is_skipped, is_numeral, is_held, number_of}
use Rattle.sample_file.proofs.RangeSteps.{same-held}

-- ---- plain bytes

-- bytes from `-` to `9`: no blanks, no ends of a line and no `#`
abbrev pub ArePlain : List ℕ → Type 0
ArePlain [] = Unit {0}
ArePlain (b ∷ bs) = (45 ≤ b) × (b < 58) × ArePlain bs

pub one_plain : (bs : List ℕ) → ArePlain bs → list_all (λ byte. not (byte == 10)) bs ≡ true
one_plain [] all = refl
one_plain (b ∷ bs) all = let other : (b == 10) ≡ false = ne_eqb b 10 (omega (arith, all.0)) in rw (other, one_plain bs all.2) refl

no_blank : (b : ℕ) → 45 ≤ b → is_blank b ≡ false
no_blank b low = grind (arith, nat_tests)

split_plain : (bs : List ℕ) → ArePlain bs → slice_split is_blank bs ≡ bs ∷ []
split_plain [] all = refl
split_plain (b ∷ bs) all =
    ap (λ (t : Bool). cond t ([] ∷ slice_split is_blank bs) (onto_first b (slice_split is_blank bs))) (no_blank b all.0) ∙ ap (onto_first b) (split_plain bs all.2)

pub fields_plain : (b : ℕ) (bs : List ℕ) → ArePlain (b ∷ bs) → fields_of (b ∷ bs) ≡ (b ∷ bs) ∷ []
fields_plain b bs all = ap (filter is_filled) (split_plain (b ∷ bs) all)

pub counted_plain : (b : ℕ) (bs : List ℕ) → ArePlain (b ∷ bs) → is_skipped (b ∷ bs) ≡ false
counted_plain b bs all =
    let blank = no_blank b all.0 in
    let mark : (b == 35) ≡ false = ne_eqb b 35 (omega (arith, all.0)) in
    rw (blank, mark) refl

no_return : (bs : List ℕ) (k : ℕ) → ArePlain bs → (slice_index bs k == 13) ≡ false
no_return [] k all = refl
no_return (b ∷ bs) zero all = ne_eqb b 13 (omega (arith, all.0))
no_return (b ∷ bs) (suc k) all = no_return bs k all.2

pub content_plain : (bs : List ℕ) → ArePlain bs → content_of bs ≡ bs
content_plain bs all = let other = no_return bs (length bs - 1) all in rw other refl

-- ---- digits

abbrev AreDigits : List ℕ → Type 0
AreDigits [] = Unit {0}
AreDigits (d ∷ ds) = (48 ≤ d) × (d < 58) × AreDigits ds

-- there is a first digit
record IsNumber (ds : List ℕ) : Type 0 where
  all : AreDigits ds
  some : 0 < length ds

digits_push : (ds : List ℕ) (d : ℕ) → AreDigits ds → d < 10 → AreDigits (ds ++ (48 + d) ∷ [])
digits_push [] d all lt = (omega arith, omega arith, tt)
digits_push (x ∷ ds) d all lt = (all.0, all.1, digits_push ds d all.2 lt)

length_push : (ds : List ℕ) (x : ℕ) → 0 < length (ds ++ x ∷ [])
length_push [] x = omega arith
length_push (d ∷ ds) x = omega arith

decimal_number : (n : ℕ) → n < 10 ^ 64 → IsNumber (decimal n)
decimal_number n lt =
    decimal_by_steps_wide (λ k ds. IsNumber ds)
    (λ k less. record { all = digits_push [] k tt less; some = omega arith })
    (λ k ds le more. record { all = digits_push ds (k % 10) more.all (omega arith); some = length_push ds (48 + k % 10) }) n lt

plain_digits : (ds : List ℕ) → AreDigits ds → ArePlain ds
plain_digits [] all = tt
plain_digits (d ∷ ds) all = (omega (arith, all.0), all.1, plain_digits ds all.2)

pub plain_decimal : (n : ℕ) → n < 10 ^ 64 → ArePlain (decimal n)
plain_decimal n lt = plain_digits (decimal n) (decimal_number n lt).all

digit_is : (d : ℕ) → 48 ≤ d → d < 58 → is_ascii_digit d ≡ true
digit_is d low high = grind (arith, nat_tests)

all_digits : (ds : List ℕ) → AreDigits ds → list_all is_ascii_digit ds ≡ true
all_digits [] all = refl
all_digits (d ∷ ds) all = let first = digit_is d all.0 all.1 in rw (first, all_digits ds all.2) refl

filled : (ds : List ℕ) → 0 < length ds → not (length ds == 0) ≡ true
filled ds some = let other : (length ds == 0) ≡ false = ne_eqb (length ds) 0 (omega (arith, some)) in rw other refl

-- ---- numerals

-- a field that is a numeral of this number
record IsNumeralOf (text : List ℕ) (z : ℤ) : Type 0 where
  digits : is_numeral text ≡ true
  value : signed_digits_value 10 text ≡ z

both_true : (a b : Bool) → a ≡ true → b ≡ true → (a && b) ≡ true
both_true true b h k = k
both_true false b h k = h

-- digits have no sign in front
no_sign : (ds : List ℕ) → IsNumber ds → (starts_with_minus ds ≡ false) × (without_leading_sign ds ≡ ds)
no_sign [] number = absurd (omega (arith, number.some))
no_sign (d ∷ ds) number =
    let minus : (d == 45) ≡ false = ne_eqb d 45 (omega (arith, number.all.0)) in
    let plus : (d == 43) ≡ false = ne_eqb d 43 (omega (arith, number.all.0)) in
    (minus, rw (minus, plus) refl)

numeral_pos : (n : ℕ) → n < 10 ^ 64 → IsNumeralOf (decimal n) (pos n)
numeral_pos n lt =
    let number = decimal_number n lt in
    let sign = no_sign (decimal n) number in
    let value : digits_value 10 (decimal n) ≡ n = (decimal_is_IsNumeral_wide n lt).1 in
    record {
      digits = both_true _ _ (ap (λ (ds : List ℕ). not (length ds == 0)) sign.1 ∙ filled (decimal n) number.some) (ap (list_all is_ascii_digit) sign.1 ∙ all_digits (decimal n) number.all);
      value = value_of (starts_with_minus (decimal n)) (without_leading_sign (decimal n)) (decimal n) sign.0 sign.1 ∙ ap pos value;
    }
  where
    value_of : (t : Bool) (ds whole : List ℕ) → t ≡ false → ds ≡ whole → cond t (neg_ℤ (pos (digits_value 10 ds))) (pos (digits_value 10 ds)) ≡ pos (digits_value 10 whole)
    value_of true ds whole is same = cc
    value_of false ds whole is same = ap (λ (xs : List ℕ). pos (digits_value 10 xs)) same

numeral_neg : (n : ℕ) → suc n < 10 ^ 64 → IsNumeralOf (45 ∷ decimal (suc n)) (negsuc n)
numeral_neg n lt =
    let number = decimal_number (suc n) lt in
    let value : digits_value 10 (decimal (suc n)) ≡ suc n = (decimal_is_IsNumeral_wide (suc n) lt).1 in
    record {
      digits = both_true _ _ (filled (decimal (suc n)) number.some) (all_digits (decimal (suc n)) number.all);
      value = ap (λ (m : ℕ). neg_ℤ (pos m)) value;
    }

-- ---- numbers of 128 bits

-- there is a first byte, at most 40 bytes, and they are plain
pub record IsPrinted (text : List ℕ) (z : ℤ) : Type 0 where
  pub first : ℕ
  pub others : List ℕ
  pub is : text ≡ first ∷ others
  pub plain : ArePlain text
  pub short : length text ≤ 40
  pub numeral : is_numeral text ≡ true
  pub number : number_of text ≡ Some z

held : (z : ℤ) → FitsWidth 128 z → is_held 128 z ≡ true
held z fits = sym (same-held 128 z true ((λ yes. fits), (λ fits. refl)))

number_from : (text : List ℕ) (z : ℤ) → FitsWidth 128 z → signed_digits_value 10 text ≡ z → number_of text ≡ Some z
number_from text z fits value =
    ap (λ (v : ℤ). cond (is_held 128 v) (Some v) None) value ∙ ap (λ (t : Bool). cond t (Some z) None) (held z fits)

split_first : (ds : List ℕ) → 0 < length ds → (d : ℕ) × (others : List ℕ) × (ds ≡ d ∷ others)
split_first [] some = absurd (omega (arith, some))
split_first (d ∷ ds) some = (d, ds, refl)

pub printed_signed : (z : ℤ) → FitsWidth 128 z → IsPrinted (signed_decimal z) z
printed_signed (pos n) fits =
    let out = fits_out 128 (pos n) fits in
    let small : n < 10 ^ 39 = omega (arith, out.0) in
    let wide : n < 10 ^ 64 = omega (arith, out.0) in
    let number = decimal_number n wide in
    let first = split_first (decimal n) number.some in
    let its = numeral_pos n wide in
    record {
      first = first.0;
      others = first.1;
      is = first.2;
      plain = plain_digits (decimal n) number.all;
      short = omega (arith, length-decimal-le_wide 39 n (omega arith) small wide);
      numeral = its.digits;
      number = number_from (decimal n) (pos n) fits its.value;
    }
printed_signed (negsuc n) fits =
    let out = fits_out 128 (negsuc n) fits in
    let small : suc n < 10 ^ 39 = omega (arith, out.1) in
    let wide : suc n < 10 ^ 64 = omega (arith, out.1) in
    let its = numeral_neg n wide in
    record {
      first = 45;
      others = decimal (suc n);
      is = refl;
      plain = (omega arith, omega arith, plain_decimal (suc n) wide);
      short = omega (arith, length-decimal-le_wide 39 (suc n) (omega arith) small wide);
      numeral = its.digits;
      number = number_from (45 ∷ decimal (suc n)) (negsuc n) fits its.value;
    }

pub length_decimal : (n : ℕ) → n < 2 ^ 128 → length (decimal n) ≤ 39
length_decimal n lt = length-decimal-le_wide 39 n (omega arith) (omega (arith, lt)) (omega (arith, lt))
