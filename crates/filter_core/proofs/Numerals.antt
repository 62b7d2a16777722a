-- What `parse` answers for a word of digits.
use Rattle.std.proofs.Common.{◌≡◌, ℕ, ◌<◌, ◌^◌, true, false, List, [], ◌∷◌, length, nat_lt, nat_le, ◌&&◌, None, Result, Ok, Err, rules, arith}
use Rattle.std.proofs.lemmas.Str.Parse.{IsNumeralModel, numerals_by_fold, parse_gives}
use Rattle.std.proofs.lemmas.Bool.{and_parts, false_from_ne_true, false≢true}
use borrow.Author.Tests.{ltb-true}
use Rattle.filter_core.specs.CommandWords.{is_file, is_numeral, number_of}
use Rattle.std.specs.List.{list_all}
use Rattle.std.specs.Char.{is_ascii_digit}
use Rattle.std.specs.Str.Parse.{ParsesUnsigned, digits_value, digits_value_after}

pub digits_model : IsNumeralModel (λ ds. list_all is_ascii_digit ds ≡ true) (digits_value_after 10 0)
digits_model = numerals_by_fold _ (search rules) (digits_value_after 10) (search rules)

-- a numeral that doesn't parse is none below 2^64
pub number_of-err : {E : Type 0} (bs : List ℕ) (r : Result ℕ E) (e : E) → ParsesUnsigned 64 10 bs r → is_numeral bs ≡ true → r ≡ Err e → None ≡ number_of bs
number_of-err bs r e parses numeral failed =
    let (front, digits) = and_parts (is_file bs && nat_le (length bs) 20) (list_all is_ascii_digit bs) numeral in
    let (file, short) = and_parts (is_file bs) (nat_le (length bs) 20) front in
    let some : 0 < length bs = some_of bs file in
    let large : nat_lt (digits_value 10 bs) (2 ^ 64) ≡ false = false_from_ne_true _ (λ small. let gives : r ≡ Ok (digits_value 10 bs) = parse_gives digits_model 64 bs r parses digits some (ltb-true _ _ small) in cc) in
    rw (numeral, large)
  where
    some_of : (xs : List ℕ) → is_file xs ≡ true → 0 < length xs
    some_of [] h = absurd (false≢true h)
    some_of (x ∷ xs) h = omega arith
