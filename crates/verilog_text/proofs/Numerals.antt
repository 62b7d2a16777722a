-- Numbers in front of a separator.
use Rattle.std.proofs.Common.{◌≡◌, ℕ, suc, ◌+◌, ◌*◌, ◌<◌, ◌≤◌, ◌^◌, Bool, true, false, List, [], ◌∷◌, ◌++◌, length, take, drop, Some, None, cond, inl, inr, refl, sym, ap, ◌∙◌, arith, append_assoc, length-append}
use Rattle.std.proofs.lemmas.List.{append-nil}
use Rattle.std.specs.Prelude.{◌==◌, ◌/◌, ◌%◌, nat_lt}
use Rattle.std.specs.List.{list_all, list_any, prefix_len}
use Rattle.std.specs.Char.{digit_value}
use Rattle.std.specs.Fmt.{decimal, digits}
use Rattle.std.specs.Str.Parse.{AllDigits, digits_value_after}
use Rattle.std.proofs.Math.Numerals.{one-add}
use Rattle.std.proofs.Math.Pow.{pow_mono}
use Rattle.std.proofs.Math.Seq.{take-append_seam, drop-append_seam}
use Rattle.std.proofs.lemmas.Fmt.{decimal_is_IsNumeral, digits_is_IsNumeral, decimal_digit, decimal_step, decimal_nonempty}
use Rattle.std.proofs.lemmas.Str.Parse.{digit_from_value}
use Rattle.std.proofs.lemmas.Bool.{cond-true, cond-false, and_left, and_right, and_from, or_from, or_left, lt-ltb, le-leb, lt-leb, ne_eqb, cases_lt, le-ltb}
use Rattle.verilog_text.specs.declared.token.Decimal.{Decimal}
use Rattle.verilog_text.specs.declared.token.Literal.{Literal}
use Rattle.verilog_text.specs.declared.token.Token.TheVariants as token
use Rattle.verilog_text.specs.Lexer.{Piece, Fixed, UnreadablePiece, is_letter, is_digit, value_behind, is_unknown, is_digit_in, is_more_in, is_one, decimal_piece, pattern_piece, literal_piece, digits_piece, sized_piece, behind_digits, numeral_piece, piece_of}
use Rattle.verilog_text.specs.Layout.{base_text}
use Rattle.verilog_text.proofs.Spelled.{End, BySpace, ByLine, ByClose, ByBracket, ByComma, BySemicolon, end_byte, IsSpelling, run_stops}

-- a decimal digit is a digit and no letter
digit_at : (d : ℕ) → digit_value d < 10 → is_digit d ≡ true
digit_at d low = let r = digit_from_value d low in and_from _ _ (le-leb 48 d (omega (arith, r))) (le-leb d 57 (omega (arith, r)))

no_letter_at : (d : ℕ) → digit_value d < 10 → is_letter d ≡ false
no_letter_at d low =
    let r = digit_from_value d low in
    or_from _ _ (and_left _ _ (lt-leb 97 d (omega (arith, r)))) (or_from _ _ (and_left _ _ (lt-leb 65 d (omega (arith, r)))) (ne_eqb d 95 (λ e. omega (arith, r, e))))

-- a digit is no byte that is none
no_such : (base d k : ℕ) → digit_value d < base → base ≤ digit_value k → (d == k) ≡ false
no_such base d k low high = ne_eqb d k (λ e. omega (arith, ap digit_value e))

-- digits as the lexer counts them, and as std does
value_is : (base value : ℕ) (ds : List ℕ) → base ≤ 16 → AllDigits base ds → value_behind base value ds ≡ digits_value_after base value ds
value_is base value [] small all = refl
value_is base value (d ∷ ds) small all = cond-false _ _ _ (no_such base d 95 all.0 (omega arith)) ∙ value_is base (value * base + digit_value d) ds small all.1

digits_len : (ds rest : List ℕ) → AllDigits 10 ds → prefix_len is_digit rest ≡ 0 → prefix_len is_digit (ds ++ rest) ≡ length ds
digits_len [] rest all none = none
digits_len (d ∷ ds) rest all none = cond-true _ _ _ (digit_at d all.0) ∙ one-add _ ∙ ap suc (digits_len ds rest all.1 none)

numeral_at : (ds rest : List ℕ) → AllDigits 10 ds → prefix_len is_digit rest ≡ 0 → numeral_piece (ds ++ rest) ≡ behind_digits ds rest
numeral_at ds rest all none =
    ap (λ n. behind_digits (take n (ds ++ rest)) (drop n (ds ++ rest))) (digits_len ds rest all none)
    ∙ ap (λ front. behind_digits front (drop (length ds) (ds ++ rest))) (take-append_seam ds rest)
    ∙ ap (λ end. behind_digits ds end) (drop-append_seam ds rest)

-- decimal digits, and then what is no digit
digits_at : (ds rest : List ℕ) → 0 < length ds → AllDigits 10 ds → prefix_len is_digit rest ≡ 0 → piece_of (ds ++ rest) ≡ behind_digits ds rest
digits_at [] rest some all none = absurd (omega arith)
digits_at (d ∷ ds) rest some all none = cond-false _ _ _ (no_letter_at d all.0) ∙ cond-true _ _ _ (digit_at d all.0) ∙ numeral_at (d ∷ ds) rest all none

-- the decimal writing of a number, and then what is no digit
pub number_at : (n : ℕ) (rest : List ℕ) → n < 2 ^ 64 → prefix_len is_digit rest ≡ 0 → piece_of (decimal n ++ rest) ≡ behind_digits (decimal n) rest
number_at n rest low none = let d = decimal_is_IsNumeral n low in digits_at (decimal n) rest d.0.0 d.0.1 none

pub decimal_value : (n : ℕ) → n < 2 ^ 64 → value_behind 10 0 (decimal n) ≡ n
decimal_value n low = let d = decimal_is_IsNumeral n low in value_is 10 0 (decimal n) (omega arith) d.0.1 ∙ d.1

low_power : (n : ℕ) → n < 2 ^ 31 → n < 2 ^ 64
low_power n h = omega (arith, pow_mono {i = 31} {j = 64} (omega arith))

-- no digit of a number stands before an end
before_number : (g : End) (xs : List ℕ) (n : ℕ) → n < 2 ^ 64 → piece_of (decimal n ++ (end_byte g ∷ xs)) ≡ None
before_number BySpace xs n low = number_at n (32 ∷ xs) low refl
before_number ByLine xs n low = number_at n (10 ∷ xs) low refl
before_number ByClose xs n low = number_at n (41 ∷ xs) low refl
before_number ByBracket xs n low = number_at n (93 ∷ xs) low refl
before_number ByComma xs n low = number_at n (44 ∷ xs) low refl
before_number BySemicolon xs n low = number_at n (59 ∷ xs) low refl

two_or_more : (xs : List ℕ) (d : ℕ) → 0 < length xs → is_one (xs ++ (d ∷ [])) ≡ false
two_or_more [] d h = absurd (omega arith)
two_or_more (x ∷ []) d h = refl
two_or_more (x ∷ y ∷ xs) d h = refl

-- a number below ten is written with one digit
is_one-decimal : (n : ℕ) → n < 2 ^ 64 → is_one (decimal n) ≡ nat_lt n 10
is_one-decimal n low =
    elim (cases_lt n 10) [
      | inl small ↦ ap is_one (decimal_digit n small) ∙ sym (lt-ltb n 10 small)
      | inr great ↦
          let tenth : n / 10 < 2 ^ 64 = omega arith in
          ap is_one (decimal_step n great low) ∙ two_or_more (decimal (n / 10)) (48 + n % 10) (decimal_nonempty (n / 10) tenth) ∙ sym (le-ltb n 10 great)
    ]

pub decimal_spelling : (d : Decimal) → d.value < 2 ^ 31 → d.is_single ≡ nat_lt d.value 10 → IsSpelling (decimal d.value) (Fixed (token.Number d))
decimal_spelling d h single =
    let n : ℕ = d.value in
    let low = low_power n h in
    let number : ℕ → Bool → Piece = λ v s. Fixed (token.Number (record { value = v; is_single = s })) in
    let value = decimal_value n low in
    let piece : decimal_piece (decimal n) ≡ Fixed (token.Number d) =
    ap (λ v. cond (nat_lt v (2 ^ 31)) (number v (is_one (decimal n))) UnreadablePiece) value ∙ cond-true _ _ _ (lt-ltb n (2 ^ 31) h) ∙ ap (number n) (is_one-decimal n low ∙ sym single) in
    record {
      some = (decimal_is_IsNumeral n low).0.0;
      alone = ap piece_of (sym (append-nil (decimal n))) ∙ number_at n [] low refl ∙ ap Some piece;
      ended = λ g xs. before_number g xs n low;
    }

-- a hex digit is a digit of the base, and none of no known value
known : (d : ℕ) → digit_value d < 16 → is_unknown d ≡ false
known d low = or_from _ _ (or_from _ _ (no_such 16 d 120 low (omega arith)) (no_such 16 d 88 low (omega arith))) (or_from _ _ (or_from _ _ (no_such 16 d 122 low (omega arith)) (no_such 16 d 90 low (omega arith))) (no_such 16 d 63 low (omega arith)))

all_known : (ds : List ℕ) → AllDigits 16 ds → list_any is_unknown ds ≡ false
all_known [] all = refl
all_known (d ∷ ds) all = or_from _ _ (known d all.0) (all_known ds all.1)

in_base : (d : ℕ) → digit_value d < 16 → is_digit_in 16 d ≡ true
in_base d low = or_left _ _ (lt-ltb (digit_value d) 16 low)

all_in_base : (ds : List ℕ) → AllDigits 16 ds → list_all (is_more_in 16) ds ≡ true
all_in_base [] all = refl
all_in_base (d ∷ ds) all = and_from _ _ (or_left _ _ (in_base d all.0)) (all_in_base ds all.1)

end_stops : (g : End) → is_more_in 16 (end_byte g) ≡ false
end_stops BySpace = refl
end_stops ByLine = refl
end_stops ByClose = refl
end_stops ByBracket = refl
end_stops ByComma = refl
end_stops BySemicolon = refl

-- the digits of a literal alone
hex_alone : (size : ℕ) (signed : Bool) (ds : List ℕ) → 0 < length ds → AllDigits 16 ds → digits_piece size signed (Some 16) ds ≡ Some (literal_piece size signed 16 ds)
hex_alone size signed [] some all = absurd (omega arith)
hex_alone size signed (d ∷ ds) some all = cond-true _ _ _ (and_from _ _ (in_base d all.0) (all_in_base ds all.1))

-- and before an end
hex_before : (size : ℕ) (signed : Bool) (ds xs : List ℕ) (g : End) → 0 < length ds → digits_piece size signed (Some 16) (ds ++ (end_byte g ∷ xs)) ≡ None
hex_before size signed [] xs g some = absurd (omega arith)
hex_before size signed (d ∷ ds) xs g some = cond-false _ _ _ (and_right (is_digit_in 16 d) _ (run_stops (is_more_in 16) ds xs (end_byte g) (end_stops g)))

-- behind the size and the `'`
base_at : (size : ℕ) (signed : Bool) (ds rest : List ℕ) → sized_piece size (base_text signed ds ++ rest) ≡ digits_piece size signed (Some 16) (ds ++ rest)
base_at size true ds rest = refl
base_at size false ds rest = refl

literal_at : (size : ℕ) (signed : Bool) (value : ℕ) (rest : List ℕ) → size ≤ 128 → piece_of ((decimal size ++ (39 ∷ base_text signed (digits 16 false value))) ++ rest) ≡ digits_piece size signed (Some 16) (digits 16 false value ++ rest)
literal_at size signed value rest high =
    let low = low_power size (omega arith) in
    ap piece_of (append_assoc (decimal size) (39 ∷ base_text signed (digits 16 false value)) rest)
    ∙ number_at size (39 ∷ (base_text signed (digits 16 false value) ++ rest)) low refl
    ∙ ap (λ n. sized_piece n (base_text signed (digits 16 false value) ++ rest)) (decimal_value size low)
    ∙ base_at size signed (digits 16 false value) rest

pub based_spelling : (b : Literal) → 1 ≤ b.width → b.width ≤ 128 → b.bits < 2 ^ b.width → IsSpelling (decimal b.width ++ (39 ∷ base_text b.signed (digits 16 false b.bits))) (Fixed (token.Based b))
based_spelling b low high fits =
    let text : List ℕ = decimal b.width ++ (39 ∷ base_text b.signed (digits 16 false b.bits)) in
    let ds : List ℕ = digits 16 false b.bits in
    let great : b.bits < 16 ^ 64 = omega (arith, fits, pow_mono {i = b.width} {j = 128} high) in
    let d = digits_is_IsNumeral 16 false (omega arith) (omega arith) b.bits great in
    let value : value_behind 16 0 ds ≡ b.bits = value_is 16 0 ds (omega arith) d.0.1 ∙ d.1 in
    let literal : literal_piece b.width b.signed 16 ds ≡ Fixed (token.Based b) =
    cond-true _ _ _ (and_from _ _ (le-leb 1 b.width low) (le-leb b.width 128 high))
    ∙ cond-false _ _ _ (all_known ds d.0.1)
    ∙ ap (pattern_piece b.width b.signed) value
    ∙ cond-true _ _ _ (lt-ltb b.bits (2 ^ b.width) fits) in
    record {
      some = omega (arith, length-append (decimal b.width) (39 ∷ base_text b.signed ds));
      alone = ap piece_of (sym (append-nil text)) ∙ literal_at b.width b.signed b.bits [] high ∙ ap (digits_piece b.width b.signed (Some 16)) (append-nil ds) ∙ hex_alone b.width b.signed ds d.0.0 d.0.1 ∙ ap Some literal;
      ended = λ g xs. literal_at b.width b.signed b.bits (end_byte g ∷ xs) high ∙ hex_before b.width b.signed ds xs g d.0.0;
    }
