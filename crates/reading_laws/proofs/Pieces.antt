-- What the pieces of a text are: names of the grammar, and tokens whose numbers are small.
use Rattle.std.proofs.Common.{◌≡◌, ℕ, ◌+◌, ◌<◌, ◌≤◌, ◌^◌, Bool, true, false, ◌&&◌, List, [], ◌∷◌, ◌++◌, map, take, drop, Option, Some, None, refl, subst, arith}
use Rattle.std.specs.Prelude.{nat_lt, nat_le, ◌==◌, ◌||◌, not}
use Rattle.std.specs.List.{list_all, list_any, prefix_len}
use Rattle.std.specs.Str.{bytes_eq}
use Rattle.std.proofs.lemmas.Bool.{cond_both, ltb-true}
use Rattle.std.proofs.lemmas.Bool.Decides.{nat_tests}
use Rattle.verilog_tree.specs.declared.tree.Op.{Op}
use Rattle.verilog_tree.specs.declared.tree.ShiftOp.{ShiftOp}
use Rattle.verilog_text.specs.declared.token.Word.{Word}
use Rattle.verilog_text.specs.declared.token.Mark.{Mark}
use Rattle.verilog_text.specs.declared.token.Token.{Token}
use Rattle.verilog_text.specs.declared.token.Token.TheVariants as token
use Rattle.verilog_text.specs.Spelling.{word_text, all_words, mark_text, all_marks, op_text, all_ops, shift_text, all_shifts}
use Rattle.verilog_text.specs.Lexer.{Piece, Gap, NameText, Fixed, OutsidePiece, UnreadablePiece, Entry, looked_up, outside, outside_words, outside_marks, words, marks, name_unless, word_piece, value_behind, is_one, decimal_piece, base_of, is_unknown, is_digit_in, is_more_in, pattern_piece, literal_piece, digits_piece, based_piece, sized_piece, behind_digits, numeral_piece, is_letter, is_digit, is_name_byte, is_blank, is_nil, is_ended, is_open, slashed, piece_of, Placed, Scans, ended, gap, piece, unreadable}
use Rattle.verilog_text.specs.Layout.{IsName}

-- a token that is no name and whose numbers are small
abbrev pub IsFixed : Token → Type 0
IsFixed (token.Name n) = ⊥
IsFixed (token.Number d) = d.value < 2 ^ 31
IsFixed (token.Based l) = (1 ≤ l.width) × (l.width ≤ 128) × (l.bits < 2 ^ l.width)
IsFixed (token.Keyword w) = Unit {0}
IsFixed (token.Operator o) = Unit {0}
IsFixed (token.Shift s) = Unit {0}
IsFixed (token.Punctuation m) = Unit {0}

abbrev pub IsGoodPiece : Piece → Type 0
IsGoodPiece Gap = Unit {0}
IsGoodPiece (NameText text) = IsName text
IsGoodPiece (Fixed t) = IsFixed t
IsGoodPiece OutsidePiece = Unit {0}
IsGoodPiece UnreadablePiece = Unit {0}

abbrev IsGood : Option Piece → Type 0
IsGood None = Unit {0}
IsGood (Some p) = IsGoodPiece p

-- ---- the tables

abbrev AreGood : List Entry → Type 0
AreGood [] = Unit {0}
AreGood (x ∷ rest) = IsGoodPiece x.piece × AreGood rest

good_found : (table : List Entry) (bytes : List ℕ) → AreGood table → IsGood (looked_up table bytes)
good_found [] bytes good = tt
good_found (x ∷ rest) bytes good = cond_both (bytes_eq x.text bytes) (Some x.piece) (looked_up rest bytes) IsGood (λ e. good.0) (λ e. good_found rest bytes good.1)

good_both : (xs ys : List Entry) → AreGood xs → AreGood ys → AreGood (xs ++ ys)
good_both [] ys f g = g
good_both (x ∷ xs) ys f g = (f.0, good_both xs ys f.1 g)

good_made : {A : Type 0} (entry : A → Entry) → ((a : A) → IsGoodPiece (entry a).piece) → (xs : List A) → AreGood (map entry xs)
good_made entry each [] = tt
good_made entry each (x ∷ xs) = (each x, good_made entry each xs)

abbrev word_entry : Word → Entry
word_entry w = record { text = word_text w; piece = Fixed (token.Keyword w) }

abbrev mark_entry : Mark → Entry
mark_entry m = record { text = mark_text m; piece = Fixed (token.Punctuation m) }

abbrev op_entry : Op → Entry
op_entry o = record { text = op_text o; piece = Fixed (token.Operator o) }

abbrev shift_entry : ShiftOp → Entry
shift_entry s = record { text = shift_text s; piece = Fixed (token.Shift s) }

good_words : AreGood words
unfolding words
good_words = good_both (map word_entry all_words) (map outside outside_words) (good_made word_entry (λ w. tt) all_words) (good_made outside (λ text. tt) outside_words)

good_marks : AreGood marks
unfolding marks
good_marks =
    good_both (map mark_entry all_marks) (map op_entry all_ops ++ map shift_entry all_shifts ++ map outside outside_marks) (good_made mark_entry (λ m. tt) all_marks)
    (good_both (map op_entry all_ops) (map shift_entry all_shifts ++ map outside outside_marks) (good_made op_entry (λ o. tt) all_ops)
    (good_both (map shift_entry all_shifts) (map outside outside_marks) (good_made shift_entry (λ s. tt) all_shifts) (good_made outside (λ text. tt) outside_marks)))

-- ---- words

good_word : (b : ℕ) (rest : List ℕ) → is_letter b ≡ true → list_all is_name_byte rest ≡ true → IsGoodPiece (word_piece (b ∷ rest))
good_word b rest letter others = by (looked_up words (b ∷ rest)) refl (good_found words (b ∷ rest) good_words)
  where
    by : (o : Option Piece) → looked_up words (b ∷ rest) ≡ o → IsGood o → IsGoodPiece (name_unless o (b ∷ rest))
    by None is good = (letter, others, is)
    by (Some p) is good = good

-- ---- numerals

sizes : (n : ℕ) → (nat_le 1 n && nat_le n 128) ≡ true → (1 ≤ n) × (n ≤ 128)
sizes n is = (grind (arith, nat_tests), grind (arith, nat_tests))

good_decimal : (digits : List ℕ) → IsGoodPiece (decimal_piece digits)
good_decimal digits = let value = value_behind 10 0 digits in cond_both (nat_lt value (2 ^ 31)) (Fixed (token.Number (record { value = value; is_single = is_one digits }))) UnreadablePiece IsGoodPiece (λ e. ltb-true value (2 ^ 31) e) (λ e. tt)

good_pattern : (size : ℕ) (signed : Bool) (value : ℕ) → 1 ≤ size → size ≤ 128 → IsGoodPiece (pattern_piece size signed value)
good_pattern size signed value low high =
    cond_both (nat_lt value (2 ^ size)) (Fixed (token.Based (record { width = size; signed = signed; bits = value }))) UnreadablePiece IsGoodPiece (λ e. (low, high, ltb-true value (2 ^ size) e)) (λ e. tt)

good_literal : (size : ℕ) (signed : Bool) (base : ℕ) (digits : List ℕ) → IsGoodPiece (literal_piece size signed base digits)
good_literal size signed base digits =
    cond_both (nat_le 1 size && nat_le size 128) _ UnreadablePiece IsGoodPiece
    (λ e. let s = sizes size e in cond_both (list_any is_unknown digits) OutsidePiece (pattern_piece size signed (value_behind base 0 digits)) IsGoodPiece (λ f. tt) (λ f. good_pattern size signed (value_behind base 0 digits) s.0 s.1))
    (λ e. tt)

good_digits : (size : ℕ) (signed : Bool) (base : Option ℕ) (bytes : List ℕ) → IsGood (digits_piece size signed base bytes)
good_digits size signed None bytes = tt
good_digits size signed (Some base) [] = tt
good_digits size signed (Some base) (b ∷ rest) =
    cond_both (is_digit_in base b && list_all (is_more_in base) rest) (Some (literal_piece size signed base (b ∷ rest))) None IsGood (λ e. good_literal size signed base (b ∷ rest)) (λ e. tt)

good_based : (size : ℕ) (signed : Bool) (bytes : List ℕ) → IsGood (based_piece size signed bytes)
good_based size signed [] = tt
good_based size signed (b ∷ rest) = good_digits size signed (base_of b) rest

good_sized : (size : ℕ) (bytes : List ℕ) → IsGood (sized_piece size bytes)
good_sized size [] = tt
good_sized size (b ∷ rest) = cond_both ((b == 115) || (b == 83)) (based_piece size true rest) (based_piece size false (b ∷ rest)) IsGood (λ e. good_based size true rest) (λ e. good_based size false (b ∷ rest))

good_behind : (digits bytes : List ℕ) → IsGood (behind_digits digits bytes)
good_behind digits [] = good_decimal digits
good_behind digits (b ∷ rest) = cond_both (b == 39) (sized_piece (value_behind 10 0 digits) rest) None IsGood (λ e. good_sized (value_behind 10 0 digits) rest) (λ e. tt)

good_slashed : (bytes : List ℕ) → IsGood (slashed bytes)
good_slashed [] = tt
good_slashed (a ∷ rest) =
    cond_both (a == 47) _ _ IsGood (λ e. cond_both (list_all (λ b. not (b == 10)) rest) (Some Gap) None IsGood (λ f. tt) (λ f. tt))
    (λ e. cond_both (a == 42) _ None IsGood
    (λ f. cond_both (is_ended rest) (Some Gap) _ IsGood (λ g. tt) (λ g. cond_both (is_open rest) (Some UnreadablePiece) None IsGood (λ h. tt) (λ h. tt)))
    (λ f. tt))

-- ---- pieces

good_front : (bytes : List ℕ) → IsGood (piece_of bytes)
good_front [] = tt
good_front (b ∷ rest) =
    cond_both (is_letter b) _ _ IsGood
    (λ e. cond_both (list_all is_name_byte rest) (Some (word_piece (b ∷ rest))) None IsGood (λ f. good_word b rest e f) (λ f. tt))
    (λ e. cond_both (is_digit b) (numeral_piece (b ∷ rest)) _ IsGood (λ f. good_behind (take (prefix_len is_digit (b ∷ rest)) (b ∷ rest)) (drop (prefix_len is_digit (b ∷ rest)) (b ∷ rest)))
    (λ f. cond_both (is_blank b) _ _ IsGood (λ g. cond_both (is_nil rest) (Some Gap) None IsGood (λ h. tt) (λ h. tt))
    (λ g. cond_both (b == 47) (slashed rest) (looked_up marks (b ∷ rest)) IsGood (λ h. good_slashed rest) (λ h. good_found marks (b ∷ rest) good_marks))))

good_piece : (bytes : List ℕ) (p : Piece) → piece_of bytes ≡ Some p → IsGoodPiece p
good_piece bytes p is = subst IsGood is (good_front bytes)

abbrev pub AreGoodPieces : List Placed → Type 0
AreGoodPieces [] = Unit {0}
AreGoodPieces (x ∷ rest) = IsGoodPiece x.piece × AreGoodPieces rest

pub good_pieces : (place : ℕ) (bytes : List ℕ) (pieces : List Placed) → Scans place bytes pieces → AreGoodPieces pieces
good_pieces place bytes pieces ended = tt
good_pieces place bytes pieces (gap n longest rest) = good_pieces (place + n) (drop n bytes) pieces rest
good_pieces place bytes pieces (piece {pieces = others} n p no_gap longest rest) = (good_piece (take n bytes) p longest.is, good_pieces (place + n) (drop n bytes) others rest)
good_pieces place bytes pieces (unreadable none) = (tt, tt)
