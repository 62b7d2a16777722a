-- What a piece can be: no name is a token of the tables, and a number without a size is below 2^31.
use Rattle.std.proofs.Common.{◌≡◌, ℕ, ◌+◌, Bool, true, false, List, [], ◌∷◌, take, drop, Option, Some, None, refl, sym, ap, ◌∙◌}
use Rattle.std.specs.Prelude.{◌==◌, ◌&&◌, ◌||◌, ◌^◌, nat_lt, nat_le, not}
use Rattle.std.specs.List.{list_all, list_any, prefix_len}
use Rattle.std.specs.Str.{bytes_eq}
use Rattle.std.proofs.lemmas.Bool.{cond_both, and_parts}
use Rattle.verilog_text.specs.declared.token.Token.TheVariants as token
use Rattle.verilog_text.specs.Lexer.{Piece, Gap, NameText, Fixed, OutsidePiece, UnreadablePiece, Entry, looked_up, words, marks, name_unless, word_piece, is_letter, is_digit, is_blank, is_name_byte, is_nil, is_one, is_unknown, is_digit_in, is_more_in, value_behind, base_of, decimal_piece, pattern_piece, literal_piece, digits_piece, based_piece, sized_piece, behind_digits, numeral_piece, is_ended, is_open, slashed, piece_of, IsLongest, Placed, Scans, ended, gap, piece, unreadable}

abbrev pub is_solid : Piece → Bool
is_solid Gap = false
is_solid (NameText text) = true
is_solid (Fixed (token.Name n)) = false
is_solid (Fixed (token.Number d)) = nat_lt d.value (2 ^ 31)
is_solid (Fixed (token.Based l)) = true
is_solid (Fixed (token.Keyword w)) = true
is_solid (Fixed (token.Operator o)) = true
is_solid (Fixed (token.Shift s)) = true
is_solid (Fixed (token.Punctuation m)) = true
is_solid OutsidePiece = true
is_solid UnreadablePiece = true

abbrev solid_option : Option Piece → Bool
solid_option None = true
solid_option (Some p) = is_solid p

-- a separator, or a solid piece
abbrev fine_piece : Piece → Bool
fine_piece Gap = true
fine_piece (NameText text) = is_solid (NameText text)
fine_piece (Fixed t) = is_solid (Fixed t)
fine_piece OutsidePiece = true
fine_piece UnreadablePiece = true

abbrev fine : Option Piece → Bool
fine None = true
fine (Some p) = fine_piece p

solid_is_fine : (p : Piece) → is_solid p ≡ true → fine (Some p) ≡ true
solid_is_fine Gap e = refl
solid_is_fine (NameText text) e = e
solid_is_fine (Fixed t) e = e
solid_is_fine OutsidePiece e = refl
solid_is_fine UnreadablePiece e = refl

fine_is_solid : (p : Piece) → fine (Some p) ≡ true → (p ≡ Gap → ⊥) → is_solid p ≡ true
fine_is_solid Gap e h = absurd (h refl)
fine_is_solid (NameText text) e h = e
fine_is_solid (Fixed t) e h = e
fine_is_solid OutsidePiece e h = refl
fine_is_solid UnreadablePiece e h = refl

solid_fine : (o : Option Piece) → solid_option o ≡ true → fine o ≡ true
solid_fine None e = refl
solid_fine (Some p) e = solid_is_fine p e

table_solid : (table : List Entry) (bytes : List ℕ) → list_all (λ x. is_solid x.piece) table ≡ true → solid_option (looked_up table bytes) ≡ true
table_solid [] bytes all = refl
table_solid (x ∷ table) bytes all =
    let parts = and_parts _ _ all in
    cond_both (bytes_eq x.text bytes) (Some x.piece) (looked_up table bytes) (λ o. solid_option o ≡ true) (λ e. parts.0) (λ e. table_solid table bytes parts.1)

words_solid : (text : List ℕ) → solid_option (looked_up words text) ≡ true
unfolding words
words_solid text = table_solid words text refl

marks_solid : (bytes : List ℕ) → solid_option (looked_up marks bytes) ≡ true
unfolding marks
marks_solid bytes = table_solid marks bytes refl

unless_solid : (o : Option Piece) (text : List ℕ) → solid_option o ≡ true → is_solid (name_unless o text) ≡ true
unless_solid None text e = refl
unless_solid (Some p) text e = e

pub word_solid : (text : List ℕ) → is_solid (word_piece text) ≡ true
word_solid text = unless_solid (looked_up words text) text (words_solid text)

gap_not_solid : (p : Piece) → is_solid p ≡ true → p ≡ Gap → ⊥
gap_not_solid p e f = let g : is_solid p ≡ false = ap is_solid f in let h : true ≡ false = sym e ∙ g in cc

pub word_no_gap : (text : List ℕ) → word_piece text ≡ Gap → ⊥
word_no_gap text f = gap_not_solid (word_piece text) (word_solid text) f

-- numbers
decimal_fine : (digits : List ℕ) → fine_piece (decimal_piece digits) ≡ true
decimal_fine digits =
    let value : ℕ = value_behind 10 0 digits in
    cond_both (nat_lt value (2 ^ 31)) (Fixed (token.Number (record { value = value; is_single = is_one digits }))) UnreadablePiece (λ p. fine_piece p ≡ true) (λ e. e) (λ e. refl)

pattern_fine : (size : ℕ) (signed : Bool) (value : ℕ) → fine_piece (pattern_piece size signed value) ≡ true
pattern_fine size signed value = cond_both (nat_lt value (2 ^ size)) (Fixed (token.Based (record { width = size; signed = signed; bits = value }))) UnreadablePiece (λ p. fine_piece p ≡ true) (λ e. refl) (λ e. refl)

literal_fine : (size : ℕ) (signed : Bool) (base : ℕ) (digits : List ℕ) → fine_piece (literal_piece size signed base digits) ≡ true
literal_fine size signed base digits =
    let known : Piece = pattern_piece size signed (value_behind base 0 digits) in
    cond_both (nat_le 1 size && nat_le size 128) _ UnreadablePiece (λ p. fine_piece p ≡ true)
    (λ e. cond_both (list_any is_unknown digits) OutsidePiece known (λ p. fine_piece p ≡ true) (λ f. refl) (λ f. pattern_fine size signed (value_behind base 0 digits)))
    (λ e. refl)

digits_fine : (size : ℕ) (signed : Bool) (base : Option ℕ) (bytes : List ℕ) → fine (digits_piece size signed base bytes) ≡ true
digits_fine size signed None bytes = refl
digits_fine size signed (Some base) [] = refl
digits_fine size signed (Some base) (b ∷ rest) = cond_both (is_digit_in base b && list_all (is_more_in base) rest) (Some (literal_piece size signed base (b ∷ rest))) None (λ o. fine o ≡ true) (λ e. literal_fine size signed base (b ∷ rest)) (λ e. refl)

based_fine : (size : ℕ) (signed : Bool) (bytes : List ℕ) → fine (based_piece size signed bytes) ≡ true
based_fine size signed [] = refl
based_fine size signed (b ∷ rest) = digits_fine size signed (base_of b) rest

sized_fine : (size : ℕ) (bytes : List ℕ) → fine (sized_piece size bytes) ≡ true
sized_fine size [] = refl
sized_fine size (b ∷ rest) = cond_both ((b == 115) || (b == 83)) (based_piece size true rest) (based_piece size false (b ∷ rest)) (λ o. fine o ≡ true) (λ e. based_fine size true rest) (λ e. based_fine size false (b ∷ rest))

behind_fine : (digits bytes : List ℕ) → fine (behind_digits digits bytes) ≡ true
behind_fine digits [] = decimal_fine digits
behind_fine digits (b ∷ rest) = cond_both (b == 39) (sized_piece (value_behind 10 0 digits) rest) None (λ o. fine o ≡ true) (λ e. sized_fine (value_behind 10 0 digits) rest) (λ e. refl)

numeral_fine : (bytes : List ℕ) → fine (numeral_piece bytes) ≡ true
numeral_fine bytes = behind_fine (take (prefix_len is_digit bytes) bytes) (drop (prefix_len is_digit bytes) bytes)

-- comments
slashed_fine : (bytes : List ℕ) → fine (slashed bytes) ≡ true
slashed_fine [] = refl
slashed_fine (a ∷ rest) =
    cond_both (a == 47) _ _ (λ o. fine o ≡ true)
    (λ e. cond_both (list_all (λ b. not (b == 10)) rest) (Some Gap) None (λ o. fine o ≡ true) (λ f. refl) (λ f. refl))
    (λ e. cond_both (a == 42) _ None (λ o. fine o ≡ true)
    (λ f. cond_both (is_ended rest) (Some Gap) _ (λ o. fine o ≡ true) (λ g. refl) (λ g. cond_both (is_open rest) (Some UnreadablePiece) None (λ o. fine o ≡ true) (λ h. refl) (λ h. refl)))
    (λ f. refl))

piece_fine : (bytes : List ℕ) → fine (piece_of bytes) ≡ true
piece_fine [] = refl
piece_fine (b ∷ rest) =
    cond_both (is_letter b) _ _ (λ o. fine o ≡ true)
    (λ e. cond_both (list_all is_name_byte rest) (Some (word_piece (b ∷ rest))) None (λ o. fine o ≡ true) (λ f. solid_is_fine (word_piece (b ∷ rest)) (word_solid (b ∷ rest))) (λ f. refl))
    (λ e. cond_both (is_digit b) (numeral_piece (b ∷ rest)) _ (λ o. fine o ≡ true) (λ f. numeral_fine (b ∷ rest))
    (λ f. cond_both (is_blank b) _ _ (λ o. fine o ≡ true)
    (λ g. cond_both (is_nil rest) (Some Gap) None (λ o. fine o ≡ true) (λ h. refl) (λ h. refl))
    (λ g. cond_both (b == 47) (slashed rest) (looked_up marks (b ∷ rest)) (λ o. fine o ≡ true) (λ h. slashed_fine rest) (λ h. solid_fine (looked_up marks (b ∷ rest)) (marks_solid (b ∷ rest))))))

-- each piece of a text is solid
abbrev pub AllSolid : List Placed → Type 0
AllSolid [] = Unit {0}
AllSolid (x ∷ rest) = (is_solid x.piece ≡ true) × AllSolid rest

longest_solid : (bytes : List ℕ) (n : ℕ) (p : Piece) → (p ≡ Gap → ⊥) → IsLongest bytes n p → is_solid p ≡ true
longest_solid bytes n p no_gap longest = fine_is_solid p (ap fine (sym longest.is) ∙ piece_fine (take n bytes)) no_gap

pub scans_solid : (place : ℕ) (bytes : List ℕ) (pieces : List Placed) → Scans place bytes pieces → AllSolid pieces
scans_solid place bytes pieces ended = tt
scans_solid place bytes pieces (gap n a r) = scans_solid (place + n) (drop n bytes) pieces r
scans_solid place bytes pieces (piece {pieces = us} n p no_gap a r) = (longest_solid bytes n p no_gap a, scans_solid (place + n) (drop n bytes) us r)
scans_solid place bytes pieces (unreadable none) = (refl, tt)
