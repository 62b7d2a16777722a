-- The bytes that tokens are written with.
use Rattle.std.specs.Prelude.{◌≡◌, ℕ, ◌+◌, ◌<◌, ◌≤◌, ◌^◌, ◌&&◌, ◌||◌, not, Bool, true, false, List, [], ◌∷◌, ◌++◌, length, None, nat_lt, codes, if◌then◌else◌}
use Rattle.std.specs.List.{list_all}
use Rattle.std.specs.Fmt.{decimal, digits}
use Rattle.verilog_tree.specs.Renaming.{name_in}
use Rattle.verilog_text.specs.declared.token.Word.TheVariants as word
use Rattle.verilog_text.specs.declared.token.Mark.TheVariants as mark
use Rattle.verilog_text.specs.declared.token.Decimal.{Decimal}
use Rattle.verilog_text.specs.declared.token.Token.{Token}
use Rattle.verilog_text.specs.declared.token.Token.TheVariants as token
use Rattle.verilog_text.specs.Spelling.{word_text, mark_text, op_text, shift_text}
use Rattle.verilog_text.specs.Lexer.{Piece, NameText, Fixed, Placed, is_letter, is_name_byte, looked_up, words}

-- a number as the writer writes it
abbrev pub plain : ℕ → Decimal
plain value = record { value = value; is_single = nat_lt value 10 }

-- `sh` or `h`, and then the digits
abbrev pub base_text : Bool → List ℕ → List ℕ
base_text true rest = 115 ∷ 104 ∷ rest
base_text false rest = 104 ∷ rest

-- what a token is written as
abbrev pub token_text : List (List ℕ) → Token → List ℕ
token_text names (token.Name n) = name_in names n
token_text names (token.Number d) = decimal d.value
token_text names (token.Based l) = decimal l.width ++ (39 ∷ base_text l.signed (digits 16 false l.bits))
token_text names (token.Keyword w) = word_text w
token_text names (token.Operator o) = op_text o
token_text names (token.Shift s) = shift_text s
token_text names (token.Punctuation m) = mark_text m

abbrev pub piece_for : List (List ℕ) → Token → Piece
piece_for names (token.Name n) = NameText (name_in names n)
piece_for names t = Fixed t

-- the bytes are a name
abbrev pub IsName : List ℕ → Type 0
IsName [] = ⊥
IsName (b ∷ rest) = (is_letter b ≡ true) × (list_all is_name_byte rest ≡ true) × (looked_up words (b ∷ rest) ≡ None)

abbrev pub IsSpelled : List (List ℕ) → Token → Type 0
IsSpelled names (token.Name n) = IsName (name_in names n)
IsSpelled names (token.Number d) = (d.value < 2 ^ 31) × (d.is_single ≡ nat_lt d.value 10)
IsSpelled names (token.Based l) = (1 ≤ l.width) × (l.width ≤ 128) × (l.bits < 2 ^ l.width)
IsSpelled names _ = Unit {0}

abbrev pub AreSpelled : List (List ℕ) → List Token → Type 0
AreSpelled names [] = Unit {0}
AreSpelled names (t ∷ rest) = IsSpelled names t × AreSpelled names rest

-- the marks behind which nothing need stand, and those before which nothing need stand
abbrev pub is_opening : Token → Bool
is_opening (token.Punctuation mark.Open) = true
is_opening (token.Punctuation mark.OpenBracket) = true
is_opening _ = false

abbrev pub is_closing : Token → Bool
is_closing (token.Punctuation mark.Close) = true
is_closing (token.Punctuation mark.CloseBracket) = true
is_closing (token.Punctuation mark.Comma) = true
is_closing (token.Punctuation mark.Semicolon) = true
is_closing _ = false

abbrev pub is_ending : Token → Bool
is_ending (token.Punctuation mark.Semicolon) = true
is_ending _ = false

abbrev pub is_comma : Token → Bool
is_comma (token.Punctuation mark.Comma) = true
is_comma _ = false

abbrev pub is_keyword : Token → Bool
is_keyword (token.Keyword w) = true
is_keyword _ = false

abbrev pub is_else : Token → Bool
is_else (token.Keyword word.Else) = true
is_else _ = false

abbrev pub is_item : Token → Bool
is_item (token.Keyword word.Wire) = true
is_item (token.Keyword word.Reg) = true
is_item (token.Keyword word.Assign) = true
is_item (token.Keyword word.Always) = true
is_item _ = false

abbrev pub is_last : Token → Bool
is_last (token.Keyword word.EndModule) = true
is_last _ = false

-- a line ends before an item, before a port that isn't the first, and behind a statement that no `else` follows
abbrev pub ends_line : Token → Token → Bool
ends_line t u = is_item u || ((is_comma t && is_keyword u) || (is_ending t && not (is_else u)))

-- what stands between two tokens: a line feed and an indent of two, nothing, or a space
abbrev pub between : Token → Token → List ℕ
between t u =
    if is_last u then 10 ∷ [] else
    if ends_line t u then 10 ∷ 32 ∷ 32 ∷ [] else
    if is_opening t || is_closing u then [] else 32 ∷ []

-- what stands behind a token; the last line ends too
abbrev pub behind : Token → List Token → List ℕ
behind t [] = 10 ∷ []
behind t (u ∷ rest) = between t u

abbrev pub laid_out : List (List ℕ) → List Token → List ℕ
laid_out names [] = []
laid_out names (t ∷ rest) = token_text names t ++ (behind t rest ++ laid_out names rest)

-- the tokens at their places
abbrev pub placed : List (List ℕ) → ℕ → List Token → List Placed
placed names place [] = []
placed names place (t ∷ rest) = record { place = place; piece = piece_for names t } ∷ placed names (place + length (token_text names t) + length (behind t rest)) rest

-- the lines at the top: a foreign checker is told that widths are cut on purpose, and the program is named
abbrev pub heading : List ℕ
heading = codes "/* verilator lint_off WIDTH */" ++ (10 ∷ codes "// Wadrelion" ++ (10 ∷ []))
