-- The pieces of a text: at each place the longest one is taken (after IEEE 1364-2001, clause 2 and annex B).
use Rattle.std.specs.Prelude.{◌≡◌, ℕ, ◌+◌, ◌*◌, ◌<◌, ◌≤◌, ◌^◌, ◌==◌, ◌&&◌, ◌||◌, not, Bool, true, false, List, [], ◌∷◌, ◌++◌, map, length, take, drop, Option, Some, None, nat_lt, nat_le, if◌then◌else◌, codes}
use Rattle.std.specs.List.{list_all, list_any, prefix_len}
use Rattle.std.specs.Str.{bytes_eq}
use Rattle.std.specs.Char.{digit_value}
use Rattle.verilog_text.specs.declared.token.Token.{Token}
use Rattle.verilog_text.specs.declared.token.Token.TheVariants as token
use Rattle.verilog_text.specs.Spelling.{word_text, all_words, mark_text, all_marks, op_text, all_ops, shift_text, all_shifts}

-- what a piece of the text is: a separator, a name, another token, an outside word or mark, or what is none of these
pub data Piece : Type 0 where
  Gap : Piece
  NameText : (text : List ℕ) → Piece
  Fixed : Token → Piece
  OutsidePiece : Piece
  UnreadablePiece : Piece

abbrev pub is_letter : ℕ → Bool
is_letter b = (nat_le 97 b && nat_le b 122) || ((nat_le 65 b && nat_le b 90) || (b == 95))

abbrev pub is_digit : ℕ → Bool
is_digit b = nat_le 48 b && nat_le b 57

abbrev pub is_name_byte : ℕ → Bool
is_name_byte b = is_letter b || (is_digit b || (b == 36))

abbrev pub is_blank : ℕ → Bool
is_blank b = (b == 32) || ((b == 9) || ((b == 13) || (b == 10)))

abbrev pub is_nil : List ℕ → Bool
is_nil [] = true
is_nil (x ∷ xs) = false

-- a text that stands for one piece
pub record Entry : Type 0 where
  pub text : List ℕ
  pub piece : Piece

-- what the table has for these bytes
abbrev pub looked_up : List Entry → List ℕ → Option Piece
looked_up [] bytes = None
looked_up (x ∷ rest) bytes = if bytes_eq x.text bytes then Some x.piece else looked_up rest bytes

abbrev pub outside : List ℕ → Entry
outside text = record { text = text; piece = OutsidePiece }

-- the words of Verilog that the subset leaves out
abbrev pub outside_words : List (List ℕ)
outside_words =
    codes "parameter" ∷ codes "localparam" ∷ codes "defparam" ∷ codes "generate" ∷ codes "endgenerate" ∷ codes "genvar" ∷
    codes "function" ∷ codes "endfunction" ∷ codes "task" ∷ codes "endtask" ∷ codes "case" ∷ codes "casex" ∷
    codes "casez" ∷ codes "endcase" ∷ codes "default" ∷ codes "for" ∷ codes "while" ∷ codes "repeat" ∷
    codes "forever" ∷ codes "initial" ∷ codes "integer" ∷ codes "real" ∷ codes "realtime" ∷ codes "time" ∷
    codes "inout" ∷ codes "negedge" ∷ codes "or" ∷ codes "and" ∷ codes "nand" ∷ codes "nor" ∷
    codes "xor" ∷ codes "xnor" ∷ codes "not" ∷ codes "buf" ∷ codes "tri" ∷ codes "wand" ∷
    codes "wor" ∷ codes "supply0" ∷ codes "supply1" ∷ codes "specify" ∷ codes "endspecify" ∷ codes "primitive" ∷
    codes "endprimitive" ∷ codes "fork" ∷ codes "join" ∷ codes "wait" ∷ codes "disable" ∷ codes "event" ∷
    codes "deassign" ∷ codes "force" ∷ codes "release" ∷ codes "automatic" ∷ codes "bufif0" ∷ codes "bufif1" ∷
    codes "cell" ∷ codes "cmos" ∷ codes "config" ∷ codes "design" ∷ codes "edge" ∷ codes "endconfig" ∷
    codes "endtable" ∷ codes "highz0" ∷ codes "highz1" ∷ codes "ifnone" ∷ codes "incdir" ∷ codes "include" ∷
    codes "instance" ∷ codes "large" ∷ codes "liblist" ∷ codes "library" ∷ codes "macromodule" ∷ codes "medium" ∷
    codes "nmos" ∷ codes "noshowcancelled" ∷ codes "notif0" ∷ codes "notif1" ∷ codes "pmos" ∷ codes "pull0" ∷
    codes "pull1" ∷ codes "pulldown" ∷ codes "pullup" ∷ codes "pulsestyle_ondetect" ∷ codes "pulsestyle_onevent" ∷ codes "rcmos" ∷
    codes "rnmos" ∷ codes "rpmos" ∷ codes "rtran" ∷ codes "rtranif0" ∷ codes "rtranif1" ∷ codes "scalared" ∷
    codes "showcancelled" ∷ codes "small" ∷ codes "specparam" ∷ codes "strong0" ∷ codes "strong1" ∷ codes "table" ∷
    codes "tran" ∷ codes "tranif0" ∷ codes "tranif1" ∷ codes "tri0" ∷ codes "tri1" ∷ codes "triand" ∷
    codes "trior" ∷ codes "trireg" ∷ codes "unsigned" ∷ codes "use" ∷ codes "vectored" ∷ codes "weak0" ∷
    codes "weak1" ∷ []

-- and its marks; `/` stands with the comments
abbrev pub outside_marks : List (List ℕ)
outside_marks = codes "*" ∷ codes "**" ∷ codes "%" ∷ codes "&&" ∷ codes "||" ∷ codes "!" ∷ codes "===" ∷ codes "!==" ∷ codes "~&" ∷ codes "~|" ∷ codes "~^" ∷ codes "^~" ∷ codes "#" ∷ codes "." ∷ codes "+:" ∷ codes "-:" ∷ codes "$" ∷ codes "`" ∷ (34 ∷ []) ∷ []

unfoldable pub words : List Entry
words = map (λ w. record { text = word_text w; piece = Fixed (token.Keyword w) }) all_words ++ map outside outside_words

unfoldable pub marks : List Entry
marks = map (λ m. record { text = mark_text m; piece = Fixed (token.Punctuation m) }) all_marks
    ++ map (λ o. record { text = op_text o; piece = Fixed (token.Operator o) }) all_ops
    ++ map (λ s. record { text = shift_text s; piece = Fixed (token.Shift s) }) all_shifts
    ++ map outside outside_marks

-- a word of the tables, or else a name
abbrev pub name_unless : Option Piece → List ℕ → Piece
name_unless (Some p) text = p
name_unless None text = NameText text

abbrev pub word_piece : List ℕ → Piece
word_piece text = name_unless (looked_up words text) text

-- the value of digits of a base behind those that came before; a `_` counts for nothing
abbrev pub value_behind : ℕ → ℕ → List ℕ → ℕ
value_behind base value [] = value
value_behind base value (b ∷ rest) = if b == 95 then value_behind base value rest else value_behind base (value * base + digit_value b) rest

abbrev pub is_one : List ℕ → Bool
is_one [] = false
is_one (b ∷ rest) = is_nil rest

-- a number without a size is below 2^31
abbrev pub decimal_piece : List ℕ → Piece
decimal_piece digits = let value = value_behind 10 0 digits in if nat_lt value (2 ^ 31) then Fixed (token.Number (record { value = value; is_single = is_one digits })) else UnreadablePiece

abbrev pub base_of : ℕ → Option ℕ
base_of b =
    if (b == 104) || (b == 72) then Some 16 else
    if (b == 100) || (b == 68) then Some 10 else
    if (b == 98) || (b == 66) then Some 2 else None

-- a digit of no known value
abbrev pub is_unknown : ℕ → Bool
is_unknown b = ((b == 120) || (b == 88)) || (((b == 122) || (b == 90)) || (b == 63))

abbrev pub is_digit_in : ℕ → ℕ → Bool
is_digit_in base b = nat_lt (digit_value b) base || is_unknown b

abbrev pub is_more_in : ℕ → ℕ → Bool
is_more_in base b = is_digit_in base b || (b == 95)

abbrev pub pattern_piece : ℕ → Bool → ℕ → Piece
pattern_piece size signed value = if nat_lt value (2 ^ size) then Fixed (token.Based (record { width = size; signed = signed; bits = value })) else UnreadablePiece

-- a size is 1 to 128, and the value fits it
abbrev pub literal_piece : ℕ → Bool → ℕ → List ℕ → Piece
literal_piece size signed base digits =
    if nat_le 1 size && nat_le size 128 then (if list_any is_unknown digits then OutsidePiece else pattern_piece size signed (value_behind base 0 digits)) else UnreadablePiece

-- the digits of a literal with a size
abbrev pub digits_piece : ℕ → Bool → Option ℕ → List ℕ → Option Piece
digits_piece size signed None bytes = None
digits_piece size signed (Some base) [] = None
digits_piece size signed (Some base) (b ∷ rest) = if is_digit_in base b && list_all (is_more_in base) rest then Some (literal_piece size signed base (b ∷ rest)) else None

abbrev pub based_piece : ℕ → Bool → List ℕ → Option Piece
based_piece size signed [] = None
based_piece size signed (b ∷ rest) = digits_piece size signed (base_of b) rest

-- what stands behind the `'`
abbrev pub sized_piece : ℕ → List ℕ → Option Piece
sized_piece size [] = None
sized_piece size (b ∷ rest) = if (b == 115) || (b == 83) then based_piece size true rest else based_piece size false (b ∷ rest)

-- what stands behind the first decimal digits
abbrev pub behind_digits : List ℕ → List ℕ → Option Piece
behind_digits digits [] = Some (decimal_piece digits)
behind_digits digits (b ∷ rest) = if b == 39 then sized_piece (value_behind 10 0 digits) rest else None

abbrev pub numeral_piece : List ℕ → Option Piece
numeral_piece bytes = let n = prefix_len is_digit bytes in behind_digits (take n bytes) (drop n bytes)

-- the body of a comment up to `*/` at its end, the first one
abbrev pub is_ended : List ℕ → Bool
is_ended [] = false
is_ended (a ∷ []) = false
is_ended (a ∷ b ∷ rest) = if (a == 42) && (b == 47) then is_nil rest else is_ended (b ∷ rest)

-- no `*/` in it
abbrev pub is_open : List ℕ → Bool
is_open [] = true
is_open (a ∷ []) = true
is_open (a ∷ b ∷ rest) = not ((a == 42) && (b == 47)) && is_open (b ∷ rest)

-- what stands behind `/`: a comment, or a mark
abbrev pub slashed : List ℕ → Option Piece
slashed [] = Some OutsidePiece
slashed (a ∷ rest) =
    if a == 47 then (if list_all (λ b. not (b == 10)) rest then Some Gap else None) else
    if a == 42 then (if is_ended rest then Some Gap else if is_open rest then Some UnreadablePiece else None) else None

-- what these bytes are as one piece
abbrev pub piece_of : List ℕ → Option Piece
piece_of [] = None
piece_of (b ∷ rest) =
    if is_letter b then (if list_all is_name_byte rest then Some (word_piece (b ∷ rest)) else None) else
    if is_digit b then numeral_piece (b ∷ rest) else
    if is_blank b then (if is_nil rest then Some Gap else None) else
    if b == 47 then slashed rest else looked_up marks (b ∷ rest)

-- the first n bytes are the piece, and no longer front is one
pub record IsLongest (bytes : List ℕ) (n : ℕ) (piece : Piece) : Type 0 where
  pub some : 0 < n
  pub within : n ≤ length bytes
  pub is : piece_of (take n bytes) ≡ Some piece
  pub longest : (m : ℕ) → n < m → m ≤ length bytes → piece_of (take m bytes) ≡ None

-- a piece of the text, and the byte at which it begins
pub record Placed : Type 0 where
  pub place : ℕ
  pub piece : Piece

-- the bytes from this place on are these pieces, without the gaps; where none begins, the bytes are unreadable from there
pub data Scans : ℕ → List ℕ → List Placed → Type 0 where
  ended : {place : ℕ} → Scans place [] []
  gap : {place : ℕ} {bytes : List ℕ} {pieces : List Placed} (n : ℕ) → IsLongest bytes n Gap → Scans (place + n) (drop n bytes) pieces → Scans place bytes pieces
  piece : {place : ℕ} {bytes : List ℕ} {pieces : List Placed} (n : ℕ) (p : Piece) → (p ≡ Gap → ⊥) → IsLongest bytes n p → Scans (place + n) (drop n bytes) pieces → Scans place bytes (record { place = place; piece = p } ∷ pieces)
  unreadable : {place b : ℕ} {bytes : List ℕ} → ((m : ℕ) → m ≤ length (b ∷ bytes) → piece_of (take m (b ∷ bytes)) ≡ None) → Scans place (b ∷ bytes) (record { place = place; piece = UnreadablePiece } ∷ [])
