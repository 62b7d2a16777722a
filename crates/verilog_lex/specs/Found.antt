-- What is found at the front of a text.
use Rattle.std.proofs.Common.{suc}
use Rattle.std.specs.Char.{digit_value}
use Rattle.std.specs.Prelude.{ℕ, ◌+◌, ◌*◌, ◌==◌, ◌&&◌, List, [], ◌∷◌, if◌then◌else◌}
use Rattle.verilog_text.specs.Lexer.{Piece, Gap, Fixed, OutsidePiece, UnreadablePiece, IsLongest}
use Rattle.verilog_lex.specs.declared.found.Found.{Found}
use Rattle.verilog_lex.specs.declared.found.Found.TheVariants as found
use Rattle.verilog_lex.specs.declared.found.Symbol.{Symbol}
use Rattle.verilog_lex.specs.declared.found.Symbol.TheVariants as symbol

abbrev pub symbol_view : Symbol → Piece
symbol_view (symbol.Read t) = Fixed t
symbol_view symbol.Outside = OutsidePiece
symbol_view symbol.Unreadable = UnreadablePiece

abbrev pub found_view : Found → Piece
found_view found.Gap = Gap
found_view (found.Piece s) = symbol_view s

-- the longest piece at the front was found
abbrev pub IsFound : List ℕ → ℕ → Found → Type 0
IsFound bytes n f = IsLongest bytes n (found_view f)

-- how many bytes of a comment's body there are, through the first `*/`, or all
abbrev pub body_len : List ℕ → ℕ
body_len [] = 0
body_len (a ∷ []) = 1
body_len (a ∷ b ∷ rest) = if (a == 42) && (b == 47) then 2 else suc (body_len (b ∷ rest))

-- a value with a digit of a base more
abbrev pub value_with : ℕ → ℕ → ℕ → ℕ
value_with base value b = if b == 95 then value else value * base + digit_value b
