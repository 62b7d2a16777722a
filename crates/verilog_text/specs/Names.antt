-- The different names of a text, in the order of their first appearance.
use Rattle.std.specs.Prelude.{ℕ, List, [], ◌∷◌, map, if◌then◌else◌}
use Rattle.std.specs.Str.{bytes_eq}
use Rattle.verilog_tree.specs.Renaming.{number_in}
use Rattle.verilog_text.specs.declared.token.Token.{Token}
use Rattle.verilog_text.specs.declared.token.Token.TheVariants as token
use Rattle.verilog_text.specs.Lexer.{Piece, Gap, NameText, Fixed, OutsidePiece, UnreadablePiece, Placed}

-- the names with this one, at their end where it is new
abbrev pub with_name : List (List ℕ) → List ℕ → List (List ℕ)
with_name [] text = text ∷ []
with_name (name ∷ names) text = if bytes_eq name text then name ∷ names else name ∷ with_name names text

abbrev pub with_piece : List (List ℕ) → Piece → List (List ℕ)
with_piece names Gap = names
with_piece names (NameText text) = with_name names text
with_piece names (Fixed t) = names
with_piece names OutsidePiece = names
with_piece names UnreadablePiece = names

-- the different names of the pieces, behind those that came before
abbrev pub names_behind : List (List ℕ) → List Placed → List (List ℕ)
names_behind names [] = names
names_behind names (x ∷ rest) = names_behind (with_piece names x.piece) rest

-- what stands at a place of the text: a token, an outside word or mark, or what is none of these
pub data Lexeme : Type 0 where
  Inside : Token → Lexeme
  Outside : Lexeme
  Unreadable : Lexeme

-- a piece with its name's number
abbrev pub lexeme_in : List (List ℕ) → Piece → Lexeme
lexeme_in names Gap = Unreadable
lexeme_in names (NameText text) = Inside (token.Name (number_in names text))
lexeme_in names (Fixed t) = Inside t
lexeme_in names OutsidePiece = Outside
lexeme_in names UnreadablePiece = Unreadable

-- the lexemes of a text, their names as numbers into the text's names
abbrev pub lexemes_of : List Placed → List Lexeme
lexemes_of pieces = map (λ x. lexeme_in (names_behind [] pieces) x.piece) pieces
