-- What has been read of a text, its bytes up to a place.
use Rattle.std.specs.Prelude.{◌≡◌, ℕ, ◌<◌, List, [], ◌∷◌, ◌++◌, map, length, drop}
use Rattle.verilog_tree.specs.Renaming.{number_in}
use Rattle.verilog_text.specs.Lexer.{Piece, Gap, NameText, Fixed, OutsidePiece, UnreadablePiece, Placed, Scans}
use Rattle.verilog_text.specs.Names as names
use Rattle.verilog_text.specs.Names.{names_behind, lexeme_in}
use Rattle.verilog_lex.specs.declared.lexeme.PlacedLexeme.{PlacedLexeme}
use Rattle.verilog_lex.specs.Known.{lexeme_view}

-- what stands at a place
pub record Standing : Type 0 where
  pub place : ℕ
  pub lexeme : names.Lexeme

abbrev pub standing_view : PlacedLexeme → Standing
standing_view x = record { place = x.place; lexeme = lexeme_view x.lexeme }

-- a piece at its place, its name as a number
abbrev pub standing_in : List (List ℕ) → Placed → Standing
standing_in names x = record { place = x.place; lexeme = lexeme_in names x.piece }

-- the name of a piece is among these
abbrev pub IsFoundName : List (List ℕ) → Piece → Type 0
IsFoundName names Gap = Unit {0}
IsFoundName names (NameText text) = number_in names text < length names
IsFoundName names (Fixed t) = Unit {0}
IsFoundName names OutsidePiece = Unit {0}
IsFoundName names UnreadablePiece = Unit {0}

abbrev pub AllFound : List (List ℕ) → List Placed → Type 0
AllFound names [] = Unit {0}
AllFound names (x ∷ rest) = IsFoundName names x.piece × AllFound names rest

-- these names and what stands at the places are those of the pieces
pub record HasRead (names : List (List ℕ)) (items : List PlacedLexeme) (pieces : List Placed) : Type 0 where
  pub names_are : names ≡ names_behind [] pieces
  pub items_are : map standing_view items ≡ map (standing_in names) pieces
  pub found : AllFound names pieces

-- the bytes up to a place have been read: with the pieces from there on they are the text's
pub record IsReadTo (bytes : List ℕ) (at : ℕ) (names : List (List ℕ)) (items : List PlacedLexeme) : Type 0 where
  pub pieces : List Placed
  pub has_read : HasRead names items pieces
  pub go_on : (rest : List Placed) → Scans at (drop at bytes) rest → Scans 0 bytes (pieces ++ rest)

-- the names of the bytes, and what stands at each place
pub record IsLexed (bytes : List ℕ) (names : List (List ℕ)) (items : List PlacedLexeme) : Type 0 where
  pub pieces : List Placed
  pub scans : Scans 0 bytes pieces
  pub names_are : names ≡ names_behind [] pieces
  pub items_are : map standing_view items ≡ map (standing_in names) pieces
