-- What a text reads as.
use Rattle.std.specs.Prelude.{◌≡◌, ℕ, Bool, true, false, List, [], ◌∷◌, map}
use Rattle.verilog_tree.specs.declared.tree.Signal.{Signal}
use Rattle.verilog_tree.specs.Tree.{Design}
use Rattle.verilog_tree.specs.Renaming.{number_in}
use Rattle.verilog_text.specs.declared.token.Word.{Word}
use Rattle.verilog_text.specs.declared.token.Word.TheVariants as word
use Rattle.verilog_text.specs.declared.token.Mark.{Mark}
use Rattle.verilog_text.specs.declared.token.Mark.TheVariants as mark
use Rattle.verilog_text.specs.declared.token.Token.{Token}
use Rattle.verilog_text.specs.declared.token.Token.TheVariants as token
use Rattle.verilog_text.specs.Grammar.{limits}
use Rattle.verilog_text.specs.Text.{Text, tokens_of, clock_text, AreItems, signals_of, assigns_of, blocks_of}
use Rattle.verilog_text.specs.Lexer.{Piece, NameText, Fixed, Placed, Scans}
use Rattle.verilog_text.specs.Names.{names_behind, Inside, lexemes_of}

-- behind these words names are declared
abbrev pub is_declaring : Word → Bool → Bool
is_declaring word.Input declares = true
is_declaring word.Output declares = true
is_declaring word.Wire declares = true
is_declaring word.Reg declares = true
is_declaring _ declares = declares

-- up to the next semicolon
abbrev pub is_declaring_on : Mark → Bool → Bool
is_declaring_on mark.Semicolon declares = false
is_declaring_on _ declares = declares

abbrev pub declares_behind : Token → Bool → Bool
declares_behind (token.Keyword w) declares = is_declaring w declares
declares_behind (token.Punctuation m) declares = is_declaring_on m declares
declares_behind _ declares = declares

abbrev pub place_if : Bool → ℕ → List ℕ → List ℕ
place_if true place rest = place ∷ rest
place_if false place rest = rest

abbrev pub declares_after : Piece → Bool → Bool
declares_after (Fixed t) declares = declares_behind t declares
declares_after _ declares = declares

-- the place of a declared name, and then the others
abbrev pub place_of : Bool → ℕ → Piece → List ℕ → List ℕ
place_of declares place (NameText text) others = place_if declares place others
place_of declares place _ others = others

-- the places of the names that are declared: those behind `input`, `output`, `wire` or `reg`, up to the next semicolon
abbrev pub declared_places : Bool → List Placed → List ℕ
declared_places declares [] = []
declared_places declares (x ∷ rest) = place_of declares x.place x.piece (declared_places (declares_after x.piece declares) rest)

-- declarations with their places
abbrev pub with_places : List ℕ → List Signal → List Signal
with_places [] signals = signals
with_places (p ∷ places) [] = []
with_places (p ∷ places) (s ∷ signals) = record s { place = p } ∷ with_places places signals

-- the module that a text of these names and places stands for
abbrev pub design_of : List (List ℕ) → List ℕ → Text → Design
design_of names places t = record {
  name = t.name;
  names = names;
  signals = with_places places (signals_of t);
  assigns = assigns_of t.items;
  blocks = blocks_of t.items;
}

-- the bytes are a text of the grammar, and this is its module: its names are the different names of the text in the order of their first appearance,
-- its signals stand in the order of their declarations, each with the byte at which its name begins there
pub record Reads (bytes : List ℕ) (design : Design) : Type 0 where
  pub pieces : List Placed
  pub scans : Scans 0 bytes pieces
  pub text : Text
  pub in_limits : AreItems limits text.items
  pub tokens_are : lexemes_of pieces ≡ map Inside (tokens_of (number_in (names_behind [] pieces) clock_text) text)
  pub design_is : design ≡ design_of (names_behind [] pieces) (declared_places false pieces) text
