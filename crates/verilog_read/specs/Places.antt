-- The places of declared names, by what stands in the text.
use Rattle.std.specs.Prelude.{ℕ, Bool, true, false, List, [], ◌∷◌, ◌++◌, slice_get}
use Rattle.std.specs.Option.{option_map_or}
use Rattle.verilog_tree.specs.declared.tree.Signal.{Signal}
use Rattle.verilog_tree.specs.Tree.{Design}
use Rattle.verilog_text.specs.declared.token.Token.TheVariants as token
use Rattle.verilog_text.specs.Names.{Lexeme, Inside, Outside, Unreadable}
use Rattle.verilog_text.specs.Reading.{declares_behind, with_places}
use Rattle.verilog_text.specs.TextMachine.{Draft}
use Rattle.verilog_lex.specs.Lexed.{Standing}

abbrev pub is_name : Lexeme → Bool
is_name (Inside (token.Name n)) = true
is_name (Inside _) = false
is_name Outside = false
is_name Unreadable = false

-- the place of a name, where names are declared
abbrev pub place_in : Bool → Bool → ℕ → List ℕ
place_in false declares place = []
place_in true false place = []
place_in true true place = place ∷ []

abbrev pub declares_past : Lexeme → Bool → Bool
declares_past (Inside t) declares = declares_behind t declares
declares_past Outside declares = declares
declares_past Unreadable declares = declares

-- the places of the names behind `input`, `output`, `wire` or `reg`, up to the next semicolon
abbrev pub declared_in : Bool → List Standing → List ℕ
declared_in declares [] = []
declared_in declares (x ∷ rest) = place_in (is_name x.lexeme) declares x.place ++ declared_in (declares_past x.lexeme declares) rest

-- a declaration at the place of its number, if there is one
abbrev pub signal_at : List ℕ → ℕ → Signal → Signal
signal_at places k s = option_map_or (λ p. record s { place = p }) (slice_get places k) s

-- the module of what the machine has read
abbrev pub design_from : List (List ℕ) → List ℕ → Draft → Design
design_from names places d = record { name = d.name; names = names; signals = with_places places d.signals; assigns = d.assigns; blocks = d.blocks }
