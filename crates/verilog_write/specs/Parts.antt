-- Ports in a row.
use Rattle.std.specs.Prelude.{ℕ, List, [], ◌∷◌, ◌++◌}
use Rattle.verilog_tree.specs.declared.tree.Signal.{Signal}
use Rattle.verilog_text.specs.declared.token.Mark.{Mark}
use Rattle.verilog_text.specs.declared.token.Mark.TheVariants.{Comma, At, Open, Close}
use Rattle.verilog_text.specs.declared.token.Word.TheVariants.{Always, Posedge}
use Rattle.verilog_text.specs.declared.token.Token.{Token}
use Rattle.verilog_text.specs.declared.token.Token.TheVariants.{Name, Keyword, Punctuation}
use Rattle.verilog_text.specs.Text.{fresh_text}
use Rattle.verilog_text.specs.Shortest.{fresh_of}

-- the first behind this mark, and each other one behind a comma
abbrev pub port_list : Mark → List Signal → List Token
port_list m [] = []
port_list m (s ∷ ss) = Punctuation m ∷ (fresh_text (fresh_of s) [] ++ port_list Comma ss)

-- what stands before the statement of an always block
abbrev pub event_text : ℕ → List Token
event_text clock = Keyword Always ∷ Punctuation At ∷ Punctuation Open ∷ Keyword Posedge ∷ Name clock ∷ Punctuation Close ∷ []
