-- What is known of the words of a text.
use Rattle.std.specs.Prelude.{◌≡◌, ℕ, ◌<◌, List, length, Option, Some, None, bytes_eq}
use Rattle.std.specs.HashMap.{get_by}
use Rattle.verilog_tree.specs.Renaming.{number_in}
use Rattle.verilog_text.specs.declared.token.Token.TheVariants as token
use Rattle.verilog_text.specs.Lexer.{NameText, word_piece}
use Rattle.verilog_text.specs.Names as names
use Rattle.verilog_lex.specs.declared.lexeme.Lexeme.{Lexeme}
use Rattle.verilog_lex.specs.declared.lexeme.Lexeme.TheVariants as lexeme
use Rattle.verilog_lex.specs.declared.found.Symbol.TheVariants as symbol
use Rattle.verilog_lex.specs.declared.names.Known.{Known}
use Rattle.verilog_lex.specs.declared.names.Known.TheVariants as known
use Rattle.verilog_lex.specs.declared.names.Names.{Names}
use Rattle.verilog_lex.specs.Found.{symbol_view}

abbrev pub lexeme_view : Lexeme → names.Lexeme
lexeme_view (lexeme.Inside t) = names.Inside t
lexeme_view lexeme.Outside = names.Outside
lexeme_view lexeme.Unreadable = names.Unreadable

-- what stands at the place of a known word
abbrev pub known_lexeme : Known → names.Lexeme
known_lexeme (known.Reserved (symbol.Read t)) = names.Inside t
known_lexeme (known.Reserved symbol.Outside) = names.Outside
known_lexeme (known.Reserved symbol.Unreadable) = names.Unreadable
known_lexeme (known.Name n) = names.Inside (token.Name n)

-- what is known of a word so far: nothing, and then it is no name; or what the tables have for it, or the number of its name
abbrev pub IsKnown : List (List ℕ) → List ℕ → Option Known → Type 0
IsKnown names text None = number_in names text ≡ length names
IsKnown names text (Some (known.Reserved s)) = word_piece text ≡ symbol_view s
IsKnown names text (Some (known.Name n)) = (word_piece text ≡ NameText text) × (n ≡ number_in names text) × (n < length names)

-- what is known of each word is right
abbrev pub Knows : Names → Type 0
Knows n = (text : List ℕ) → IsKnown n.names.items text (get_by (λ k. bytes_eq text k.now) n.known)
