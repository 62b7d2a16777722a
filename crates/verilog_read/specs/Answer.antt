-- What the reader answers.
use Rattle.std.specs.Prelude.{◌≡◌, ℕ, List, [], ◌∷◌, ◌++◌, map, length, Result, Ok, Err}
use Rattle.verilog_tree.specs.Renaming.{number_in}
use Rattle.verilog_text.specs.declared.token.Token.{Token}
use Rattle.verilog_text.specs.declared.token.Why.{Why}
use Rattle.verilog_text.specs.declared.token.Why.TheVariants as why
use Rattle.verilog_text.specs.Grammar.{limits}
use Rattle.verilog_text.specs.Text.{Text, AreItems, tokens_of, clock_text}
use Rattle.verilog_text.specs.Lexer.{Placed, Scans}
use Rattle.verilog_text.specs.Names.{Lexeme, Inside, Outside, Unreadable, names_behind}
use Rattle.verilog_text.specs.TextMachine as machine
use Rattle.verilog_parse.specs.declared.text.draft.Draft.{Draft}
use Rattle.verilog_parse.specs.TextView.{draft_view}
use Rattle.verilog_lex.specs.Lexed.{Standing, standing_in}
use Rattle.verilog_read.specs.declared.fault.ReadFault.{ReadFault}
use Rattle.verilog_read.specs.declared.fault.ReadFault.TheVariants as fault
use Rattle.verilog_read.specs.Reader.{Refusal, lexeme_step}

-- a refusal as a fault, unless memory ran out
abbrev pub FailsAt : ReadFault → Result machine.Draft Refusal → Type 0
FailsAt (fault.Lexical place) given = given ≡ Err (record { place = place; reason = why.Lexical })
FailsAt (fault.Syntax place) given = given ≡ Err (record { place = place; reason = why.Syntax })
FailsAt (fault.OutsideSubset place) given = given ≡ Err (record { place = place; reason = why.OutsideSubset })
FailsAt (fault.TooDeep place) given = given ≡ Err (record { place = place; reason = why.TooDeep })
FailsAt (fault.Module f) given = ⊥
FailsAt fault.Memory given = Unit {0}

abbrev pub GivesDraft : Result Draft ReadFault → Result machine.Draft Refusal → Type 0
GivesDraft (Ok d) given = given ≡ Ok (draft_view d)
GivesDraft (Err e) given = FailsAt e given

-- no text of the grammar has these tokens in front and this one behind them; the number is that of the name `clk`
abbrev pub CannotGoOn : ℕ → List Token → Token → Type 0
CannotGoOn clock before t = (text : Text) (after : List Token) → AreItems limits text.items → tokens_of clock text ≡ before ++ t ∷ after → ⊥

-- no text of the grammar has these tokens and no others
abbrev pub CannotEnd : ℕ → List Token → Type 0
CannotEnd clock before = (text : Text) → AreItems limits text.items → tokens_of clock text ≡ before → ⊥

-- some text of the grammar begins with these tokens
pub record Begins (clock : ℕ) (before : List Token) : Type 0 where
  pub text : Text
  pub in_limits : AreItems limits text.items
  pub after : List Token
  pub text_is : tokens_of clock text ≡ before ++ after

abbrev pub CannotStand : ℕ → List Token → Lexeme → Type 0
CannotStand clock before (Inside t) = CannotGoOn clock before t
CannotStand clock before Outside = Unit {0}
CannotStand clock before Unreadable = Unit {0}

-- why what stands behind these tokens is refused, in a text of so many bytes
abbrev pub IsRefused : ℕ → ℕ → List Token → machine.State → List Standing → ℕ → Why → Type 0
IsRefused clock end before s [] place reason = (place ≡ end) × (reason ≡ why.Syntax) × CannotEnd clock before
IsRefused clock end before s (x ∷ rest) place reason = (place ≡ x.place) × (lexeme_step clock s x.lexeme ≡ Err reason) × CannotStand clock before x.lexeme

-- the first place such that no text of the grammar begins with the tokens before it and what stands there: some text begins with those before it
pub record StopsAt (bytes : List ℕ) (place : ℕ) (reason : Why) : Type 0 where
  pub pieces : List Placed
  pub scans : Scans 0 bytes pieces
  pub front : List Standing
  pub rest : List Standing
  pub parts : map (standing_in (names_behind [] pieces)) pieces ≡ front ++ rest
  pub before : List Token
  pub are_tokens : map (λ x. x.lexeme) front ≡ map Inside before
  pub begins : Begins (number_in (names_behind [] pieces) clock_text) before
  pub state : machine.State
  pub takes : machine.run limits (number_in (names_behind [] pieces) clock_text) machine.start before ≡ Ok state
  pub refused : IsRefused (number_in (names_behind [] pieces) clock_text) (length bytes) before state rest place reason

abbrev pub IsStop : List ℕ → ReadFault → Type 0
IsStop bytes (fault.Lexical place) = StopsAt bytes place why.Lexical
IsStop bytes (fault.Syntax place) = StopsAt bytes place why.Syntax
IsStop bytes (fault.OutsideSubset place) = StopsAt bytes place why.OutsideSubset
IsStop bytes (fault.TooDeep place) = StopsAt bytes place why.TooDeep
IsStop bytes (fault.Module f) = ⊥
IsStop bytes fault.Memory = Unit {0}
