-- The reading of a whole text as the machine does it, up to the first place that it refuses.
use Rattle.std.specs.Prelude.{ℕ, Bool, true, false, List, [], ◌∷◌, Result, Ok, Err, if◌then◌else◌}
use Rattle.verilog_text.specs.declared.token.Why.{Why}
use Rattle.verilog_text.specs.declared.token.Why.TheVariants as why
use Rattle.verilog_text.specs.Grammar.{limits}
use Rattle.verilog_text.specs.Names.{Lexeme, Inside, Outside, Unreadable}
use Rattle.verilog_text.specs.TextMachine.{Phase, Start, Naming, Opening, FirstPort, Heading, Listed, NextPort, PortsClosed, AtItem, Targeting, Assigning, Valued, AtEvent, InEvent, OnEdge, AtClock, EventClosed, Running, Done, Draft, State, step}
use Rattle.verilog_lex.specs.Lexed.{Standing}
use Rattle.verilog_parse.specs.TextView.{IsSmall}

-- one token more, or what is none
abbrev pub lexeme_step : ℕ → State → Lexeme → Result State Why
lexeme_step clock s (Inside t) = step limits clock s t
lexeme_step clock s Outside = Err why.OutsideSubset
lexeme_step clock s Unreadable = Err why.Lexical

-- a place at which a text is refused
pub record Refusal : Type 0 where
  pub place : ℕ
  pub reason : Why

abbrev pub is_done : Phase → Bool
is_done Start = false
is_done Naming = false
is_done Opening = false
is_done FirstPort = false
is_done (Heading k spot) = false
is_done (Listed k shape) = false
is_done (NextPort k shape) = false
is_done PortsClosed = false
is_done AtItem = false
is_done Targeting = false
is_done (Assigning target) = false
is_done (Valued target s) = false
is_done AtEvent = false
is_done InEvent = false
is_done OnEdge = false
is_done AtClock = false
is_done EventClosed = false
is_done (Running s) = false
is_done Done = true

-- at the end of the text
abbrev pub ended : State → ℕ → Result Draft Refusal
ended s place = if is_done s.phase then Ok s.draft else Err (record { place = place; reason = why.Syntax })

-- goes on from the next state, or refuses here
abbrev pub go_on : Result State Why → ℕ → (State → Result Draft Refusal) → Result Draft Refusal
go_on (Ok s) place next = next s
go_on (Err reason) place next = Err (record { place = place; reason = reason })

-- reads what stands at the places, in a text of this many bytes
abbrev pub read_from : ℕ → ℕ → State → List Standing → Result Draft Refusal
read_from clock end s [] = ended s end
read_from clock end s (x ∷ rest) = go_on (lexeme_step clock s x.lexeme) x.place (λ next. read_from clock end next rest)

-- each number without a size is below 2^31
abbrev pub IsSmallLexeme : Lexeme → Type 0
IsSmallLexeme (Inside t) = IsSmall t
IsSmallLexeme Outside = Unit {0}
IsSmallLexeme Unreadable = Unit {0}

abbrev pub AreSmall : List Standing → Type 0
AreSmall [] = Unit {0}
AreSmall (x ∷ rest) = IsSmallLexeme x.lexeme × AreSmall rest
