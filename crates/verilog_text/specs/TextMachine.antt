-- The reading of a text as a machine over the ones for expressions and statements.
use Rattle.std.specs.Prelude.{ℕ, ◌==◌, ◌&&◌, Bool, true, false, List, [], ◌∷◌, ◌++◌, Option, Some, None, Result, Ok, Err, if◌then◌else◌}
use Rattle.verilog_tree.specs.declared.tree.Kind.{Kind}
use Rattle.verilog_tree.specs.declared.tree.Kind.TheVariants as kind
use Rattle.verilog_tree.specs.declared.tree.Signal.{Signal}
use Rattle.verilog_tree.specs.Tree.{Tree, Action, Assignment}
use Rattle.verilog_text.specs.declared.token.Decimal.{Decimal}
use Rattle.verilog_text.specs.declared.token.Mark.{Mark}
use Rattle.verilog_text.specs.declared.token.Mark.TheVariants as mark
use Rattle.verilog_text.specs.declared.token.Word.{Word}
use Rattle.verilog_text.specs.declared.token.Word.TheVariants as word
use Rattle.verilog_text.specs.declared.token.Token.{Token}
use Rattle.verilog_text.specs.declared.token.Token.TheVariants as token
use Rattle.verilog_text.specs.declared.token.Why.{Why}
use Rattle.verilog_text.specs.declared.token.Why.TheVariants as why
use Rattle.verilog_text.specs.Grammar.{Limits}
use Rattle.verilog_text.specs.Text.{Text, Shape, signal_of, signals_of, assigns_of, blocks_of}
use Rattle.verilog_text.specs.Machine as inner
use Rattle.verilog_text.specs.StatementMachine as statement

-- what has been read of a declaration before its name: nothing, `wire`, `signed`, or some of a range
pub data Spot : Type 0 where
  Wirable : Spot
  Signable : Spot
  Rangeable : (signed : Bool) → Spot
  Ranging : (signed : Bool) → Spot
  Ranged : (signed : Bool) (high : Decimal) → Spot
  Zeroing : (signed : Bool) (high : Decimal) → Spot
  Closing : (signed : Bool) (high : Decimal) → Spot
  Nameable : (shape : Shape) → Spot

-- what comes next
pub data Phase : Type 0 where
  Start : Phase
  Naming : Phase
  Opening : Phase
  FirstPort : Phase
  Heading : (k : Kind) (spot : Spot) → Phase
  Listed : (k : Kind) (shape : Shape) → Phase
  NextPort : (k : Kind) (shape : Shape) → Phase
  PortsClosed : Phase
  AtItem : Phase
  Targeting : Phase
  Assigning : (target : ℕ) → Phase
  Valued : (target : ℕ) (s : inner.State) → Phase
  AtEvent : Phase
  InEvent : Phase
  OnEdge : Phase
  AtClock : Phase
  EventClosed : Phase
  Running : (s : statement.State) → Phase
  Done : Phase

-- what has been read of the module
pub record Draft : Type 0 where
  pub name : ℕ
  pub signals : List Signal
  pub assigns : List Assignment
  pub blocks : List Action

pub record State : Type 0 where
  pub draft : Draft
  pub phase : Phase

abbrev pub at : Draft → Phase → State
at draft phase = record { draft = draft; phase = phase }

abbrev pub declaring : Draft → Kind → Shape → ℕ → Draft
declaring draft k shape name = record draft { signals = draft.signals ++ signal_of k shape name ∷ [] }

abbrev pub declared : Draft → Kind → Shape → ℕ → Result State Why
declared draft k shape name = Ok (at (declaring draft k shape name) (Listed k shape))

abbrev pub shaped : Bool → Option Decimal → Shape
shaped signed range = record { signed = signed; range = range }

abbrev pub is_zero_digit : Decimal → Bool
is_zero_digit d = (d.value == 0) && d.is_single

-- behind the `:` of a range exactly the number `0` stands
abbrev pub zeroing : Draft → Kind → Bool → Decimal → Decimal → Result State Why
zeroing draft k signed high d = if is_zero_digit d then Ok (at draft (Heading k (Closing signed high))) else Err why.Syntax

abbrev pub spot_step : Draft → Kind → Spot → Token → Result State Why
spot_step draft k Wirable (token.Keyword word.Wire) = Ok (at draft (Heading k Signable))
spot_step draft k Wirable (token.Keyword word.Signed) = Ok (at draft (Heading k (Rangeable true)))
spot_step draft k Wirable (token.Punctuation mark.OpenBracket) = Ok (at draft (Heading k (Ranging false)))
spot_step draft k Wirable (token.Name name) = declared draft k (shaped false None) name
spot_step draft k Signable (token.Keyword word.Signed) = Ok (at draft (Heading k (Rangeable true)))
spot_step draft k Signable (token.Punctuation mark.OpenBracket) = Ok (at draft (Heading k (Ranging false)))
spot_step draft k Signable (token.Name name) = declared draft k (shaped false None) name
spot_step draft k (Rangeable signed) (token.Punctuation mark.OpenBracket) = Ok (at draft (Heading k (Ranging signed)))
spot_step draft k (Rangeable signed) (token.Name name) = declared draft k (shaped signed None) name
spot_step draft k (Ranging signed) (token.Number high) = Ok (at draft (Heading k (Ranged signed high)))
spot_step draft k (Ranged signed high) (token.Punctuation mark.Colon) = Ok (at draft (Heading k (Zeroing signed high)))
spot_step draft k (Zeroing signed high) (token.Number d) = zeroing draft k signed high d
spot_step draft k (Closing signed high) (token.Punctuation mark.CloseBracket) = Ok (at draft (Heading k (Nameable (shaped signed (Some high)))))
spot_step draft k (Nameable shape) (token.Name name) = declared draft k shape name
spot_step draft k spot t = Err why.Syntax

-- behind a declared name
abbrev pub listed_mark : Draft → Kind → Shape → Mark → Result State Why
listed_mark draft kind.Input shape mark.Comma = Ok (at draft (NextPort kind.Input shape))
listed_mark draft kind.Input shape mark.Close = Ok (at draft PortsClosed)
listed_mark draft kind.Output shape mark.Comma = Ok (at draft (NextPort kind.Output shape))
listed_mark draft kind.Output shape mark.Close = Ok (at draft PortsClosed)
listed_mark draft kind.Wire shape mark.Comma = Ok (at draft (Heading kind.Wire (Nameable shape)))
listed_mark draft kind.Wire shape mark.Semicolon = Ok (at draft AtItem)
listed_mark draft kind.Reg shape mark.Comma = Ok (at draft (Heading kind.Reg (Nameable shape)))
listed_mark draft kind.Reg shape mark.Semicolon = Ok (at draft AtItem)
listed_mark draft k shape m = Err why.Syntax

abbrev pub listed_step : Draft → Kind → Shape → Token → Result State Why
listed_step draft k shape (token.Punctuation m) = listed_mark draft k shape m
listed_step draft k shape t = Err why.Syntax

abbrev pub first_port_step : Draft → Token → Result State Why
first_port_step draft (token.Keyword word.Input) = Ok (at draft (Heading kind.Input Wirable))
first_port_step draft (token.Keyword word.Output) = Ok (at draft (Heading kind.Output Wirable))
first_port_step draft t = Err why.Syntax

abbrev pub next_port_step : Draft → Kind → Shape → Token → Result State Why
next_port_step draft k shape (token.Name name) = declared draft k shape name
next_port_step draft k shape t = first_port_step draft t

abbrev pub item_word : Draft → Word → Result State Why
item_word draft word.Wire = Ok (at draft (Heading kind.Wire Signable))
item_word draft word.Reg = Ok (at draft (Heading kind.Reg Signable))
item_word draft word.Assign = Ok (at draft Targeting)
item_word draft word.Always = Ok (at draft AtEvent)
item_word draft word.EndModule = Ok (at draft Done)
item_word draft w = Err why.Syntax

abbrev pub item_step : Draft → Token → Result State Why
item_step draft (token.Keyword w) = item_word draft w
item_step draft t = Err why.Syntax

-- one word or mark, and nothing else
abbrev pub keyword_step : (Word → Bool) → State → Token → Result State Why
keyword_step expected next (token.Keyword w) = if expected w then Ok next else Err why.Syntax
keyword_step expected next t = Err why.Syntax

abbrev pub mark_step : (Mark → Bool) → State → Token → Result State Why
mark_step expected next (token.Punctuation m) = if expected m then Ok next else Err why.Syntax
mark_step expected next t = Err why.Syntax

abbrev pub name_step : (ℕ → Result State Why) → Token → Result State Why
name_step next (token.Name name) = next name
name_step next t = Err why.Syntax

abbrev pub is_module : Word → Bool
is_module word.Module = true
is_module w = false

abbrev pub is_posedge : Word → Bool
is_posedge word.Posedge = true
is_posedge w = false

abbrev pub is_open : Mark → Bool
is_open mark.Open = true
is_open m = false

abbrev pub is_close : Mark → Bool
is_close mark.Close = true
is_close m = false

abbrev pub is_semicolon : Mark → Bool
is_semicolon mark.Semicolon = true
is_semicolon m = false

abbrev pub is_assigned : Mark → Bool
is_assigned mark.Assigned = true
is_assigned m = false

abbrev pub is_at : Mark → Bool
is_at mark.At = true
is_at m = false

-- the right side of an assignment
abbrev pub value_lifted : Draft → ℕ → Result inner.State Why → Result State Why
value_lifted draft target (Ok s) = Ok (at draft (Valued target s))
value_lifted draft target (Err reason) = Err reason

abbrev pub or_assigned : Draft → ℕ → Option Tree → Result State Why
or_assigned draft target (Some value) = Ok (at (record draft { assigns = draft.assigns ++ record { target = target; value = value } ∷ [] }) AtItem)
or_assigned draft target None = Err why.Syntax

abbrev pub valued_step : Limits → Draft → ℕ → inner.State → Token → Result State Why
valued_step limits draft target s (token.Punctuation mark.Semicolon) = or_assigned draft target (inner.finish s)
valued_step limits draft target s t = value_lifted draft target (inner.step limits s t)

-- the statement of an always block, which ends where an item begins
abbrev pub statement_lifted : Draft → Result statement.State Why → Result State Why
statement_lifted draft (Ok s) = Ok (at draft (Running s))
statement_lifted draft (Err reason) = Err reason

abbrev pub or_over : Draft → Option Action → Word → Result State Why
or_over draft (Some a) w = item_word (record draft { blocks = draft.blocks ++ a ∷ [] }) w
or_over draft None w = Err why.Syntax

abbrev pub running_word : Limits → Draft → statement.State → Word → Result State Why
running_word limits draft s word.Wire = or_over draft (statement.finish s) word.Wire
running_word limits draft s word.Reg = or_over draft (statement.finish s) word.Reg
running_word limits draft s word.Assign = or_over draft (statement.finish s) word.Assign
running_word limits draft s word.Always = or_over draft (statement.finish s) word.Always
running_word limits draft s word.EndModule = or_over draft (statement.finish s) word.EndModule
running_word limits draft s w = statement_lifted draft (statement.step limits s (token.Keyword w))

abbrev pub running_step : Limits → Draft → statement.State → Token → Result State Why
running_step limits draft s (token.Keyword w) = running_word limits draft s w
running_step limits draft s t = statement_lifted draft (statement.step limits s t)

abbrev pub clock_step : ℕ → Draft → ℕ → Result State Why
clock_step clock draft name = if name == clock then Ok (at draft EventClosed) else Err why.Syntax

abbrev pub phase_step : Limits → ℕ → Draft → Phase → Token → Result State Why
phase_step limits clock draft Start t = keyword_step is_module (at draft Naming) t
phase_step limits clock draft Naming t = name_step (λ name. Ok (at (record draft { name = name }) Opening)) t
phase_step limits clock draft Opening t = mark_step is_open (at draft FirstPort) t
phase_step limits clock draft FirstPort t = first_port_step draft t
phase_step limits clock draft (Heading k spot) t = spot_step draft k spot t
phase_step limits clock draft (Listed k shape) t = listed_step draft k shape t
phase_step limits clock draft (NextPort k shape) t = next_port_step draft k shape t
phase_step limits clock draft PortsClosed t = mark_step is_semicolon (at draft AtItem) t
phase_step limits clock draft AtItem t = item_step draft t
phase_step limits clock draft Targeting t = name_step (λ name. Ok (at draft (Assigning name))) t
phase_step limits clock draft (Assigning target) t = mark_step is_assigned (at draft (Valued target inner.start)) t
phase_step limits clock draft (Valued target s) t = valued_step limits draft target s t
phase_step limits clock draft AtEvent t = mark_step is_at (at draft InEvent) t
phase_step limits clock draft InEvent t = mark_step is_open (at draft OnEdge) t
phase_step limits clock draft OnEdge t = keyword_step is_posedge (at draft AtClock) t
phase_step limits clock draft AtClock t = name_step (clock_step clock draft) t
phase_step limits clock draft EventClosed t = mark_step is_close (at draft (Running statement.start)) t
phase_step limits clock draft (Running s) t = running_step limits draft s t
phase_step limits clock draft Done t = Err why.Syntax

abbrev pub step : Limits → ℕ → State → Token → Result State Why
step limits clock s t = phase_step limits clock s.draft s.phase t

-- what a text stands for, but for names and places
abbrev pub drafted : Text → Draft
drafted t = record { name = t.name; signals = signals_of t; assigns = assigns_of t.items; blocks = blocks_of t.items }

abbrev pub empty : Draft
empty = record { name = 0; signals = []; assigns = []; blocks = [] }

abbrev pub start : State
start = at empty Start

abbrev pub and_then : {A B E : Type 0} → Result A E → (A → Result B E) → Result B E
and_then (Ok x) next = next x
and_then (Err w) next = Err w

-- the state behind these tokens
abbrev pub run : Limits → ℕ → State → List Token → Result State Why
run limits clock s [] = Ok s
run limits clock s (t ∷ ts) = and_then (step limits clock s t) (λ next. run limits clock next ts)
