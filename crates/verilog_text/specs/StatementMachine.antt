-- The reading of a statement as a machine over the one for expressions.
use Rattle.std.specs.Prelude.{ℕ, ◌+◌, ◌-◌, List, [], ◌∷◌, Option, Some, None, Result, Ok, Err, nat_lt, nat_le, if◌then◌else◌}
use Rattle.verilog_tree.specs.declared.tree.Op.TheVariants.{LessEqual}
use Rattle.verilog_tree.specs.Tree as tree
use Rattle.verilog_tree.specs.Tree.{Tree, Action, Actions}
use Rattle.verilog_text.specs.declared.token.Mark.TheVariants as mark
use Rattle.verilog_text.specs.declared.token.Word.{Word}
use Rattle.verilog_text.specs.declared.token.Word.TheVariants as word
use Rattle.verilog_text.specs.declared.token.Token.{Token}
use Rattle.verilog_text.specs.declared.token.Token.TheVariants as token
use Rattle.verilog_text.specs.declared.token.Why.{Why}
use Rattle.verilog_text.specs.declared.token.Why.TheVariants as why
use Rattle.verilog_text.specs.Grammar.{Limits}
use Rattle.verilog_text.specs.Machine as inner

pub data Frame : Type 0 where
  InBlock : (before : Actions) → Frame
  InThen : (condition : Tree) → Frame
  InElse : (condition : Tree) (on_true : Action) → Frame

-- what comes next: a statement, what may follow one, the `(` of an `if`, its condition, the `<=` behind a name, or its value
pub data Phase : Type 0 where
  Waiting : Phase
  After : (latest : Action) → Phase
  Asking : Phase
  Condition : (s : inner.State) → Phase
  Named : (name : ℕ) → Phase
  Value : (name : ℕ) (s : inner.State) → Phase

pub record State : Type 0 where
  pub stack : List Frame
  pub phase : Phase

abbrev pub levels : List Frame → ℕ
levels [] = 0
levels (InBlock before ∷ stack) = 1 + levels stack
levels (InThen condition ∷ stack) = 1 + levels stack
levels (InElse condition on_true ∷ stack) = 1 + levels stack

-- what is left for an expression where so many levels are open
abbrev pub left_of : Limits → ℕ → Limits
left_of limits used = record { levels = limits.levels - used; operators = limits.operators }

abbrev pub at : List Frame → Phase → State
at stack phase = record { stack = stack; phase = phase }

pub record Folded : Type 0 where
  pub stack : List Frame
  pub latest : Action

-- ends each `if` whose `else` came, and, but for an `else`, each other one
abbrev pub fold_to : ℕ → List Frame → Action → Folded
fold_to loose [] a = record { stack = []; latest = a }
fold_to loose (InBlock before ∷ stack) a = record { stack = InBlock before ∷ stack; latest = a }
fold_to loose (InThen condition ∷ stack) a = if nat_le 1 loose then fold_to loose stack (tree.When condition a) else record { stack = InThen condition ∷ stack; latest = a }
fold_to loose (InElse condition on_true ∷ stack) a = fold_to loose stack (tree.Either condition on_true a)

abbrev pub with_last : Actions → Action → Actions
with_last tree.no_action a = tree.action a tree.no_action
with_last (tree.action first rest) a = tree.action first (with_last rest a)

-- goes on with what the inner machine gives
abbrev pub lifted : List Frame → (inner.State → Phase) → Result inner.State Why → Result State Why
lifted stack make (Ok s) = Ok (at stack (make s))
lifted stack make (Err reason) = Err reason

abbrev pub or_closed : List Frame → Option Tree → Result State Why → Result State Why
or_closed stack (Some condition) next = Ok (at (InThen condition ∷ stack) Waiting)
or_closed stack None next = next

abbrev pub or_given : List Frame → ℕ → Option Tree → Result State Why
or_given stack name (Some value) = Ok (at stack (After (tree.Give name value)))
or_given stack name None = Err why.Syntax

abbrev pub condition_step : Limits → List Frame → inner.State → Token → Result State Why
condition_step limits stack s (token.Punctuation mark.Close) = or_closed stack (inner.finish s) (lifted stack Condition (inner.step (left_of limits (1 + levels stack)) s (token.Punctuation mark.Close)))
condition_step limits stack s t = lifted stack Condition (inner.step (left_of limits (1 + levels stack)) s t)

abbrev pub value_step : Limits → List Frame → ℕ → inner.State → Token → Result State Why
value_step limits stack name s (token.Punctuation mark.Semicolon) = or_given stack name (inner.finish s)
value_step limits stack name s t = lifted stack (Value name) (inner.step (left_of limits (levels stack)) s t)

abbrev pub block_ended : List Frame → Result State Why
block_ended (InBlock before ∷ stack) = Ok (at stack (After (tree.Block before)))
block_ended _ = Err why.Syntax

-- where a statement begins, or its block ends
abbrev pub waiting_word : Limits → List Frame → Word → Result State Why
waiting_word limits stack word.Begin = if nat_lt (levels stack) limits.levels then Ok (at (InBlock tree.no_action ∷ stack) Waiting) else Err why.TooDeep
waiting_word limits stack word.If = if nat_lt (levels stack) limits.levels then Ok (at stack Asking) else Err why.TooDeep
waiting_word limits stack word.End = block_ended stack
waiting_word limits stack _ = Err why.Syntax

abbrev pub waiting_step : Limits → List Frame → Token → Result State Why
waiting_step limits stack (token.Name name) = Ok (at stack (Named name))
waiting_step limits stack (token.Keyword w) = waiting_word limits stack w
waiting_step limits stack _ = Err why.Syntax

abbrev pub forked : List Frame → Action → Result State Why
forked (InThen condition ∷ stack) a = Ok (at (InElse condition a ∷ stack) Waiting)
forked _ a = Err why.Syntax

-- the statement is over: a further one of its block
abbrev pub going_on : Limits → List Frame → Action → Token → Result State Why
going_on limits (InBlock before ∷ stack) a t = waiting_step limits (InBlock (with_last before a) ∷ stack) t
going_on limits _ a t = Err why.Syntax

abbrev pub after_step : Limits → List Frame → Action → Token → Result State Why
after_step limits stack a (token.Keyword word.Else) = let f = fold_to 0 stack a in forked f.stack f.latest
after_step limits stack a t = let f = fold_to 1 stack a in going_on limits f.stack f.latest t

abbrev pub asking_step : List Frame → Token → Result State Why
asking_step stack (token.Punctuation mark.Open) = Ok (at stack (Condition inner.start))
asking_step stack _ = Err why.Syntax

abbrev pub named_step : List Frame → ℕ → Token → Result State Why
named_step stack name (token.Operator LessEqual) = Ok (at stack (Value name inner.start))
named_step stack name _ = Err why.Syntax

abbrev pub phase_step : Limits → List Frame → Phase → Token → Result State Why
phase_step limits stack Waiting t = waiting_step limits stack t
phase_step limits stack (After a) t = after_step limits stack a t
phase_step limits stack Asking t = asking_step stack t
phase_step limits stack (Condition s) t = condition_step limits stack s t
phase_step limits stack (Named name) t = named_step stack name t
phase_step limits stack (Value name s) t = value_step limits stack name s t

abbrev pub step : Limits → State → Token → Result State Why
step limits s t = phase_step limits s.stack s.phase t

abbrev pub start : State
start = at [] Waiting

-- the whole statement, if it could end here
abbrev pub bare_action : List Frame → Action → Option Action
bare_action [] a = Some a
bare_action (x ∷ stack) a = None

abbrev pub finish_phase : List Frame → Phase → Option Action
finish_phase stack (After a) = let f = fold_to 1 stack a in bare_action f.stack f.latest
finish_phase stack _ = None

abbrev pub finish : State → Option Action
finish s = finish_phase s.stack s.phase
