-- The reading of an expression as a machine with a stack: one step for each token.
use Rattle.std.specs.Prelude.{ℕ, ◌+◌, ◌&&◌, Bool, true, false, List, [], ◌∷◌, Option, Some, None, Result, Ok, Err, nat_lt, nat_le, if◌then◌else◌}
use Rattle.verilog_tree.specs.declared.tree.Op.{Op}
use Rattle.verilog_tree.specs.declared.tree.ShiftOp.{ShiftOp}
use Rattle.verilog_tree.specs.Tree as tree
use Rattle.verilog_tree.specs.Tree.{Tree, Trees}
use Rattle.verilog_text.specs.declared.token.Decimal.{Decimal}
use Rattle.verilog_text.specs.declared.token.Mark.{Mark}
use Rattle.verilog_text.specs.declared.token.Mark.TheVariants as mark
use Rattle.verilog_text.specs.declared.token.Token.{Token}
use Rattle.verilog_text.specs.declared.token.Token.TheVariants as token
use Rattle.verilog_text.specs.declared.token.Why.{Why}
use Rattle.verilog_text.specs.declared.token.Why.TheVariants as why
use Rattle.verilog_text.specs.Grammar.{rank, is_plain, Limits}

-- what has been begun and has not ended, each with what it holds so far
pub data Frame : Type 0 where
  InBracket : Frame
  InNot : Frame
  InMembers : (before : Trees) → Frame
  InRight : (left : Tree) (op : Op) → Frame
  InYes : (condition : Tree) → Frame
  InNo : (condition on_true : Tree) → Frame

-- what comes next: an operand, what may follow an operand of this looseness (a `[` too, behind this name alone), a shift amount,
-- or in a select its high place, what follows it, its low place, its end
pub data Phase : Type 0 where
  Operand : Phase
  After : (bare : Option ℕ) (loose : ℕ) (operand : Tree) → Phase
  Amount : (op : ShiftOp) (operand : Tree) → Phase
  Selecting : (name : ℕ) → Phase
  Selected : (name high : ℕ) → Phase
  Lowing : (name high : ℕ) → Phase
  Closing : (name high low : ℕ) → Phase

pub record State : Type 0 where
  pub stack : List Frame
  pub phase : Phase
  pub used : ℕ

-- the levels that are open
abbrev pub levels : List Frame → ℕ
levels [] = 0
levels (InBracket ∷ stack) = 1 + levels stack
levels (InNot ∷ stack) = 1 + levels stack
levels (InMembers held ∷ stack) = 1 + levels stack
levels (InRight left op ∷ stack) = levels stack
levels (InYes condition ∷ stack) = 1 + levels stack
levels (InNo condition on_true ∷ stack) = 1 + levels stack

-- an operand, and the stack below it
pub record Folded : Type 0 where
  pub stack : List Frame
  pub operand : Tree

-- ends all that binds at least as tight as this rank
abbrev pub fold_to : ℕ → List Frame → Tree → Folded
fold_to loose [] e = record { stack = []; operand = e }
fold_to loose (InBracket ∷ stack) e = record { stack = InBracket ∷ stack; operand = e }
fold_to loose (InNot ∷ stack) e = fold_to loose stack (tree.Not e)
fold_to loose (InMembers held ∷ stack) e = record { stack = InMembers held ∷ stack; operand = e }
fold_to loose (InRight left op ∷ stack) e = if nat_le (rank op) loose then fold_to loose stack (tree.Binary op left e) else record { stack = InRight left op ∷ stack; operand = e }
fold_to loose (InYes condition ∷ stack) e = record { stack = InYes condition ∷ stack; operand = e }
fold_to loose (InNo condition on_true ∷ stack) e = if nat_le 8 loose then fold_to loose stack (tree.Choice condition on_true e) else record { stack = InNo condition on_true ∷ stack; operand = e }

abbrev pub at : List Frame → Phase → ℕ → State
at stack phase used = record { stack = stack; phase = phase; used = used }

-- one more level
abbrev pub opened : Limits → List Frame → ℕ → Frame → Result State Why
opened limits stack used frame = if nat_lt (levels stack) limits.levels then Ok (at (frame ∷ stack) Operand used) else Err why.TooDeep

-- a member begins here
abbrev pub at_member : List Frame → Bool
at_member [] = false
at_member (InBracket ∷ stack) = false
at_member (InNot ∷ stack) = false
at_member (InMembers held ∷ stack) = true
at_member (InRight left op ∷ stack) = false
at_member (InYes condition ∷ stack) = false
at_member (InNo condition on_true ∷ stack) = false

-- a number that begins a member could not be gone on with
abbrev pub is_spent : Limits → List Frame → ℕ → Bool
is_spent limits stack used = at_member stack && (nat_le limits.levels (levels stack) && nat_le limits.operators used)

abbrev pub operand_mark : Limits → List Frame → ℕ → Mark → Result State Why
operand_mark limits stack used mark.Open = opened limits stack used InBracket
operand_mark limits stack used mark.OpenBrace = opened limits stack used (InMembers tree.none)
operand_mark limits stack used mark.Inverse = opened limits stack used InNot
operand_mark limits stack used _ = Err why.Syntax

abbrev pub operand_step : Limits → List Frame → ℕ → Token → Result State Why
operand_step limits stack used (token.Name name) = Ok (at stack (After (Some name) 0 (tree.Name name)) used)
operand_step limits stack used (token.Number d) = if is_spent limits stack used then Err why.Syntax else Ok (at stack (After None 0 (tree.Plain d.value)) used)
operand_step limits stack used (token.Based l) = Ok (at stack (After None 0 (tree.Based l.width l.signed l.bits)) used)
operand_step limits stack used (token.Punctuation m) = operand_mark limits stack used m
operand_step limits stack used _ = Err why.Syntax

-- one more operator
abbrev pub operated : Limits → Folded → ℕ → Op → Result State Why
operated limits f used op = if nat_lt used limits.operators then Ok (at (InRight f.operand op ∷ f.stack) Operand (used + 1)) else Err why.TooDeep

abbrev pub shifted : Limits → Folded → ℕ → ShiftOp → Result State Why
shifted limits f used op = if nat_lt used limits.operators then Ok (at f.stack (Amount op f.operand) (used + 1)) else Err why.TooDeep

abbrev pub with_last : Trees → Tree → Trees
with_last tree.none e = tree.more e tree.none
with_last (tree.more first rest) e = tree.more first (with_last rest e)

abbrev pub closed : List Frame → Tree → ℕ → Result State Why
closed (InBracket ∷ stack) e used = Ok (at stack (After None 0 e) used)
closed _ e used = Err why.Syntax

abbrev pub parted : List Frame → Tree → ℕ → Result State Why
parted (InMembers held ∷ stack) e used = if is_plain e then Err why.Syntax else Ok (at (InMembers (with_last held e) ∷ stack) Operand used)
parted _ e used = Err why.Syntax

abbrev pub joined : List Frame → Tree → ℕ → Result State Why
joined (InMembers held ∷ stack) e used = if is_plain e then Err why.Syntax else Ok (at stack (After None 0 (tree.Cat (with_last held e))) used)
joined _ e used = Err why.Syntax

abbrev pub turned : List Frame → Tree → ℕ → Result State Why
turned (InYes condition ∷ stack) e used = Ok (at (InNo condition e ∷ stack) Operand used)
turned _ e used = Err why.Syntax

abbrev pub selecting : List Frame → ℕ → Option ℕ → Result State Why
selecting stack used (Some name) = Ok (at stack (Selecting name) used)
selecting stack used None = Err why.Syntax

abbrev pub after_mark : Limits → List Frame → ℕ → Option ℕ → Tree → Mark → Result State Why
after_mark limits stack used bare e mark.Question = let f = fold_to 7 stack e in opened limits f.stack used (InYes f.operand)
after_mark limits stack used bare e mark.Close = let f = fold_to 8 stack e in closed f.stack f.operand used
after_mark limits stack used bare e mark.Comma = let f = fold_to 8 stack e in parted f.stack f.operand used
after_mark limits stack used bare e mark.CloseBrace = let f = fold_to 8 stack e in joined f.stack f.operand used
after_mark limits stack used bare e mark.Colon = let f = fold_to 8 stack e in turned f.stack f.operand used
after_mark limits stack used bare e mark.OpenBracket = selecting stack used bare
after_mark limits stack used bare e _ = Err why.Syntax

abbrev pub after_step : Limits → List Frame → ℕ → Option ℕ → ℕ → Tree → Token → Result State Why
after_step limits stack used bare loose e (token.Operator op) = if nat_le loose (rank op) then operated limits (fold_to (rank op) stack e) used op else Err why.Syntax
after_step limits stack used bare loose e (token.Shift op) = if nat_le loose 2 then shifted limits (fold_to 2 stack e) used op else Err why.Syntax
after_step limits stack used bare loose e (token.Punctuation m) = after_mark limits stack used bare e m
after_step limits stack used bare loose e _ = Err why.Syntax

abbrev pub amount_step : List Frame → ℕ → ShiftOp → Tree → Token → Result State Why
amount_step stack used op e (token.Number d) = if nat_lt d.value 128 then Ok (at stack (After None 2 (tree.Shift op e d.value)) used) else Err why.OutsideSubset
amount_step stack used op e _ = Err why.Syntax

-- within a select
abbrev pub number_step : (Decimal → Result State Why) → Token → Result State Why
number_step next (token.Number d) = next d
number_step next _ = Err why.Syntax

abbrev pub selected_step : List Frame → ℕ → ℕ → ℕ → Token → Result State Why
selected_step stack used name high (token.Punctuation mark.CloseBracket) = Ok (at stack (After None 0 (tree.Bit name high)) used)
selected_step stack used name high (token.Punctuation mark.Colon) = Ok (at stack (Lowing name high) used)
selected_step stack used name high _ = Err why.Syntax

abbrev pub closing_step : List Frame → ℕ → ℕ → ℕ → ℕ → Token → Result State Why
closing_step stack used name high low (token.Punctuation mark.CloseBracket) = Ok (at stack (After None 0 (tree.Part name high low)) used)
closing_step stack used name high low _ = Err why.Syntax

abbrev pub phase_step : Limits → List Frame → ℕ → Phase → Token → Result State Why
phase_step limits stack used Operand t = operand_step limits stack used t
phase_step limits stack used (After bare loose e) t = after_step limits stack used bare loose e t
phase_step limits stack used (Amount op e) t = amount_step stack used op e t
phase_step limits stack used (Selecting name) t = number_step (λ d. Ok (at stack (Selected name d.value) used)) t
phase_step limits stack used (Selected name high) t = selected_step stack used name high t
phase_step limits stack used (Lowing name high) t = number_step (λ d. Ok (at stack (Closing name high d.value) used)) t
phase_step limits stack used (Closing name high low) t = closing_step stack used name high low t

abbrev pub step : Limits → State → Token → Result State Why
step limits s t = phase_step limits s.stack s.used s.phase t

abbrev pub start : State
start = at [] Operand 0

-- the whole expression, if it could end here
abbrev pub bare_tree : List Frame → Tree → Option Tree
bare_tree [] e = Some e
bare_tree (x ∷ stack) e = None

abbrev pub finish_phase : List Frame → Phase → Option Tree
finish_phase stack (After bare loose e) = let f = fold_to 8 stack e in bare_tree f.stack f.operand
finish_phase stack _ = None

abbrev pub finish : State → Option Tree
finish s = finish_phase s.stack s.phase
