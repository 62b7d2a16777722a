-- What the machine has read so far of an expression, with the brackets that its trees have lost.
use Rattle.std.proofs.Common.{ℕ, ◌+◌, ◌<◌, ◌≤◌, false, List, [], ◌∷◌, Some, None}
use Rattle.std.specs.Prelude.{Option}
use Rattle.verilog_tree.specs.declared.tree.Op.{Op}
use Rattle.verilog_tree.specs.declared.tree.ShiftOp.{ShiftOp}
use Rattle.verilog_text.specs.declared.token.Decimal.{Decimal}
use Rattle.verilog_text.specs.declared.token.Mark.{Mark}
use Rattle.verilog_text.specs.declared.token.Mark.TheVariants as mark
use Rattle.verilog_text.specs.declared.token.Token.{Token}
use Rattle.verilog_text.specs.declared.token.Token.TheVariants as token
use Rattle.verilog_text.specs.Grammar.{Source, Sources, Named, Shifted, no_member, member, marked, written, tree_of, trees_of, rank, looseness, IsGrouped, AreGrouped, depth, depths, operators, operators_in, Limits}
use Rattle.verilog_text.specs.Machine.{Frame, InBracket, InNot, InMembers, InRight, InYes, InNo, Operand, After, Amount, Selecting, Selected, Lowing, Closing, State, at, levels}
use Rattle.verilog_text.proofs.Steps.{room, Fits}

-- a frame of the stack; of members those before, in their order
pub data Around : Type 0 where
  AroundBracket : Around
  AroundNot : Around
  AroundMembers : (before : Sources) → Around
  AroundRight : (left : Source) (op : Op) → Around
  AroundYes : (condition : Source) → Around
  AroundNo : (condition on_true : Source) → Around

-- what stands on top of the stack
pub data Part : Type 0 where
  Waiting : Part
  Ended : (operand : Source) → Part
  Amounting : (op : ShiftOp) (operand : Source) → Part
  InSelect : (name : ℕ) → Part
  WithHigh : (name : ℕ) (high : Decimal) → Part
  BeforeLow : (name : ℕ) (high : Decimal) → Part
  WithLow : (name : ℕ) (high low : Decimal) → Part

abbrev pub frame_of : Around → Frame
frame_of AroundBracket = InBracket
frame_of AroundNot = InNot
frame_of (AroundMembers before) = InMembers (trees_of before)
frame_of (AroundRight left op) = InRight (tree_of left) op
frame_of (AroundYes condition) = InYes (tree_of condition)
frame_of (AroundNo condition on_true) = InNo (tree_of condition) (tree_of on_true)

abbrev pub frames : List Around → List Frame
frames [] = []
frames (around ∷ below) = frame_of around ∷ frames below

-- members that are begun: each behind its mark, and the mark of the next
abbrev pub begun : Mark → Sources → List Token → List Token
begun m no_member rest = marked m rest
begun m (member c cs) rest = marked m (written c (begun mark.Comma cs rest))

-- the tokens so far, and then the rest
abbrev pub before : List Around → List Token → List Token
before [] rest = rest
before (AroundBracket ∷ below) rest = before below (marked mark.Open rest)
before (AroundNot ∷ below) rest = before below (marked mark.Inverse rest)
before (AroundMembers held ∷ below) rest = before below (begun mark.OpenBrace held rest)
before (AroundRight left op ∷ below) rest = before below (written left (token.Operator op ∷ rest))
before (AroundYes condition ∷ below) rest = before below (written condition (marked mark.Question rest))
before (AroundNo condition on_true ∷ below) rest = before below (written condition (marked mark.Question (written on_true (marked mark.Colon rest))))

-- the operators so far
abbrev pub spent : List Around → ℕ
spent [] = 0
spent (AroundBracket ∷ below) = spent below
spent (AroundNot ∷ below) = spent below
spent (AroundMembers held ∷ below) = spent below + operators_in held
spent (AroundRight left op ∷ below) = spent below + operators left + 1
spent (AroundYes condition ∷ below) = spent below + operators condition
spent (AroundNo condition on_true ∷ below) = spent below + operators condition + operators on_true

-- each part fits where it stands
abbrev pub IsGood : Limits → List Around → Type 0
IsGood limits [] = Unit {0}
IsGood limits (AroundBracket ∷ below) = IsGood limits below
IsGood limits (AroundNot ∷ below) = IsGood limits below
IsGood limits (AroundMembers held ∷ below) = AreGrouped held × (1 + levels (frames below) + depths held ≤ limits.levels) × IsGood limits below
IsGood limits (AroundRight left op ∷ below) = (looseness left ≤ rank op) × IsGrouped left × (levels (frames below) + depth left ≤ limits.levels) × (rank op < room (frames below)) × IsGood limits below
IsGood limits (AroundYes condition ∷ below) = (looseness condition < 8) × IsGrouped condition × (levels (frames below) + depth condition ≤ limits.levels) × (8 < room (frames below)) × IsGood limits below
IsGood limits (AroundNo condition on_true ∷ below) = (looseness condition < 8) × IsGrouped condition × (levels (frames below) + depth condition ≤ limits.levels) × (8 < room (frames below)) × IsGrouped on_true × (1 + levels (frames below) + depth on_true ≤ limits.levels) × IsGood limits below

-- the name that a select may follow
abbrev pub bare_of : Source → Option ℕ
bare_of (Named name) = Some name
bare_of _ = None

-- the machine's state
abbrev pub state_of : List Around → Part → State
state_of stack Waiting = at (frames stack) Operand (spent stack)
state_of stack (Ended c) = at (frames stack) (After (bare_of c) (looseness c) (tree_of c)) (spent stack + operators c)
state_of stack (Amounting op c) = at (frames stack) (Amount op (tree_of c)) (spent stack + operators c + 1)
state_of stack (InSelect name) = at (frames stack) (Selecting name) (spent stack)
state_of stack (WithHigh name high) = at (frames stack) (Selected name high.value) (spent stack)
state_of stack (BeforeLow name high) = at (frames stack) (Lowing name high.value) (spent stack)
state_of stack (WithLow name high low) = at (frames stack) (Closing name high.value low.value) (spent stack)

-- the tokens so far, and then the rest
abbrev pub text_of : List Around → Part → List Token → List Token
text_of stack Waiting rest = before stack rest
text_of stack (Ended c) rest = before stack (written c rest)
text_of stack (Amounting op c) rest = before stack (written c (token.Shift op ∷ rest))
text_of stack (InSelect name) rest = before stack (token.Name name ∷ marked mark.OpenBracket rest)
text_of stack (WithHigh name high) rest = before stack (token.Name name ∷ marked mark.OpenBracket (token.Number high ∷ rest))
text_of stack (BeforeLow name high) rest = before stack (token.Name name ∷ marked mark.OpenBracket (token.Number high ∷ marked mark.Colon rest))
text_of stack (WithLow name high low) rest = before stack (token.Name name ∷ marked mark.OpenBracket (token.Number high ∷ marked mark.Colon (token.Number low ∷ rest)))

pub record IsOpen (limits : Limits) (stack : List Around) : Type 0 where
  pub in_levels : levels (frames stack) ≤ limits.levels
  pub in_operators : spent stack ≤ limits.operators

-- all that was read fits, within the limits
abbrev pub IsFine : Limits → List Around → Part → Type 0
IsFine limits stack (Ended c) = Fits limits (frames stack) (spent stack) c × IsGood limits stack × (looseness c ≤ 2)
IsFine limits stack (Amounting op c) = Fits limits (frames stack) (spent stack) (Shifted op c (record { value = 0; is_single = false })) × IsGood limits stack
IsFine limits stack _ = IsOpen limits stack × IsGood limits stack
