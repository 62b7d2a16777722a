-- Expressions: as they are written, the tokens that they are written with, and the trees that they stand for.
-- The operators bind as in IEEE 1364-2001, 4.1.2, but for those that the subset leaves out.
use Rattle.std.specs.Prelude.{◌≡◌, ℕ, ◌+◌, ◌<◌, ◌≤◌, max, Bool, true, false, List, ◌∷◌}
use Rattle.verilog_tree.specs.declared.tree.Op.{Op}
use Rattle.verilog_tree.specs.declared.tree.Op.TheVariants as op
use Rattle.verilog_tree.specs.declared.tree.ShiftOp.{ShiftOp}
use Rattle.verilog_tree.specs.Tree as tree
use Rattle.verilog_tree.specs.Tree.{Tree, Trees}
use Rattle.verilog_text.specs.declared.token.Decimal.{Decimal}
use Rattle.verilog_text.specs.declared.token.Literal.{Literal}
use Rattle.verilog_text.specs.declared.token.Mark.{Mark}
use Rattle.verilog_text.specs.declared.token.Mark.TheVariants as mark
use Rattle.verilog_text.specs.declared.token.Token.{Token}
use Rattle.verilog_text.specs.declared.token.Token.TheVariants as token

-- an expression with its brackets
mutual
  pub data Source : Type 0 where
    Named : (name : ℕ) → Source
    BitOf : (name : ℕ) (place : Decimal) → Source
    PartOf : (name : ℕ) (high low : Decimal) → Source
    Number : (number : Decimal) → Source
    Based : (literal : Literal) → Source
    Bracketed : (inner : Source) → Source
    Joined : (members : Sources) → Source
    Inverted : (operand : Source) → Source
    Operated : (op : Op) (left right : Source) → Source
    Shifted : (op : ShiftOp) (operand : Source) (amount : Decimal) → Source
    Chosen : (condition on_true on_false : Source) → Source

  pub data Sources : Type 0 where
    no_member : Sources
    member : (first : Source) (rest : Sources) → Sources

abbrev pub marked : Mark → List Token → List Token
marked m rest = token.Punctuation m ∷ rest

-- its tokens, and then the rest
abbrev mutual
  pub written : Source → List Token → List Token
  written (Named name) rest = token.Name name ∷ rest
  written (BitOf name place) rest = token.Name name ∷ marked mark.OpenBracket (token.Number place ∷ marked mark.CloseBracket rest)
  written (PartOf name high low) rest = token.Name name ∷ marked mark.OpenBracket (token.Number high ∷ marked mark.Colon (token.Number low ∷ marked mark.CloseBracket rest))
  written (Number number) rest = token.Number number ∷ rest
  written (Based literal) rest = token.Based literal ∷ rest
  written (Bracketed inner) rest = marked mark.Open (written inner (marked mark.Close rest))
  written (Joined members) rest = written_members mark.OpenBrace members rest
  written (Inverted operand) rest = marked mark.Inverse (written operand rest)
  written (Operated op left right) rest = written left (token.Operator op ∷ written right rest)
  written (Shifted op operand amount) rest = written operand (token.Shift op ∷ token.Number amount ∷ rest)
  written (Chosen condition on_true on_false) rest = written condition (marked mark.Question (written on_true (marked mark.Colon (written on_false rest))))

  -- each member behind this mark, the first, or behind a comma
  pub written_members : Mark → Sources → List Token → List Token
  written_members m no_member rest = marked mark.CloseBrace rest
  written_members m (member first members) rest = marked m (written first (written_members mark.Comma members rest))

-- the tree, in which brackets leave no trace
abbrev mutual
  pub tree_of : Source → Tree
  tree_of (Named name) = tree.Name name
  tree_of (BitOf name place) = tree.Bit name place.value
  tree_of (PartOf name high low) = tree.Part name high.value low.value
  tree_of (Number number) = tree.Plain number.value
  tree_of (Based literal) = tree.Based literal.width literal.signed literal.bits
  tree_of (Bracketed inner) = tree_of inner
  tree_of (Joined members) = tree.Cat (trees_of members)
  tree_of (Inverted operand) = tree.Not (tree_of operand)
  tree_of (Operated op left right) = tree.Binary op (tree_of left) (tree_of right)
  tree_of (Shifted op operand amount) = tree.Shift op (tree_of operand) amount.value
  tree_of (Chosen condition on_true on_false) = tree.Choice (tree_of condition) (tree_of on_true) (tree_of on_false)

  pub trees_of : Sources → Trees
  trees_of no_member = tree.none
  trees_of (member first members) = tree.more (tree_of first) (trees_of members)

-- how loosely an operator binds: `+` and `-` the tightest, then shifts with 2, and `? :` the loosest with 8
abbrev pub rank : Op → ℕ
rank op.Add = 1
rank op.Sub = 1
rank op.Less = 3
rank op.LessEqual = 3
rank op.Greater = 3
rank op.GreaterEqual = 3
rank op.Equal = 4
rank op.NotEqual = 4
rank op.And = 5
rank op.Xor = 6
rank op.Or = 7

-- the rank of the operator outside all brackets, 0 where there is none
abbrev pub looseness : Source → ℕ
looseness (Named name) = 0
looseness (BitOf name place) = 0
looseness (PartOf name high low) = 0
looseness (Number number) = 0
looseness (Based literal) = 0
looseness (Bracketed inner) = 0
looseness (Joined members) = 0
looseness (Inverted operand) = 0
looseness (Operated op left right) = rank op
looseness (Shifted op operand amount) = 2
looseness (Chosen condition on_true on_false) = 8

abbrev pub is_plain : Tree → Bool
is_plain (tree.Name name) = false
is_plain (tree.Bit name place) = false
is_plain (tree.Part name high low) = false
is_plain (tree.Plain value) = true
is_plain (tree.Based width signed bits) = false
is_plain (tree.Cat members) = false
is_plain (tree.Not operand) = false
is_plain (tree.Binary op left right) = false
is_plain (tree.Shift op operand amount) = false
is_plain (tree.Choice condition on_true on_false) = false

abbrev pub HasMember : Sources → Type 0
HasMember no_member = ⊥
HasMember (member first members) = Unit {0}

-- operands bind tighter than their operator, and on the left of a binary one as tight as it; there is a member, and none is a number without a size, also in brackets
abbrev mutual
  pub IsGrouped : Source → Type 0
  IsGrouped (Named name) = Unit {0}
  IsGrouped (BitOf name place) = Unit {0}
  IsGrouped (PartOf name high low) = Unit {0}
  IsGrouped (Number number) = Unit {0}
  IsGrouped (Based literal) = Unit {0}
  IsGrouped (Bracketed inner) = IsGrouped inner
  IsGrouped (Joined members) = HasMember members × AreGrouped members
  IsGrouped (Inverted operand) = (looseness operand < 1) × IsGrouped operand
  IsGrouped (Operated op left right) = (looseness left ≤ rank op) × (looseness right < rank op) × IsGrouped left × IsGrouped right
  IsGrouped (Shifted op operand amount) = (looseness operand ≤ 2) × (amount.value < 128) × IsGrouped operand
  IsGrouped (Chosen condition on_true on_false) = (looseness condition < 8) × IsGrouped condition × IsGrouped on_true × IsGrouped on_false

  pub AreGrouped : Sources → Type 0
  AreGrouped no_member = Unit {0}
  AreGrouped (member first members) = (is_plain (tree_of first) ≡ false) × IsGrouped first × AreGrouped members

-- how many levels are open at once
abbrev mutual
  pub depth : Source → ℕ
  depth (Named name) = 0
  depth (BitOf name place) = 0
  depth (PartOf name high low) = 0
  depth (Number number) = 0
  depth (Based literal) = 0
  depth (Bracketed inner) = 1 + depth inner
  depth (Joined members) = 1 + depths members
  depth (Inverted operand) = 1 + depth operand
  depth (Operated op left right) = max (depth left) (depth right)
  depth (Shifted op operand amount) = depth operand
  depth (Chosen condition on_true on_false) = max (depth condition) (1 + max (depth on_true) (depth on_false))

  pub depths : Sources → ℕ
  depths no_member = 0
  depths (member first members) = max (depth first) (depths members)

-- how many binary operators there are, shifts among them
abbrev mutual
  pub operators : Source → ℕ
  operators (Named name) = 0
  operators (BitOf name place) = 0
  operators (PartOf name high low) = 0
  operators (Number number) = 0
  operators (Based literal) = 0
  operators (Bracketed inner) = operators inner
  operators (Joined members) = operators_in members
  operators (Inverted operand) = operators operand
  operators (Operated op left right) = operators left + 1 + operators right
  operators (Shifted op operand amount) = operators operand + 1
  operators (Chosen condition on_true on_false) = operators condition + operators on_true + operators on_false

  pub operators_in : Sources → ℕ
  operators_in no_member = 0
  operators_in (member first members) = operators first + operators_in members

pub record Limits : Type 0 where
  pub levels : ℕ
  pub operators : ℕ

-- 200 levels may be open at once, and one right side or condition has at most 1,000 binary operators
abbrev pub limits : Limits
limits = record { levels = 200; operators = 1000 }
