-- Statements: as they are written, the tokens that they are written with, and the trees that they stand for.
use Rattle.std.specs.Prelude.{ℕ, ◌+◌, ◌<◌, ◌≤◌, max, List, ◌∷◌}
use Rattle.verilog_tree.specs.declared.tree.Op.TheVariants.{LessEqual}
use Rattle.verilog_tree.specs.Tree as tree
use Rattle.verilog_tree.specs.Tree.{Action, Actions}
use Rattle.verilog_text.specs.declared.token.Word.{Word}
use Rattle.verilog_text.specs.declared.token.Word.TheVariants as word
use Rattle.verilog_text.specs.declared.token.Mark.TheVariants as mark
use Rattle.verilog_text.specs.declared.token.Token.{Token}
use Rattle.verilog_text.specs.declared.token.Token.TheVariants as token
use Rattle.verilog_text.specs.Grammar.{Source, written, marked, tree_of, IsGrouped, depth, operators}

mutual
  pub data Statement : Type 0 where
    Block : (members : Statements) → Statement
    Guarded : (condition : Source) (on_true : Statement) → Statement
    Forked : (condition : Source) (on_true on_false : Statement) → Statement
    Given : (register : ℕ) (value : Source) → Statement

  pub data Statements : Type 0 where
    none : Statements
    more : (first : Statement) (rest : Statements) → Statements

abbrev pub worded : Word → List Token → List Token
worded w rest = token.Keyword w ∷ rest

abbrev pub if_text : Source → List Token → List Token
if_text condition rest = worded word.If (marked mark.Open (written condition (marked mark.Close rest)))

-- its tokens, and then the rest
abbrev mutual
  pub statement_text : Statement → List Token → List Token
  statement_text (Block members) rest = worded word.Begin (statements_text members (worded word.End rest))
  statement_text (Guarded condition on_true) rest = if_text condition (statement_text on_true rest)
  statement_text (Forked condition on_true on_false) rest = if_text condition (statement_text on_true (worded word.Else (statement_text on_false rest)))
  statement_text (Given register value) rest = token.Name register ∷ token.Operator LessEqual ∷ written value (marked mark.Semicolon rest)

  pub statements_text : Statements → List Token → List Token
  statements_text none rest = rest
  statements_text (more first others) rest = statement_text first (statements_text others rest)

abbrev mutual
  pub action_of : Statement → Action
  action_of (Block members) = tree.Block (actions_of members)
  action_of (Guarded condition on_true) = tree.When (tree_of condition) (action_of on_true)
  action_of (Forked condition on_true on_false) = tree.Either (tree_of condition) (action_of on_true) (action_of on_false)
  action_of (Given register value) = tree.Give register (tree_of value)

  pub actions_of : Statements → Actions
  actions_of none = tree.no_action
  actions_of (more first others) = tree.action (action_of first) (actions_of others)

-- 1 where an `else` behind the statement would belong to an `if` in it, and 0 else
abbrev pub openness : Statement → ℕ
openness (Block members) = 0
openness (Guarded condition on_true) = 1
openness (Forked condition on_true on_false) = openness on_false
openness (Given register value) = 0

-- each expression is grouped, and no `else` is taken from a nearer `if`
abbrev mutual
  pub IsParted : Statement → Type 0
  IsParted (Block members) = AreParted members
  IsParted (Guarded condition on_true) = IsGrouped condition × IsParted on_true
  IsParted (Forked condition on_true on_false) = IsGrouped condition × (openness on_true < 1) × IsParted on_true × IsParted on_false
  IsParted (Given register value) = IsGrouped value

  pub AreParted : Statements → Type 0
  AreParted none = Unit {0}
  AreParted (more first others) = IsParted first × AreParted others

-- how many levels are open at once: `begin` and `if` each open one until what they open ends, and the `(` behind an `if` opens none
abbrev mutual
  pub height : Statement → ℕ
  height (Block members) = 1 + heights members
  height (Guarded condition on_true) = 1 + max (depth condition) (height on_true)
  height (Forked condition on_true on_false) = 1 + max (depth condition) (max (height on_true) (height on_false))
  height (Given register value) = depth value

  pub heights : Statements → ℕ
  heights none = 0
  heights (more first others) = max (height first) (heights others)

-- no right side and no condition has more operators than this
abbrev mutual
  pub IsShort : ℕ → Statement → Type 0
  IsShort most (Block members) = AreShort most members
  IsShort most (Guarded condition on_true) = (operators condition ≤ most) × IsShort most on_true
  IsShort most (Forked condition on_true on_false) = (operators condition ≤ most) × IsShort most on_true × IsShort most on_false
  IsShort most (Given register value) = operators value ≤ most

  pub AreShort : ℕ → Statements → Type 0
  AreShort most none = Unit {0}
  AreShort most (more first others) = IsShort most first × AreShort most others
