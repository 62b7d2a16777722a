-- A module in memory as a module.
use Rattle.std.specs.Prelude.{List, [], ◌∷◌, map}
use Rattle.verilog_tree.specs.declared.tree.Expr.{Expr, Name, Bit, Part, Plain, Based, Cat', Not', Binary', Shift', Cond', Row_of-Expr, end_of-Expr, more_of-Expr}
use Rattle.verilog_tree.specs.declared.tree.Stmt.{Stmt, Block', If', Set, Row_of-Stmt, end_of-Stmt, more_of-Stmt, Held-Stmt-If-2, None', Some'}
use Rattle.verilog_tree.specs.declared.tree.Assign.{Assign}
use Rattle.verilog_tree.specs.declared.tree.Module.{Module}
use Rattle.verilog_tree.specs.Tree as tree
use Rattle.verilog_tree.specs.Tree.{Tree, Trees, Action, Actions, Assignment, Design}

abbrev mutual
  pub tree_view : Expr → Tree
  tree_view (Name name) = tree.Name name
  tree_view (Bit name place) = tree.Bit name place
  tree_view (Part name high low) = tree.Part name high low
  tree_view (Plain value) = tree.Plain value
  tree_view (Based width signed bits) = tree.Based width signed bits
  tree_view (Cat' shape all) = tree.Cat (row_view all)
  tree_view (Not' p operand) = tree.Not (tree_view operand)
  tree_view (Binary' op p left q right) = tree.Binary op (tree_view left) (tree_view right)
  tree_view (Shift' op p operand amount) = tree.Shift op (tree_view operand) amount
  tree_view (Cond' p condition q on_true r on_false) = tree.Choice (tree_view condition) (tree_view on_true) (tree_view on_false)

  pub row_view : {m : _} → Row_of-Expr m → Trees
  row_view end_of-Expr = tree.none
  row_view (more_of-Expr member rest) = tree.more (tree_view member) (row_view rest)

-- the members of a concatenation
abbrev pub trees_view : List Expr → Trees
trees_view [] = tree.none
trees_view (member ∷ rest) = tree.more (tree_view member) (trees_view rest)

abbrev mutual
  pub action_view : Stmt → Action
  action_view (Block' shape all) = tree.Block (actions_row all)
  action_view (If' condition p on_true otherwise) = if_view condition (action_view on_true) otherwise
  action_view (Set register value) = tree.Give register (tree_view value)

  pub if_view : Expr → Action → Held-Stmt-If-2 → Action
  if_view condition on_true None' = tree.When (tree_view condition) on_true
  if_view condition on_true (Some' p on_false) = tree.Either (tree_view condition) on_true (action_view on_false)

  pub actions_row : {m : _} → Row_of-Stmt m → Actions
  actions_row end_of-Stmt = tree.no_action
  actions_row (more_of-Stmt member rest) = tree.action (action_view member) (actions_row rest)

-- the statements of a block
abbrev pub actions_view : List Stmt → Actions
actions_view [] = tree.no_action
actions_view (member ∷ rest) = tree.action (action_view member) (actions_view rest)

abbrev pub assignment_view : Assign → Assignment
assignment_view assign = record { target = assign.target; value = tree_view assign.value }

abbrev pub design_view : Module → Design
design_view m = record {
  name = m.name;
  names = m.names.items;
  signals = m.signals.items;
  assigns = map assignment_view m.assigns.items;
  blocks = map action_view m.blocks.items;
}
