-- One more member of a concatenation or a block.
use Rattle.std.proofs.Common.{◌≡◌, List, [], ◌∷◌, ◌++◌, refl, ap}
use Rattle.verilog_tree.specs.declared.tree.Expr.{Expr}
use Rattle.verilog_tree.specs.declared.tree.Stmt.{Stmt}
use Rattle.verilog_tree.specs.Tree.{more, action}
use Rattle.verilog_tree.specs.View.{tree_view, trees_view, action_view, actions_view}
use Rattle.verilog_text.specs.Machine as machine
use Rattle.verilog_text.specs.StatementMachine as statement

pub trees_view-append : (xs : List Expr) (x : Expr) → trees_view (xs ++ x ∷ []) ≡ machine.with_last (trees_view xs) (tree_view x)
trees_view-append [] x = refl
trees_view-append (y ∷ xs) x = ap (more (tree_view y)) (trees_view-append xs x)

pub actions_view-append : (xs : List Stmt) (x : Stmt) → actions_view (xs ++ x ∷ []) ≡ statement.with_last (actions_view xs) (action_view x)
actions_view-append [] x = refl
actions_view-append (y ∷ xs) x = ap (action (action_view y)) (actions_view-append xs x)
