-- A concatenation and a block in memory, whose parts stand in a vector, as trees.
use Rattle.std.proofs.Common.{◌≡◌, refl, ap, ◌∙◌}
use Rattle.std.specs.Prelude.{Vec}
use Rattle.std.specs.declared.alloc.Global.{Global}
use mathlib.Core.Former.{Count}
use Rattle.verilog_tree.specs.declared.tree.Expr.{Expr, Cat, Cat', Row_of-Expr, end_of-Expr, more_of-Expr, items-the_row-Expr, items_hidden-the_row-Expr-0}
use Rattle.verilog_tree.specs.declared.tree.Stmt.{Stmt, Block, Block', Row_of-Stmt, end_of-Stmt, more_of-Stmt, items-the_row-Stmt, items_hidden-the_row-Stmt-0}
use Rattle.verilog_tree.specs.Tree as tree
use Rattle.verilog_tree.specs.View.{tree_view, row_view, trees_view, action_view, actions_row, actions_view}

row_view-items : (n : _) (row : Row_of-Expr n) → row_view row ≡ trees_view (items-the_row-Expr n row)
row_view-items n end_of-Expr = refl
row_view-items n (more_of-Expr member rest) = ap (tree.more (tree_view member)) (row_view-items _ rest)

abbrev row_of : Expr → (n : Count) × Row_of-Expr n
row_of (Cat' _ row) = (_, row)
row_of _ = (_, end_of-Expr)

pub view-Cat : (members : Vec Expr Global) → tree_view (Cat members) ≡ tree.Cat (trees_view members.items)
view-Cat members = let row = row_of (Cat members) in ap tree.Cat (row_view-items row.0 row.1 ∙ ap trees_view (items_hidden-the_row-Expr-0 members))

actions_row-items : (n : _) (row : Row_of-Stmt n) → actions_row row ≡ actions_view (items-the_row-Stmt n row)
actions_row-items n end_of-Stmt = refl
actions_row-items n (more_of-Stmt member rest) = ap (tree.action (action_view member)) (actions_row-items _ rest)

abbrev actions_of : Stmt → (n : Count) × Row_of-Stmt n
actions_of (Block' _ row) = (_, row)
actions_of _ = (_, end_of-Stmt)

pub view-Block : (members : Vec Stmt Global) → action_view (Block members) ≡ tree.Block (actions_view members.items)
view-Block members = let row = actions_of (Block members) in ap tree.Block (actions_row-items row.0 row.1 ∙ ap actions_view (items_hidden-the_row-Stmt-0 members))
