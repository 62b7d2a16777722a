use Rattle.std.proofs.Common.{List, OnOk, ap, subst, sym, ◌∙◌}
use Rattle.verilog_tree.specs.declared.tree.Stmt.{Stmt}
use Rattle.verilog_tree.specs.Tree as tree
use Rattle.verilog_tree.specs.Tree.{Action}
use Rattle.verilog_tree.specs.Checks.{action_uses}
use Rattle.verilog_tree.specs.View.{action_view, actions_view}
use Rattle.verilog_tree.proofs.Views.{view-Block}
use Rattle.verilog_check.specs.Adding.{Adds}
use Rattle.verilog_check.specs.Uses.{use_view}
use Rattle.verilog_check.proofs.uses.+add_uses.Goals as goal

pub add_uses-returns-in-Block : goal.add_uses-returns-in-Block
add_uses-returns-in-Block t c =
    let viewed = ap action_view c.in-Block.is ∙ view-Block c.in-Block.parts ∙ ap (λ (ss : List Stmt). tree.Block (actions_view ss)) (sym c.deref.ensures.value) in
    subst (λ (a : Action). OnOk c.add_all_uses.result (Adds use_view (action_uses a) c.args.uses.now.items c.add_all_uses.new.uses.items)) (sym viewed) c.add_all_uses.ensures
