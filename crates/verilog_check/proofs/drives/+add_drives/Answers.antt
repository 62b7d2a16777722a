use Rattle.std.proofs.Common.{List, OnOk, ap, subst, sym, ◌∙◌}
use Rattle.verilog_tree.specs.declared.tree.Stmt.{Stmt}
use Rattle.verilog_tree.specs.Tree as tree
use Rattle.verilog_tree.specs.Tree.{Action}
use Rattle.verilog_tree.specs.Checks.{action_drives}
use Rattle.verilog_tree.specs.View.{action_view, actions_view}
use Rattle.verilog_tree.proofs.Views.{view-Block}
use Rattle.verilog_check.specs.Adding.{Adds}
use Rattle.verilog_check.specs.Drives.{drive_view}
use Rattle.verilog_check.proofs.drives.+add_drives.Goals as goal

pub add_drives-returns-in-Block : goal.add_drives-returns-in-Block
add_drives-returns-in-Block t c =
    let viewed = ap action_view c.in-Block.is ∙ view-Block c.in-Block.parts ∙ ap (λ (ss : List Stmt). tree.Block (actions_view ss)) (sym c.deref.ensures.value) in
    subst (λ (a : Action). OnOk c.add_all_drives.result (Adds drive_view (action_drives c.args.driver a) c.args.drives.now.items c.add_all_drives.new.drives.items)) (sym viewed) c.add_all_drives.ensures
