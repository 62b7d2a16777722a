use Rattle.std.proofs.Common.{List, ap, subst, sym, ◌∙◌}
use Rattle.std.specs.Option.{option_map}
use Rattle.verilog_tree.specs.declared.tree.Stmt.{Stmt}
use Rattle.verilog_tree.specs.Tree as tree
use Rattle.verilog_tree.specs.Tree.{Action}
use Rattle.verilog_tree.specs.Checks.{action_sides}
use Rattle.verilog_tree.specs.View.{action_view, actions_view, design_view}
use Rattle.verilog_tree.proofs.Views.{view-Block}
use Rattle.verilog_check.specs.Widths.{told_view, FindsOver}
use Rattle.verilog_check.proofs.widths.+first_over.Goals as goal

pub first_over-returns-in-Block : goal.first_over-returns-in-Block
first_over-returns-in-Block t c =
    let d = design_view c.args.declared.now.design.now in
    let viewed = ap action_view c.in-Block.is ∙ view-Block c.in-Block.parts ∙ ap (λ (ss : List Stmt). tree.Block (actions_view ss)) (sym c.deref.ensures.value) in
    subst (λ (a : Action). FindsOver d (action_sides d a) (option_map (told_view d) c.first_over_of.result)) (sym viewed) c.first_over_of.ensures
