use Rattle.std.proofs.Common.{List, OnOk, ap, subst, sym, ◌∙◌}
use Rattle.verilog_tree.specs.declared.tree.Expr.{Expr}
use Rattle.verilog_tree.specs.Tree as tree
use Rattle.verilog_tree.specs.Tree.{Tree}
use Rattle.verilog_tree.specs.Checks.{tree_uses}
use Rattle.verilog_tree.specs.View.{tree_view, trees_view}
use Rattle.verilog_tree.proofs.Views.{view-Cat}
use Rattle.verilog_check.specs.Adding.{Adds}
use Rattle.verilog_check.specs.Uses.{use_view}
use Rattle.verilog_check.proofs.uses.+add_reads.Goals as goal

pub add_reads-returns-in-Cat : goal.add_reads-returns-in-Cat
add_reads-returns-in-Cat t c =
    let viewed = ap tree_view c.in-Cat.is ∙ view-Cat c.in-Cat.members ∙ ap (λ (es : List Expr). tree.Cat (trees_view es)) (sym c.deref.ensures.value) in
    subst (λ (e : Tree). OnOk c.add_all_reads.result (Adds use_view (tree_uses e) c.args.uses.now.items c.add_all_reads.new.uses.items)) (sym viewed) c.add_all_reads.ensures
