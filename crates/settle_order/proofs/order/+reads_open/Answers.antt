use Rattle.std.proofs.Common.{List, ap, sym, ◌∙◌}
use Rattle.verilog_tree.specs.declared.tree.Expr.{Expr}
use Rattle.verilog_tree.specs.Tree.{Tree}
use Rattle.verilog_tree.specs.View.{tree_view, trees_view}
use Rattle.verilog_tree.proofs.Views.{view-Cat}
use Rattle.settle_order.specs.Placing.{reads_open, any_reads_open, opened_of}
use Rattle.settle_order.proofs.order.+reads_open.Goals as goal

pub reads_open-returns-in-Cat : goal.reads_open-returns-in-Cat
reads_open-returns-in-Cat t c =
    c.any_reads_open.ensures ∙ ap (λ (es : List Expr). any_reads_open (opened_of c.args.opened.now) (trees_view es)) c.deref.ensures.value
    ∙ ap (λ (e : Tree). reads_open (opened_of c.args.opened.now) e) (sym (ap tree_view c.in-Cat.is ∙ view-Cat c.in-Cat.members))
