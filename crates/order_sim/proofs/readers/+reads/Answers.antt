use Rattle.std.proofs.Common.{List, ap, sym, ◌∙◌}
use Rattle.verilog_tree.specs.declared.tree.Expr.{Expr}
use Rattle.verilog_tree.specs.Cycle.{reads, any_reads}
use Rattle.verilog_tree.specs.Tree.{Tree}
use Rattle.verilog_tree.specs.View.{tree_view, trees_view}
use Rattle.verilog_tree.proofs.Views.{view-Cat}
use Rattle.order_sim.proofs.readers.+reads.Goals as goal

pub reads-returns-in-Cat : goal.reads-returns-in-Cat
reads-returns-in-Cat t c =
    c.any_reads.ensures ∙ ap (λ (es : List Expr). any_reads (trees_view es) c.args.name) c.deref.ensures.value
    ∙ ap (λ (e : Tree). reads e c.args.name) (sym (ap tree_view c.in-Cat.is ∙ view-Cat c.in-Cat.members))
