use Rattle.std.proofs.Common.{List, ap, sym, ◌∙◌}
use Rattle.verilog_tree.specs.declared.tree.Expr.{Expr}
use Rattle.verilog_tree.specs.Tree.{Tree}
use Rattle.verilog_tree.specs.View.{tree_view, trees_view}
use Rattle.verilog_tree.proofs.Views.{view-Cat}
use Rattle.wire_levels.specs.Levels.{greatest, greatest_of, level_in}
use Rattle.wire_levels.proofs.signal_levels.+greatest.Goals as goal

pub greatest-returns-in-Cat : goal.greatest-returns-in-Cat
greatest-returns-in-Cat t c =
    c.greatest_of.ensures ∙ ap (λ (es : List Expr). greatest_of (level_in c.args.levels.now) (trees_view es)) c.deref.ensures.value
    ∙ ap (λ (e : Tree). greatest (level_in c.args.levels.now) e) (sym (ap tree_view c.in-Cat.is ∙ view-Cat c.in-Cat.members))
