use Rattle.std.proofs.Common.{List, ◌-◌, ◌^◌, min, ap, sym, ◌∙◌}
use Rattle.verilog_tree.specs.declared.tree.Expr.{Expr}
use Rattle.verilog_tree.specs.Tree as tree
use Rattle.verilog_tree.specs.Tree.{Tree}
use Rattle.verilog_tree.specs.Meaning.{length_of}
use Rattle.verilog_tree.specs.Names.{shapes_of}
use Rattle.verilog_tree.specs.Checks.{has_over}
use Rattle.verilog_tree.specs.View.{tree_view, trees_view, design_view}
use Rattle.verilog_tree.proofs.Views.{view-Cat}
use Rattle.verilog_check.proofs.widths.+extent_of.Goals as goal

pub extent_of-returns-in-Cat : goal.extent_of-returns-in-Cat
extent_of-returns-in-Cat t c =
    let shapes = shapes_of (design_view c.args.declared.now.design.now) in
    let viewed = ap tree_view c.in-Cat.is ∙ view-Cat c.in-Cat.members ∙ ap (λ (es : List Expr). tree.Cat (trees_view es)) (sym c.deref.ensures.value) in
    record {
      length = c.total_extent.ensures.length ∙ ap (λ (e : Tree). min (length_of shapes e) (2 ^ 32 - 1)) (sym viewed);
      over = c.total_extent.ensures.over ∙ ap (λ (e : Tree). has_over shapes e) (sym viewed);
    }
