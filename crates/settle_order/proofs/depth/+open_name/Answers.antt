use Rattle.std.proofs.Common.{◌≡◌, List, ℕ, true, false, ap, subst, sym, ◌∙◌, MatchOption}
use Rattle.verilog_tree.specs.declared.tree.Expr.{Expr}
use Rattle.verilog_tree.specs.Tree as tree
use Rattle.verilog_tree.specs.Tree.{Tree}
use Rattle.verilog_tree.specs.View.{tree_view, trees_view}
use Rattle.verilog_tree.proofs.Views.{view-Cat}
use Rattle.settle_order.specs.Placing.{reads_open, opened_of}
use Rattle.settle_order.proofs.depth.+open_name.Goals as goal

pub open_name-returns-in-Cat : goal.open_name-returns-in-Cat
open_name-returns-in-Cat t c =
    let opened = opened_of c.args.opened.now in
    let viewed = ap tree_view c.in-Cat.is ∙ view-Cat c.in-Cat.members ∙ ap (λ (es : List Expr). tree.Cat (trees_view es)) (sym c.deref.ensures.value) in
    subst (λ (e : Tree). MatchOption c.open_name_of.result (reads_open opened e ≡ false) (λ (found : ℕ). opened found ≡ true)) (sym viewed) c.open_name_of.ensures
