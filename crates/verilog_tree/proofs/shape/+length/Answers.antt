use Rattle.std.proofs.Common.{List, min, sym, ap, ◌∙◌, arith}
use Rattle.verilog_tree.specs.declared.tree.Expr.{Expr}
use Rattle.verilog_tree.specs.Tree.{Tree, Trees}
use Rattle.verilog_tree.specs.Meaning.{length_of, total_length}
use Rattle.verilog_tree.specs.View.{tree_view, trees_view}
use Rattle.verilog_tree.proofs.Views.{view-Cat}
use Rattle.verilog_tree.proofs.Members.{members_end}
use Rattle.verilog_tree.proofs.shape.+length.Goals as goal

pub length_in-returns-in-Cat : goal.length_in-returns-in-Cat
length_in-returns-in-Cat g t c =
    let shapes = g.D.Declarations.shapes c.args.declarations.now in
    c.total_in.ensures ∙ ap (λ (es : List Expr). min (total_length shapes (trees_view es)) 4294967295) c.deref.ensures.value
    ∙ ap (λ (e : Tree). min (length_of shapes e) 4294967295) (sym (ap tree_view c.in-Cat.is ∙ view-Cat c.in-Cat.members))

pub total_in-returns : goal.total_in-returns
total_in-returns g t c =
    let shapes = g.D.Declarations.shapes c.args.declarations.now in
    let none_left = ap (λ (es : Trees). total_length shapes es) (members_end c.args.members.now c.loop-member.member-index c.loop-member-test.false) in
    omega (arith, none_left, c.loop-member.invariant.total, c.loop-member.invariant.small)
