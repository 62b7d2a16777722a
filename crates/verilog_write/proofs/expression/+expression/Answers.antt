use Rattle.std.proofs.Common.{◌≡◌, ◌+◌, List, [], ◌∷◌, ◌++◌, drop, sym, ap, ◌∙◌, subst}
use Rattle.std.specs.Prelude.{OnOk}
use Rattle.verilog_tree.specs.declared.tree.Expr.{Expr}
use Rattle.verilog_tree.specs.Tree.{Tree, Cat}
use Rattle.verilog_tree.specs.View.{tree_view, trees_view}
use Rattle.verilog_tree.proofs.Views.{view-Cat}
use Rattle.verilog_tree.proofs.Members.{members_left, members_end}
use Rattle.verilog_text.specs.declared.token.Mark.TheVariants.{Comma}
use Rattle.verilog_text.specs.declared.token.Token.{Token}
use Rattle.verilog_text.specs.declared.token.Token.TheVariants.{Punctuation}
use Rattle.verilog_text.specs.Grammar.{written, written_members}
use Rattle.verilog_text.specs.Shortest.{spelling, spellings}
use Rattle.verilog_write.proofs.Writings.{members_step, members_done}
use Rattle.verilog_write.proofs.expression.+expression.Goals as goal

pub write_expression-returns-in-Cat : goal.write_expression-returns-in-Cat
write_expression-returns-in-Cat t c =
    let e = ap tree_view c.in-Cat.is ∙ view-Cat c.in-Cat.members ∙ ap (λ (es : List Expr). Cat (trees_view es)) (sym c.deref.ensures.value) in
    subst (λ (x : Tree). OnOk c.write_members.result (c.write_members.new.out.items ≡ c.args.out.now.items ++ written (spelling x) [])) (sym e) c.write_members.ensures

pub write_members-returns : goal.write_members-returns
write_members-returns t c =
    let left = members_end c.args.members.now c.loop-member.member-index c.loop-member-test.false in
    let done = members_done c.loop-member.out.items c.loop-member.separator _ _ left c.loop-member.invariant in
    subst (λ (ts : List Token). OnOk c.put_mark-2.result (c.put_mark-2.new.out.items ≡ ts)) done c.put_mark-2.ensures

pub write_members-loop-member-preserved : goal.write_members-loop-member-preserved
write_members-loop-member-preserved t c =
    let left = members_left c.args.members.now c.loop-member.member-index c.member-item.result c.loop-member-test.true c.member-item.is in
    let step = members_step c.loop-member.out.items c.loop-member.separator (tree_view c.member-item.result) _ _ _ left c.loop-member.invariant in
    let separated : c.put_mark.new.out.items ≡ c.loop-member.out.items ++ Punctuation c.loop-member.separator ∷ [] = c.in_ok-put_mark.ensures in
    let wrote : c.write_expression.new.out.items ≡ c.put_mark.new.out.items ++ written (spelling (tree_view c.member-item.result)) [] = c.in_ok-write_expression.ensures in
    ap (λ (ts : List Token). ts ++ written_members Comma (spellings (trees_view (drop (c.loop-member.member-index + 1) c.args.members.now))) [])
    (wrote ∙ ap (λ (ts : List Token). ts ++ written (spelling (tree_view c.member-item.result)) []) separated) ∙ step
