use Rattle.std.proofs.Common.{◌≡◌, ◌+◌, List, [], ◌∷◌, ◌++◌, drop, sym, ap, ◌∙◌, subst}
use Rattle.std.specs.Prelude.{OnOk}
use Rattle.verilog_tree.specs.declared.tree.Stmt.{Stmt}
use Rattle.verilog_tree.specs.Tree.{Block}
use Rattle.verilog_tree.specs.View.{action_view, actions_view}
use Rattle.verilog_tree.proofs.Views.{view-Block}
use Rattle.verilog_text.specs.declared.token.Word.TheVariants.{Begin}
use Rattle.verilog_text.specs.declared.token.Token.{Token}
use Rattle.verilog_text.specs.declared.token.Token.TheVariants.{Keyword}
use Rattle.verilog_text.specs.Statements.{statement_text, statements_text}
use Rattle.verilog_text.specs.Shortest.{statement_of, statements_of}
use Rattle.verilog_write.proofs.Writings.{block_step, statements_step, statements_left}
use Rattle.verilog_write.proofs.statement.+statement.Goals as goal

pub write_statement-returns-in_ok-write_statements-in-Block : goal.write_statement-returns-in_ok-write_statements-in-Block
write_statement-returns-in_ok-write_statements-in-Block t c =
    let e = ap action_view c.in-Block.is ∙ view-Block c.in-Block.members ∙ ap (λ (ss : List Stmt). Block (actions_view ss)) (sym c.deref.ensures.value) in
    let first : c.put_word.new.out.items ≡ c.args.out.now.items ++ Keyword Begin ∷ [] = c.in_ok-put_word-in-Block.ensures in
    let second : c.write_statements.new.out.items ≡ c.put_word.new.out.items ++ statements_text (statements_of (actions_view c.deref.result.now)) [] = c.in_ok-write_statements-in-Block.ensures in
    let step = block_step c.args.out.now.items _ _ _ _ first second e in
    subst (λ (ts : List Token). OnOk c.put_word-in-Block.result (c.put_word-in-Block.new.out.items ≡ ts)) step c.put_word-in-Block.ensures

pub write_statements-loop-statement-preserved : goal.write_statements-loop-statement-preserved
write_statements-loop-statement-preserved t c =
    let left = statements_left c.args.statements.now c.loop-statement.statement-index c.statement-item.result c.loop-statement-test.true c.statement-item.is in
    let step = statements_step c.loop-statement.out.items (action_view c.statement-item.result) _ _ _ left c.loop-statement.invariant in
    let wrote : c.write_statement.new.out.items ≡ c.loop-statement.out.items ++ statement_text (statement_of (action_view c.statement-item.result)) [] = c.in_ok-write_statement.ensures in
    ap (λ (ts : List Token). ts ++ statements_text (statements_of (actions_view (drop (c.loop-statement.statement-index + 1) c.args.statements.now))) []) wrote ∙ step
