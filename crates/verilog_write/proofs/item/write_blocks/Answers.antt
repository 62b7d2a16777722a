use Rattle.std.proofs.Common.{◌≡◌, ◌+◌, List, [], ◌++◌, drop, ap, ◌∙◌}
use Rattle.std.specs.Prelude.{map}
use Rattle.verilog_tree.specs.declared.tree.Stmt.{Stmt}
use Rattle.verilog_tree.specs.View.{action_view}
use Rattle.verilog_text.specs.declared.token.Token.{Token}
use Rattle.verilog_text.specs.Text.{item_text, items_text}
use Rattle.verilog_text.specs.Shortest.{clocked_of}
use Rattle.verilog_write.proofs.Writings.{left, items_step}
use Rattle.verilog_write.proofs.item.write_blocks.Goals as goal

pub loop-block-preserved : goal.loop-block-preserved
loop-block-preserved c =
    let here = left c.args.blocks.now c.loop-block.block-index c.block-item.result c.loop-block-test.true c.block-item.is in
    let step = items_step c.args.clock c.loop-block.out.items (clocked_of (action_view c.block-item.result)) _ _ _ (ap (λ (xs : List Stmt). map clocked_of (map action_view xs)) here) c.loop-block.invariant in
    let wrote : c.write_block.new.out.items ≡ c.loop-block.out.items ++ item_text c.args.clock (clocked_of (action_view c.block-item.result)) [] = c.in_ok-write_block.ensures in
    ap (λ (ts : List Token). ts ++ items_text c.args.clock (map clocked_of (map action_view (drop (c.loop-block.block-index + 1) c.args.blocks.now))) []) wrote ∙ step
