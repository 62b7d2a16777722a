use Rattle.std.proofs.Common.{◌≡◌, [], ◌++◌, drop}
use Rattle.std.specs.Prelude.{map}
use Rattle.verilog_tree.specs.View.{action_view}
use Rattle.verilog_text.specs.Text.{items_text}
use Rattle.verilog_text.specs.Shortest.{clocked_of}
use Rattle.verilog_write.proofs.item.write_blocks.Given as goal

-- what is written and what is left are the whole
abbrev pub invariant-loop-block : goal.invariant-loop-block
invariant-loop-block l = l.out.items ++ items_text l.clock (map clocked_of (map action_view (drop l.block-index l.blocks))) [] ≡ l.initial.out.items ++ items_text l.clock (map clocked_of (map action_view l.blocks)) []
