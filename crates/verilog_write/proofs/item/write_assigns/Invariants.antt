use Rattle.std.proofs.Common.{◌≡◌, [], ◌++◌, drop}
use Rattle.std.specs.Prelude.{map}
use Rattle.verilog_tree.specs.View.{assignment_view}
use Rattle.verilog_text.specs.Text.{items_text}
use Rattle.verilog_text.specs.Shortest.{assigned_of}
use Rattle.verilog_write.proofs.item.write_assigns.Given as goal

-- what is written and what is left are the whole
abbrev pub invariant-loop-assign : goal.invariant-loop-assign
invariant-loop-assign l = l.out.items ++ items_text 0 (map assigned_of (map assignment_view (drop l.assign-index l.assigns))) [] ≡ l.initial.out.items ++ items_text 0 (map assigned_of (map assignment_view l.assigns)) []
