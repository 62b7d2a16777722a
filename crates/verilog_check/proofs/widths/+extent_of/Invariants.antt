use Rattle.std.proofs.Common.{◌≡◌, ◌+◌, ◌-◌, ◌^◌, ◌≤◌, ◌||◌, min, drop}
use Rattle.verilog_tree.specs.Meaning.{total_length}
use Rattle.verilog_tree.specs.Names.{shapes_of}
use Rattle.verilog_tree.specs.Checks.{any_over}
use Rattle.verilog_tree.specs.View.{trees_view, design_view}
use Rattle.verilog_check.proofs.widths.+extent_of.Given as goal

abbrev pub invariant-total_extent-loop-member : goal.invariant-total_extent-loop-member
invariant-total_extent-loop-member l = record {
  total :
      min (l.length + total_length (shapes_of (design_view l.declared.design.now)) (trees_view (drop l.member-index l.members))) (2 ^ 32 - 1)
      ≡ min (total_length (shapes_of (design_view l.declared.design.now)) (trees_view l.members)) (2 ^ 32 - 1);
  small : l.length ≤ 2 ^ 32 - 1;
  over : (l.over || any_over (shapes_of (design_view l.declared.design.now)) (trees_view (drop l.member-index l.members))) ≡ any_over (shapes_of (design_view l.declared.design.now)) (trees_view l.members);
}
