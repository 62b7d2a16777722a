use Rattle.std.proofs.Common.{◌≡◌, ◌+◌, ◌-◌, ◌^◌, ◌≤◌, min, drop}
use Rattle.verilog_tree.specs.Meaning.{total_length}
use Rattle.verilog_tree.specs.View.{trees_view}
use Rattle.verilog_tree.proofs.shape.+length.Given as goal

abbrev pub invariant-total_in-loop-member : goal.invariant-total_in-loop-member
invariant-total_in-loop-member g l = record {
  total :
      min (l.total + total_length (g.D.Declarations.shapes l.declarations) (trees_view (drop l.member-index l.members))) (2 ^ 32 - 1)
      ≡ min (total_length (g.D.Declarations.shapes l.declarations) (trees_view l.members)) (2 ^ 32 - 1);
  small : l.total ≤ 2 ^ 32 - 1;
}
