use Rattle.std.proofs.Common.{◌≡◌, ◌+◌, ◌-◌, ◌*◌, ◌^◌, ◌<◌, ◌≤◌, drop}
use Rattle.std.specs.Prelude.{IsTrue, slice_index}
use Rattle.verilog_tree.specs.Meaning.{all_fit, joined_bits, total_length}
use Rattle.verilog_tree.specs.View.{trees_view}
use Rattle.verilog_tree.proofs.evaluation.+evaluate.Given as goal

-- the bits so far stand above those of the members that are left
abbrev pub invariant-joined-loop-member : goal.invariant-joined-loop-member
invariant-joined-loop-member g l = record {
  value :
      l.bits * 2 ^ total_length (g.D.Declarations.shapes l.declarations) (trees_view (drop l.member-index l.members))
      + joined_bits (g.D.Declarations.shapes l.declarations) (trees_view (drop l.member-index l.members)) (λ n. slice_index l.values n)
      ≡ joined_bits (g.D.Declarations.shapes l.declarations) (trees_view l.members) (λ n. slice_index l.values n);
  small : l.bits < 2 ^ (total_length (g.D.Declarations.shapes l.declarations) (trees_view l.members)
      - total_length (g.D.Declarations.shapes l.declarations) (trees_view (drop l.member-index l.members)));
  left : total_length (g.D.Declarations.shapes l.declarations) (trees_view (drop l.member-index l.members))
      ≤ total_length (g.D.Declarations.shapes l.declarations) (trees_view l.members);
  fit : IsTrue (all_fit (g.D.Declarations.shapes l.declarations) (trees_view (drop l.member-index l.members)));
}
