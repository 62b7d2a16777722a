use Rattle.std.proofs.Common.{◌≡◌, ℕ, ◌+◌, ◌/◌, ◌<◌, ◌≤◌, slice_get, Some}
use Rattle.signed_digit.specs.declared.term_list.Term.{Term}
use Rattle.net_graph.specs.Cells.{cell_at}
use Rattle.folded_fir.specs.Operands.{node_at}
use Rattle.folded_fir.proofs.operands.widest.Given as goal

abbrev pub invariant-loop-term : goal.invariant-loop-term
invariant-loop-term l = record {
  some : 1 ≤ l.width;
  most : l.width ≤ 128;
  below : (k : ℕ) (t : Term) → k < l.term-index → slice_get l.fn.terms k ≡ Some (Some t) → (cell_at l.fn.net.cells (node_at l.fn.copies (t.index / l.fn.up)).place).width + t.place ≤ l.width;
}
