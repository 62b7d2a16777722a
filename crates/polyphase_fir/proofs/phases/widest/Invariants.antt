use Rattle.std.proofs.Common.{◌≡◌, ℕ, ◌<◌, slice_get, Some}
use Rattle.net_graph.specs.declared.cell.Node.{Node}
use Rattle.net_graph.specs.WellFormed.{IsWidth}
use Rattle.pipeline_balance.specs.Phase.{IsNarrow}
use Rattle.polyphase_fir.proofs.phases.widest.Given as goal

abbrev pub invariant-loop-node : goal.invariant-loop-node
invariant-loop-node l = record {
  wide : IsWidth l.width;
  narrow : (phase : ℕ) (node : Node) → phase < l.node-index → slice_get l.nodes phase ≡ Some node → IsNarrow l.net.cells l.width node;
}
