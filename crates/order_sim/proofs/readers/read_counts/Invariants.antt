use Rattle.std.proofs.Common.{◌≡◌, ◌<◌, ℕ, [], length, get_or}
use Rattle.verilog_tree.specs.Cycle.{circuit_of}
use Rattle.verilog_tree.specs.View.{design_view}
use Rattle.event_order.specs.Drawn.{open_reads}
use Rattle.order_sim.proofs.readers.read_counts.Given as goal

abbrev pub invariant-loop-reader : goal.invariant-loop-reader
invariant-loop-reader l = record {
  count : length l.counts.items ≡ l.reader;
  each : (k : ℕ) → k < l.reader → get_or l.counts.items k 0 ≡ open_reads (circuit_of (design_view l.design)) [] k;
}
