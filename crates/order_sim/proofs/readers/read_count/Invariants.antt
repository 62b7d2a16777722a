use Rattle.std.proofs.Common.{◌≡◌}
use Rattle.verilog_tree.specs.Cycle.{circuit_of}
use Rattle.verilog_tree.specs.View.{design_view}
use Rattle.event_order.specs.Drawn.{how_many, reads_wire}
use Rattle.order_sim.proofs.readers.read_count.Given as goal

abbrev pub invariant-loop-place : goal.invariant-loop-place
invariant-loop-place l = l.count ≡ how_many (λ j. reads_wire (circuit_of (design_view l.design)) l.reader j) l.place
