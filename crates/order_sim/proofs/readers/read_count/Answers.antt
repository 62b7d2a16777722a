use Rattle.std.proofs.Common.{arith}
use Rattle.verilog_tree.specs.Cycle.{circuit_of}
use Rattle.verilog_tree.specs.View.{design_view}
use Rattle.event_order.specs.Drawn.{reads_wire}
use Rattle.event_order.proofs.Counting.{count-most}
use Rattle.order_sim.proofs.readers.read_count.Goals as goal

pub overflow_add-count : goal.overflow_add-count
overflow_add-count c =
    let most = count-most (λ j. reads_wire (circuit_of (design_view c.args.design.now)) c.args.reader j) c.loop-place.place in
    omega (arith, most)
