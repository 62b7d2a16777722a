use Rattle.std.proofs.Common.{◌≡◌}
use Rattle.verilog_tree.specs.Cycle.{circuit_of}
use Rattle.verilog_tree.specs.View.{design_view}
use Rattle.clock_sim.specs.Simulated.{values_of}
use Rattle.event_order.specs.Drawn.{how_many, is_given}
use Rattle.order_sim.specs.Drawing.{signal_names}
use Rattle.order_sim.proofs.drawing.count_signals.Given as goal

abbrev pub invariant-loop-signal : goal.invariant-loop-signal
invariant-loop-signal l = l.count ≡ how_many (is_given (circuit_of (design_view l.design)) (signal_names (design_view l.design)) (values_of l.sim.values)) l.signal-index
