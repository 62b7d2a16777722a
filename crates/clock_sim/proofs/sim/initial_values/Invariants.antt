use Rattle.verilog_tree.specs.View.{design_view}
use Rattle.clock_sim.proofs.Start.{Turned}
use Rattle.clock_sim.proofs.sim.initial_values.Given as goal

abbrev pub invariant-loop-signal : goal.invariant-loop-signal
invariant-loop-signal l = Turned (design_view l.design) l.design.signals.items l.initial' l.signal-index l.next l.values.items
