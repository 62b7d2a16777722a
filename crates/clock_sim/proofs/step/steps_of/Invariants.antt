use Rattle.std.proofs.Common.{take}
use Rattle.verilog_tree.specs.Names.{shapes_of}
use Rattle.verilog_tree.specs.View.{design_view}
use Rattle.clock_sim.specs.Steps.{Compiles}
use Rattle.clock_sim.proofs.step.steps_of.Given as goal

abbrev pub invariant-loop-assign : goal.invariant-loop-assign
invariant-loop-assign l = Compiles (shapes_of (design_view l.design)) (take l.assign-index l.design.assigns.items) l.steps.items
