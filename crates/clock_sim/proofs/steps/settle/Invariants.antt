use Rattle.std.proofs.Common.{◌≡◌, length}
use Rattle.verilog_tree.specs.Meaning.{FitNames}
use Rattle.verilog_tree.specs.Names.{shapes_of}
use Rattle.verilog_tree.specs.Cycle.{circuit_of}
use Rattle.verilog_tree.specs.View.{design_view}
use Rattle.clock_sim.specs.Simulated.{values_of, IsSettledTo}
use Rattle.clock_sim.proofs.steps.settle.Given as goal

abbrev pub invariant-loop-place : goal.invariant-loop-place
invariant-loop-place l = record {
  count : length l.values ≡ length l.initial.values;
  names : FitNames (shapes_of (design_view l.design)) (values_of l.values);
  settled : IsSettledTo (circuit_of (design_view l.design)) (values_of l.initial.values) l.order l.place-index (values_of l.values);
}
