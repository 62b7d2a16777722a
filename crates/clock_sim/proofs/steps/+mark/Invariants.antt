use Rattle.std.proofs.Common.{◌≡◌, length, drop}
use Rattle.std.specs.Prelude.{IsTrue}
use Rattle.verilog_tree.specs.Names.{shapes_of}
use Rattle.verilog_tree.specs.View.{actions_view, design_view}
use Rattle.settle_order.specs.Placing.{opened_of}
use Rattle.clock_sim.specs.Simulated.{values_of, all_given, actions_fit}
use Rattle.clock_sim.proofs.Marks.{IsMarkedTo}
use Rattle.clock_sim.proofs.steps.+mark.Given as goal

abbrev pub invariant-mark_all-loop-statement : goal.invariant-mark_all-loop-statement
invariant-mark_all-loop-statement l = record {
  count : length l.marks ≡ length l.initial.marks;
  fits : IsTrue (actions_fit (shapes_of (design_view l.design)) (length l.marks) (actions_view (drop l.statement-index l.statements)));
  marked : IsMarkedTo (all_given (shapes_of (design_view l.design)) (values_of l.values)) (actions_view l.statements) (actions_view (drop l.statement-index l.statements)) (opened_of l.initial.marks) (opened_of l.marks);
}
