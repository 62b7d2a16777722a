use Rattle.std.proofs.Common.{◌≡◌, length, drop}
use Rattle.std.specs.Prelude.{IsTrue}
use Rattle.verilog_tree.specs.Meaning.{FitNames}
use Rattle.verilog_tree.specs.Names.{shapes_of}
use Rattle.verilog_tree.specs.View.{actions_view, design_view}
use Rattle.clock_sim.specs.Simulated.{values_of, all_given, actions_fit}
use Rattle.clock_sim.proofs.Staged.{IsGivenTo}
use Rattle.clock_sim.proofs.steps.+run.Given as goal

abbrev pub invariant-run_all-loop-statement : goal.invariant-run_all-loop-statement
invariant-run_all-loop-statement l = record {
  count : length l.staged ≡ length l.initial.staged;
  names : FitNames (shapes_of (design_view l.design)) (values_of l.staged);
  fits : IsTrue (actions_fit (shapes_of (design_view l.design)) (length l.staged) (actions_view (drop l.statement-index l.statements)));
  given : IsGivenTo (all_given (shapes_of (design_view l.design)) (values_of l.values)) (actions_view l.statements) (actions_view (drop l.statement-index l.statements)) (values_of l.initial.staged) (values_of l.staged);
}
