use Rattle.std.proofs.Common.{subst, sym}
use Rattle.std.specs.Prelude.{IsTrue}
use Rattle.verilog_tree.specs.Meaning.{Shapes, FitNames, fits}
use Rattle.verilog_tree.specs.View.{tree_view}
use Rattle.clock_sim.specs.Simulated.{values_of}
use Rattle.clock_sim.proofs.steps.holds.Goals as goal

pub alone-requires-clause-names : goal.alone-requires-clause-names
alone-requires-clause-names c = subst (λ (s : Shapes). FitNames s (values_of c.args.values.now)) (sym c.requires.table.same) c.requires.names

pub alone-requires-clause-fits : goal.alone-requires-clause-fits
alone-requires-clause-fits c = subst (λ (s : Shapes). IsTrue (fits s (tree_view c.args.condition.now))) (sym c.requires.table.same) c.requires.fits
