use Rattle.std.proofs.Common.{◌^◌, ◌<◌, ◌∙◌, subst, sym, ap}
use Rattle.std.specs.Prelude.{IsTrue}
use Rattle.verilog_tree.specs.Meaning.{Shapes, FitNames, IsFitting, fits, assigned}
use Rattle.verilog_tree.specs.View.{tree_view}
use Rattle.clock_sim.specs.Simulated.{values_of}
use Rattle.clock_sim.proofs.steps.value_for.Goals as goal

pub assigned-requires-clause-names : goal.assigned-requires-clause-names
assigned-requires-clause-names c = subst (λ (s : Shapes). FitNames s (values_of c.args.values.now)) (sym c.requires.table.same) c.requires.names

pub assigned-requires-clause-width : goal.assigned-requires-clause-width
assigned-requires-clause-width c = subst (λ (s : Shapes). IsFitting (s.width c.args.target)) (sym c.requires.table.same) c.requires.width

pub assigned-requires-clause-fits : goal.assigned-requires-clause-fits
assigned-requires-clause-fits c = subst (λ (s : Shapes). IsTrue (fits s (tree_view c.args.expr.now))) (sym c.requires.table.same) c.requires.fits

pub returns-clause-value : goal.returns-clause-value
returns-clause-value c = c.assigned.ensures.value ∙ ap (λ (s : Shapes). assigned s (values_of c.args.values.now) c.args.target (tree_view c.args.expr.now)) c.requires.table.same

pub returns-clause-small : goal.returns-clause-small
returns-clause-small c = subst (λ (s : Shapes). c.assigned.result < 2 ^ s.width c.args.target) c.requires.table.same c.assigned.ensures.small
