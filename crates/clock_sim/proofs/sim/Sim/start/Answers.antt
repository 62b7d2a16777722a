use Rattle.std.proofs.Common.{◌≡◌, List, ℕ, length, sym, subst}
use Rattle.std.specs.Prelude.{IfOk}
use Rattle.verilog_tree.specs.declared.tree.Module.{Module}
use Rattle.verilog_tree.specs.Names.{shapes_of}
use Rattle.verilog_tree.specs.View.{design_view}
use Rattle.clock_sim.specs.Sim.{IsSound, AreInitial, HoldInitial}
use Rattle.clock_sim.proofs.sim.Sim.start.Goals as goal

pub of_tree-requires-clause-sound : goal.of_tree-requires-clause-sound
of_tree-requires-clause-sound c = subst (λ (m : Module). IsSound (design_view m)) (sym c.tree.ensures.same) (record { formed = c.tree.ensures.formed; passes = c.requires.passes })

pub of_tree-requires-clause-fits : goal.of_tree-requires-clause-fits
of_tree-requires-clause-fits c = subst (λ (m : Module). AreInitial (shapes_of (design_view m)) m.signals.items c.args.initial.now) (sym c.tree.ensures.same) c.requires.fits

pub returns-clause-design : goal.returns-clause-design
returns-clause-design c = subst (λ (m : Module). IfOk c.of_tree.result (λ sim. sim.design ≡ m)) c.tree.ensures.same c.of_tree.ensures.design

pub returns-clause-values : goal.returns-clause-values
returns-clause-values c = subst (λ (m : Module). IfOk c.of_tree.result (λ sim. HoldInitial m.signals.items c.args.initial.now sim.values)) c.tree.ensures.same c.of_tree.ensures.values

pub returns-clause-count : goal.returns-clause-count
returns-clause-count c = subst (λ (m : Module). IfOk c.of_tree.result (λ sim. length sim.values ≡ length m.names.items)) c.tree.ensures.same c.of_tree.ensures.count
