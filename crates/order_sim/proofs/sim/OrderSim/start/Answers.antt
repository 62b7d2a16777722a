use Rattle.std.proofs.Common.{◌∙◌, Result, Ok, Err, List, ℕ, length, sym, ap, subst}
use Rattle.std.specs.Prelude.{IfOk}
use Rattle.verilog_tree.specs.declared.tree.Module.{Module}
use Rattle.verilog_tree.specs.View.{design_view}
use Rattle.clock_sim.specs.Sim.{IsSound, HoldInitial}
use Rattle.order_sim.proofs.sim.OrderSim.start.Goals as goal

if_ok : {A E : Type 0} (r : Result A E) (P Q : A → Type 0) → ((x : A) → P x → Q x) → IfOk r P → IfOk r Q
if_ok (Ok x) P Q f h = f x h
if_ok (Err e) P Q f h = tt

pub of_sim-requires-clause-same : goal.of_sim-requires-clause-same
of_sim-requires-clause-same c = c.in_ok-sim.ensures.design ∙ sym c.tree.ensures.same

pub of_sim-requires-clause-sound : goal.of_sim-requires-clause-sound
of_sim-requires-clause-sound c = subst (λ (m : Module). IsSound (design_view m)) (sym c.tree.ensures.same) (record { formed = c.tree.ensures.formed; passes = c.requires.passes })

pub of_sim-requires-clause-count : goal.of_sim-requires-clause-count
of_sim-requires-clause-count c = c.in_ok-sim.ensures.count ∙ ap (λ (m : Module). length m.names.items) (sym c.tree.ensures.same)

pub returns-clause-design : goal.returns-clause-design
returns-clause-design c = if_ok c.of_sim.result _ _ (λ drawer is. is ∙ c.in_ok-sim.ensures.design) c.of_sim.ensures.design

pub returns-clause-values : goal.returns-clause-values
returns-clause-values c =
    if_ok c.of_sim.result _ _
    (λ drawer is. subst (λ (values : List ℕ). HoldInitial c.args.design.now.signals.items c.args.initial.now values) (sym is) c.in_ok-sim.ensures.values)
    c.of_sim.ensures.values

pub returns-clause-number : goal.returns-clause-number
returns-clause-number c = c.of_sim.ensures.number
