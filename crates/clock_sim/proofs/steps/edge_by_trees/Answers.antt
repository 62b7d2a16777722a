use Rattle.std.proofs.Common.{ℕ, List, length, sym, subst, refl}
use Rattle.std.specs.Prelude.{IsTrue}
use Rattle.verilog_tree.specs.declared.tree.Stmt.{Stmt}
use Rattle.verilog_tree.specs.Names.{shapes_of}
use Rattle.verilog_tree.specs.View.{actions_view, design_view}
use Rattle.clock_sim.specs.Simulated.{values_of, all_given, actions_fit, Given}
use Rattle.clock_sim.proofs.Staged.{blocks_are, edge_next}
use Rattle.clock_sim.proofs.steps.edge_by_trees.Goals as goal

pub run_all-requires-clause-fits : goal.run_all-requires-clause-fits
run_all-requires-clause-fits c =
    let shapes = shapes_of (design_view c.args.design.now) in
    subst (λ (ss : List Stmt). IsTrue (actions_fit shapes (length c.copy_from_slice.new.self) (actions_view ss))) (sym c.deref.ensures.value)
    (subst (λ (xs : List ℕ). IsTrue (actions_fit shapes (length xs) (actions_view c.args.design.now.blocks.items))) (sym c.copy_from_slice.ensures.after)
    (blocks_are shapes (length c.args.values.now) c.args.design.now.blocks.items c.requires.fits))

pub returns-clause-next : goal.returns-clause-next
returns-clause-next c =
    let shapes = shapes_of (design_view c.args.design.now) in
    edge_next (design_view c.args.design.now) c.args.design.now.blocks.items c.args.values.now c.copy_from_slice.new.self c.run_all.new.staged c.copy_from_slice-2.new.self
    refl c.copy_from_slice.ensures.after
    (subst (λ (ss : List Stmt). Given (all_given shapes (values_of c.args.values.now) (actions_view ss)) (values_of c.copy_from_slice.new.self) (values_of c.run_all.new.staged)) c.deref.ensures.value c.run_all.ensures.given)
    c.copy_from_slice-2.ensures.after
