use Rattle.std.proofs.Common.{List, length, sym, subst}
use Rattle.std.specs.Prelude.{IsTrue}
use Rattle.verilog_tree.specs.declared.tree.Stmt.{Stmt}
use Rattle.verilog_tree.specs.Names.{shapes_of}
use Rattle.verilog_tree.specs.View.{actions_view, design_view}
use Rattle.settle_order.specs.Placing.{opened_of}
use Rattle.clock_sim.specs.Simulated.{values_of, all_given, actions_fit, Marked}
use Rattle.clock_sim.proofs.Staged.{blocks_are}
use Rattle.clock_sim.proofs.Marks.{mark_blocks_done}
use Rattle.clock_sim.proofs.steps.mark_blocks.Goals as goal

pub mark_all-requires-clause-fits : goal.mark_all-requires-clause-fits
mark_all-requires-clause-fits c =
    let shapes = shapes_of (design_view c.args.design.now) in
    subst (λ (ss : List Stmt). IsTrue (actions_fit shapes (length c.args.marks.now) (actions_view ss))) (sym c.deref.ensures.value)
    (blocks_are shapes (length c.args.marks.now) c.args.design.now.blocks.items c.requires.fits)

pub returns : goal.returns
returns c =
    let shapes = shapes_of (design_view c.args.design.now) in
    let v = values_of c.args.values.now in
    mark_blocks_done shapes v c.args.design.now.blocks.items (opened_of c.args.marks.now) (opened_of c.mark_all.new.marks)
    (subst (λ (ss : List Stmt). Marked (all_given shapes v (actions_view ss)) (opened_of c.args.marks.now) (opened_of c.mark_all.new.marks)) c.deref.ensures.value c.mark_all.ensures)
