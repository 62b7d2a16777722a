use Rattle.std.proofs.Common.{◌∙◌, ◌+◌, ℕ, List, length, drop, rules, arith, sym, ap, subst}
use Rattle.std.specs.Prelude.{IsTrue}
use Rattle.verilog_tree.specs.declared.tree.Stmt.{Stmt, the_lemmas}
use Rattle.verilog_tree.specs.Tree as tree
use Rattle.verilog_tree.specs.Tree.{Action, Actions}
use Rattle.verilog_tree.specs.Names.{shapes_of}
use Rattle.verilog_tree.specs.Cycle.{given}
use Rattle.verilog_tree.specs.View.{action_view, actions_view, design_view}
use Rattle.verilog_tree.proofs.Views.{view-Block}
use Rattle.verilog_tree.proofs.Parts.{and_parts}
use Rattle.settle_order.specs.Placing.{opened_of}
use Rattle.clock_sim.specs.Simulated.{values_of, all_given, action_fits, actions_fit, Marked}
use Rattle.clock_sim.proofs.Staged.{statements_left}
use Rattle.clock_sim.proofs.Marks.{IsMarkedTo, mark_turn, mark_done}
use Rattle.clock_sim.proofs.Tables.{drop_all}
use Rattle.clock_sim.proofs.steps.+mark.Goals as goal

pub mark-mark_all-requires : goal.mark-mark_all-requires
mark-mark_all-requires t c =
    let shapes = shapes_of (design_view c.args.design.now) in
    let viewed = ap action_view c.in-Block.is ∙ view-Block c.in-Block.parts ∙ ap (λ (ss : List Stmt). tree.Block (actions_view ss)) (sym c.deref.ensures.value) in
    let fits = subst (λ (a : Action). IsTrue (action_fits shapes (length c.args.marks.now) a)) viewed c.requires.fits in (
      first_of (search (rules, the_lemmas), grind (arith, the_lemmas)),
      (c.requires.table, (c.requires.names, fits)),
    )

pub mark-returns-in-Block : goal.mark-returns-in-Block
mark-returns-in-Block t c =
    let shapes = shapes_of (design_view c.args.design.now) in
    let viewed = ap action_view c.in-Block.is ∙ view-Block c.in-Block.parts ∙ ap (λ (ss : List Stmt). tree.Block (actions_view ss)) (sym c.deref.ensures.value) in
    subst (λ (a : Action). Marked (given shapes (values_of c.args.values.now) a) (opened_of c.args.marks.now) (opened_of c.mark_all.new.marks)) (sym viewed) c.mark_all.ensures

pub mark_all-mark-requires : goal.mark_all-mark-requires
mark_all-mark-requires t c =
    let shapes = shapes_of (design_view c.args.design.now) in
    let k = c.loop-statement.statement-index in
    let s = c.statement-item.result in
    let left = statements_left c.args.statements.now k s c.loop-statement-test.true c.statement-item.is in
    let fits = subst (λ (a : Actions). IsTrue (actions_fit shapes (length c.loop-statement.marks) a)) left c.loop-statement.invariant.fits in (
      first_of (search (rules, the_lemmas), grind (arith, the_lemmas)),
      (c.requires.table, (c.requires.names, (and_parts _ _ fits).0)),
    )

pub mark_all-loop-statement-preserved : goal.mark_all-loop-statement-preserved
mark_all-loop-statement-preserved t c =
    let shapes = shapes_of (design_view c.args.design.now) in
    let v = values_of c.args.values.now in
    let ss = c.args.statements.now in
    let k = c.loop-statement.statement-index in
    let s = c.statement-item.result in
    let left = statements_left ss k s c.loop-statement-test.true c.statement-item.is in
    let fits = subst (λ (a : Actions). IsTrue (actions_fit shapes (length c.loop-statement.marks) a)) left c.loop-statement.invariant.fits in
    record {
      count = c.mark.auto.marks ∙ c.loop-statement.invariant.count;
      fits = subst (λ (n : ℕ). IsTrue (actions_fit shapes n (actions_view (drop (k + 1) ss)))) (sym c.mark.auto.marks) (and_parts _ _ fits).1;
      marked = mark_turn shapes v (actions_view ss) (actions_view (drop (k + 1) ss)) (action_view s) (opened_of c.args.marks.now) (opened_of c.loop-statement.marks) (opened_of c.mark.new.marks)
          (subst (λ (a : Actions). IsMarkedTo (all_given shapes v) (actions_view ss) a (opened_of c.args.marks.now) (opened_of c.loop-statement.marks)) left c.loop-statement.invariant.marked)
          c.mark.ensures;
    }

pub mark_all-returns : goal.mark_all-returns
mark_all-returns t c =
    let shapes = shapes_of (design_view c.args.design.now) in
    let ss = c.args.statements.now in
    mark_done shapes (values_of c.args.values.now) (actions_view ss) (actions_view (drop c.loop-statement.statement-index ss)) (opened_of c.args.marks.now) (opened_of c.loop-statement.marks)
    (ap actions_view (drop_all ss c.loop-statement.statement-index c.loop-statement-test.false)) c.loop-statement.invariant.marked
