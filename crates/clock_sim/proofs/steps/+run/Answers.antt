use Rattle.std.proofs.Common.{◌∙◌, ◌+◌, ℕ, List, length, set, drop, rules, arith, sym, ap, subst}
use Rattle.std.specs.Prelude.{IsTrue, nat_lt, ◌&&◌}
use Rattle.verilog_tree.specs.declared.tree.Stmt.{Stmt, the_lemmas}
use Rattle.verilog_tree.specs.Tree as tree
use Rattle.verilog_tree.specs.Tree.{Action, Actions}
use Rattle.verilog_tree.specs.Meaning.{is_width, fits as tree_fits}
use Rattle.verilog_tree.specs.Names.{shapes_of}
use Rattle.verilog_tree.specs.Cycle.{given}
use Rattle.verilog_tree.specs.View.{tree_view, action_view, actions_view, design_view}
use Rattle.verilog_tree.proofs.Views.{view-Block}
use Rattle.verilog_tree.proofs.Parts.{and_parts}
use Rattle.clock_sim.specs.Simulated.{values_of, all_given, action_fits, actions_fit, Given}
use Rattle.clock_sim.proofs.Staged.{below_of, IsGivenTo, statements_left, given_turn, given_all, given_set}
use Rattle.clock_sim.proofs.Tables.{drop_all}
use Rattle.clock_sim.proofs.steps.+run.Goals as goal

pub run-run_all-requires : goal.run-run_all-requires
run-run_all-requires t c =
    let shapes = shapes_of (design_view c.args.design.now) in
    let viewed = ap action_view c.in-Block.is ∙ view-Block c.in-Block.parts ∙ ap (λ (ss : List Stmt). tree.Block (actions_view ss)) (sym c.deref.ensures.value) in
    let fits = subst (λ (a : Action). IsTrue (action_fits shapes (length c.args.staged.now) a)) viewed c.requires.fits in (
      first_of (search (rules, the_lemmas), grind (arith, the_lemmas)),
      (c.requires.table, (c.requires.names, (fits, c.requires.staged))),
    )

pub run-returns-in-Block-clause-given : goal.run-returns-in-Block-clause-given
run-returns-in-Block-clause-given t c =
    let shapes = shapes_of (design_view c.args.design.now) in
    let viewed = ap action_view c.in-Block.is ∙ view-Block c.in-Block.parts ∙ ap (λ (ss : List Stmt). tree.Block (actions_view ss)) (sym c.deref.ensures.value) in
    subst (λ (a : Action). Given (given shapes (values_of c.args.values.now) a) (values_of c.args.staged.now) (values_of c.run_all.new.staged)) (sym viewed) c.run_all.ensures.given

pub run-returns-in-Set-clause-given : goal.run-returns-in-Set-clause-given
run-returns-in-Set-clause-given t c =
    let shapes = shapes_of (design_view c.args.design.now) in
    let e = tree_view c.in-Set.value in
    let viewed = ap action_view c.in-Set.is in
    let fits = subst (λ (a : Action). IsTrue (action_fits shapes (length c.args.staged.now) a)) viewed c.requires.fits in
    let inside = below_of c.in-Set.target (length c.args.staged.now) (and_parts (nat_lt c.in-Set.target (length c.args.staged.now)) (is_width (shapes.width c.in-Set.target) && tree_fits shapes e) fits).0 in
    subst (λ (xs : List ℕ). Given (given shapes (values_of c.args.values.now) (action_view c.args.statement.now)) (values_of c.args.staged.now) (values_of xs)) (sym c.write.ensures)
    (subst (λ (a : Action). Given (given shapes (values_of c.args.values.now) a) (values_of c.args.staged.now) (values_of (set c.args.staged.now c.in-Set.target c.value_for-bits.result))) (sym viewed)
    (given_set shapes (values_of c.args.values.now) c.in-Set.target e c.args.staged.now c.value_for-bits.result inside c.value_for-bits.ensures.value))

pub run_all-run-requires : goal.run_all-run-requires
run_all-run-requires t c =
    let shapes = shapes_of (design_view c.args.design.now) in
    let k = c.loop-statement.statement-index in
    let s = c.statement-item.result in
    let left = statements_left c.args.statements.now k s c.loop-statement-test.true c.statement-item.is in
    let fits = subst (λ (a : Actions). IsTrue (actions_fit shapes (length c.loop-statement.staged) a)) left c.loop-statement.invariant.fits in (
      first_of (search (rules, the_lemmas), grind (arith, the_lemmas)),
      (c.requires.table, (c.requires.names, ((and_parts _ _ fits).0, c.loop-statement.invariant.names))),
    )

pub run_all-loop-statement-preserved : goal.run_all-loop-statement-preserved
run_all-loop-statement-preserved t c =
    let shapes = shapes_of (design_view c.args.design.now) in
    let v = values_of c.args.values.now in
    let ss = c.args.statements.now in
    let k = c.loop-statement.statement-index in
    let s = c.statement-item.result in
    let left = statements_left ss k s c.loop-statement-test.true c.statement-item.is in
    let fits = subst (λ (a : Actions). IsTrue (actions_fit shapes (length c.loop-statement.staged) a)) left c.loop-statement.invariant.fits in
    record {
      count = c.run.auto.staged ∙ c.loop-statement.invariant.count;
      names = c.run.ensures.names;
      fits = subst (λ (n : ℕ). IsTrue (actions_fit shapes n (actions_view (drop (k + 1) ss)))) (sym c.run.auto.staged) (and_parts _ _ fits).1;
      given = given_turn shapes v (actions_view ss) (actions_view (drop (k + 1) ss)) (action_view s) (values_of c.args.staged.now) (values_of c.loop-statement.staged) (values_of c.run.new.staged)
          (subst (λ (a : Actions). IsGivenTo (all_given shapes v) (actions_view ss) a (values_of c.args.staged.now) (values_of c.loop-statement.staged)) left c.loop-statement.invariant.given)
          c.run.ensures.given;
    }

pub run_all-returns-clause-given : goal.run_all-returns-clause-given
run_all-returns-clause-given t c =
    let shapes = shapes_of (design_view c.args.design.now) in
    let ss = c.args.statements.now in
    given_all shapes (values_of c.args.values.now) (actions_view ss) (actions_view (drop c.loop-statement.statement-index ss)) (values_of c.args.staged.now) (values_of c.loop-statement.staged)
    (ap actions_view (drop_all ss c.loop-statement.statement-index c.loop-statement-test.false)) c.loop-statement.invariant.given
