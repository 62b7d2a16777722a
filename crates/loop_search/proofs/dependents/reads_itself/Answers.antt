use Rattle.std.proofs.Common.{◌≡◌, ◌<◌, ◌≤◌, ◌∙◌, List, true, ap, subst, sym, get_or, length, arith}
use Rattle.std.proofs.lemmas.List.{length-map}
use Rattle.std.proofs.lemmas.Option.{slice_get_within}
use Rattle.verilog_tree.specs.declared.tree.Assign.{Assign}
use Rattle.verilog_tree.specs.Tree.{Assignment}
use Rattle.verilog_tree.specs.View.{design_view, assignment_view}
use Rattle.settle_order.specs.Placing.{reads_open, opened_of}
use Rattle.settle_order.proofs.Placing.{not_both}
use Rattle.settle_order.proofs.Turns.{viewed_at}
use Rattle.loop_search.proofs.Marking.{none_more}
use Rattle.loop_search.proofs.dependents.reads_itself.Goals.{else-assign-name-via-then-assign-name+else-reads_open, else-assign-name-via-else-assign-name}
use Rattle.loop_search.proofs.dependents.reads_itself.Goals as goal

pub returns-then-reads_open : goal.returns-then-reads_open
returns-then-reads_open c =
    let k = c.loop-assign.assign-index in
    let a = c.assign-item.result in
    let lt = subst (λ (xs : List Assign). k < length xs) c.as_slice-assign-items.ensures.value c.loop-assign-test.true in
    let read = c.assign-item.is ∙ ap (λ (xs : List Assign). get_or xs k a) c.as_slice-assign-items.ensures.value in
    (k, assignment_view a, viewed_at c.args.design.now.assigns.items k a lt read, c.if-assign-name.true, sym c.reads_open.ensures ∙ c.if-reads_open.true)

pub loop-assign-preserved : goal.loop-assign-preserved
loop-assign-preserved c j b less at target reading =
    let k = c.loop-assign.assign-index in
    let a = c.assign-item.result in
    let marked = opened_of c.args.marked.now in
    let lt = subst (λ (xs : List Assign). k < length xs) c.as_slice-assign-items.ensures.value c.loop-assign-test.true in
    let read = c.assign-item.is ∙ ap (λ (xs : List Assign). get_or xs k a) c.as_slice-assign-items.ensures.value in
    none_more (design_view c.args.design.now).assigns (λ (x : Assignment). (x.target ≡ c.args.name) × (reads_open marked x.value ≡ true)) k (assignment_view a)
    (viewed_at c.args.design.now.assigns.items k a lt read) (λ i x before there p. c.loop-assign.invariant i x before there p.0 p.1)
    (λ p. elim c.else-assign-name.branch [
      | else-assign-name-via-then-assign-name+else-reads_open w ↦ not_both _ p.1 (sym w.reads_open.ensures ∙ w.if-reads_open.false)
      | else-assign-name-via-else-assign-name w ↦ w.if-assign-name.false p.0
    ])
    j b less at (target, reading)

pub returns : goal.returns
returns c reads =
    let all = subst (λ (xs : List Assign). length xs ≤ c.loop-assign.assign-index) c.as_slice-assign-items.ensures.value c.loop-assign-test.false in
    let inside = slice_get_within (design_view c.args.design.now).assigns reads.0 reads.1 reads.2 in
    c.loop-assign.invariant reads.0 reads.1 (omega (arith, all, inside, length-map c.args.design.now.assigns.items assignment_view)) reads.2 reads.3 reads.4
