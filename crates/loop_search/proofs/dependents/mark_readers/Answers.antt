use Rattle.std.proofs.Common.{◌+◌, ◌<◌, ◌≤◌, ◌∙◌, List, true, ap, subst, sym, get_or, set, length, inl, inr, arith}
use Rattle.std.proofs.lemmas.List.{length-map}
use Rattle.verilog_tree.specs.declared.tree.Assign.{Assign}
use Rattle.verilog_tree.specs.View.{design_view, assignment_view}
use Rattle.settle_order.proofs.Turns.{viewed_at, target_below}
use Rattle.loop_search.proofs.Marking.{marks, passes, marked_moved, all_of}
use Rattle.loop_search.proofs.dependents.mark_readers.Goals.{then-not-is_open+then-reads_open, else-not-is_open, else-not-is_open-via-then-not-is_open+else-reads_open, else-not-is_open-via-else-not-is_open}
use Rattle.loop_search.proofs.dependents.mark_readers.Goals as goal

pub bounds-marked-assign : goal.bounds-marked-assign
bounds-marked-assign c =
    let k = c.loop-assign.assign-index in
    let a = c.assign-item.result in
    let lt = subst (λ (xs : List Assign). k < length xs) c.as_slice-assign-items.ensures.value c.loop-assign-test.true in
    let read = c.assign-item.is ∙ ap (λ (xs : List Assign). get_or xs k a) c.as_slice-assign-items.ensures.value in
    omega (arith, target_below c.args.design.now.assigns.items k a (length c.args.marked.now) lt read c.requires.named.targets, c.loop-assign.auto.marked)

pub loop-assign-preserved : goal.loop-assign-preserved
loop-assign-preserved c =
    let d = design_view c.args.design.now in
    let k = c.loop-assign.assign-index in
    let a = c.assign-item.result in
    let lt = subst (λ (xs : List Assign). k < length xs) c.as_slice-assign-items.ensures.value c.loop-assign-test.true in
    let read = c.assign-item.is ∙ ap (λ (xs : List Assign). get_or xs k a) c.as_slice-assign-items.ensures.value in
    let here = viewed_at c.args.design.now.assigns.items k a lt read in
    let first = c.args.marked.now in
    let flags = c.loop-assign.marked in
    let progress = c.loop-assign.progress in
    let h = c.loop-assign.invariant in
    let below = target_below c.args.design.now.assigns.items k a (length c.args.marked.now) lt read c.requires.named.targets in
    let within : a.target < length flags = omega (arith, below, c.loop-assign.auto.marked) in
    elim c.if-not-is_open.branch [
      | then-not-is_open+then-reads_open w ↦
          marked_moved d first (set flags a.target true) c.if-not-is_open.marked true c.if-not-is_open.progress (k + 1)
          (marks d first flags progress k (assignment_view a) h here within (sym c.is_open.ensures ∙ w.if-not-is_open.true) (sym w.reads_open.ensures ∙ w.if-reads_open.true))
          w.marked-is w.progress-is
      | else-not-is_open w ↦ elim w.else-not-is_open.branch [
        | else-not-is_open-via-then-not-is_open+else-reads_open x ↦
            marked_moved d first flags c.if-not-is_open.marked progress c.if-not-is_open.progress (k + 1)
            (passes d first flags progress k (assignment_view a) h here (inr (sym x.reads_open.ensures ∙ x.if-reads_open.false))) w.marked-is w.progress-is
        | else-not-is_open-via-else-not-is_open x ↦
            marked_moved d first flags c.if-not-is_open.marked progress c.if-not-is_open.progress (k + 1)
            (passes d first flags progress k (assignment_view a) h here (inl (sym c.is_open.ensures ∙ x.if-not-is_open.false))) w.marked-is w.progress-is
      ]
    ]

pub returns-clause-all : goal.returns-clause-all
returns-clause-all c none =
    let all = subst (λ (xs : List Assign). length xs ≤ c.loop-assign.assign-index) c.as_slice-assign-items.ensures.value c.loop-assign-test.false in
    all_of (design_view c.args.design.now) c.args.marked.now c.loop-assign.marked c.loop-assign.progress c.loop-assign.assign-index c.loop-assign.invariant
    (omega (arith, all, length-map c.args.design.now.assigns.items assignment_view)) none
