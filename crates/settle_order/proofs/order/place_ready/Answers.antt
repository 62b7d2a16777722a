use Rattle.std.proofs.Common.{◌+◌, ◌<◌, ◌≤◌, ◌∙◌, List, true, false, ap, subst, sym, get_or, set, length, inl, inr, ◌++◌, ◌∷◌, [], arith}
use Rattle.std.proofs.lemmas.List.{length-map}
use Rattle.verilog_tree.specs.declared.tree.Assign.{Assign}
use Rattle.verilog_tree.specs.View.{design_view, assignment_view}
use Rattle.settle_order.proofs.Turns.{turn_places, turn_skips, turn_moved, turns_done, viewed_at}
use Rattle.settle_order.proofs.order.place_ready.Goals.{then-is_open+then-not-reads_open+in_ok-push, else-is_open, else-is_open-via-then-is_open+else-not-reads_open, else-is_open-via-else-is_open}
use Rattle.settle_order.proofs.order.place_ready.Goals as goal

pub loop-place-preserved : goal.loop-place-preserved
loop-place-preserved c =
    let m = design_view c.args.design.now in
    let a = c.index-assigns-place.result in
    let k = c.loop-place.place in
    let lt = subst (λ (xs : List Assign). k < length xs) c.as_slice-assigns.ensures.value c.loop-place-test.true in
    let read = c.index-assigns-place.is ∙ ap (λ (xs : List Assign). get_or xs k a) c.as_slice-assigns.ensures.value in
    let here = viewed_at c.args.design.now.assigns.items k a lt read in
    let flags = c.loop-place.opened in
    let order = c.loop-place.order.items in
    let progress = c.loop-place.progress in
    let h = c.loop-place.invariant in
    elim c.if-is_open.branch [
      | then-is_open+then-not-reads_open+in_ok-push w ↦
          let turn = turn_places m c.requires.driven c.args.opened.now flags order progress k (assignment_view a) h here (sym c.is_open.ensures ∙ w.if-is_open.true) (sym w.reads_open.ensures ∙ w.if-not-reads_open.true) in
          turn_moved m c.args.opened.now (set flags a.target false) c.if-is_open.opened (order ++ k ∷ []) c.if-is_open.order.items true c.if-is_open.progress (k + 1) turn
          w.opened-is (ap (λ v. v.items) w.order-is ∙ w.in_ok-push.ensures.items) w.progress-is
      | else-is_open w ↦ elim w.else-is_open.branch [
        | else-is_open-via-then-is_open+else-not-reads_open x ↦
            turn_moved m c.args.opened.now flags c.if-is_open.opened order c.if-is_open.order.items progress c.if-is_open.progress (k + 1)
            (turn_skips m c.args.opened.now flags order progress k (assignment_view a) h here (inr (sym x.reads_open.ensures ∙ x.if-not-reads_open.false))) w.opened-is (ap (λ v. v.items) w.order-is) w.progress-is
        | else-is_open-via-else-is_open x ↦
            turn_moved m c.args.opened.now flags c.if-is_open.opened order c.if-is_open.order.items progress c.if-is_open.progress (k + 1)
            (turn_skips m c.args.opened.now flags order progress k (assignment_view a) h here (inl (sym c.is_open.ensures ∙ x.if-is_open.false))) w.opened-is (ap (λ v. v.items) w.order-is) w.progress-is
      ]
    ]

pub returns-clause-stuck : goal.returns-clause-stuck
returns-clause-stuck c none =
    let all = subst (λ (xs : List Assign). length xs ≤ c.loop-place.place) c.as_slice-assigns.ensures.value c.loop-place-test.false in
    turns_done (design_view c.args.design.now) c.args.opened.now c.loop-place.opened c.loop-place.order.items c.loop-place.progress c.loop-place.place c.loop-place.invariant
    (omega (arith, all, length-map c.args.design.now.assigns.items assignment_view)) none
