use Rattle.std.proofs.Common.{◌<◌, ◌≤◌, ◌∙◌, List, ap, subst, get_or, length, arith}
use Rattle.std.proofs.lemmas.List.{length-map}
use Rattle.verilog_tree.specs.declared.tree.Assign.{Assign}
use Rattle.verilog_tree.specs.View.{design_view, assignment_view}
use Rattle.settle_order.proofs.Turns.{mark_turn, all_marked, viewed_at, target_below}
use Rattle.settle_order.proofs.order.driven.Goals as goal

pub index_mut-requires : goal.index_mut-requires
index_mut-requires c =
    let lt = subst (λ (xs : List Assign). c.loop-assign.assign-index < length xs) c.as_slice-assign-items.ensures.value c.loop-assign-test.true in
    let read = c.assign-item.is ∙ ap (λ (xs : List Assign). get_or xs c.loop-assign.assign-index c.assign-item.result) c.as_slice-assign-items.ensures.value in
    let below = target_below c.args.design.now.assigns.items c.loop-assign.assign-index c.assign-item.result c.args.count lt read c.requires.named.targets in
    omega (arith, below, c.loop-assign.invariant.count, c.loop-assign.opened.ok)

pub loop-assign-preserved : goal.loop-assign-preserved
loop-assign-preserved c =
    let lt = subst (λ (xs : List Assign). c.loop-assign.assign-index < length xs) c.as_slice-assign-items.ensures.value c.loop-assign-test.true in
    let read = c.assign-item.is ∙ ap (λ (xs : List Assign). get_or xs c.loop-assign.assign-index c.assign-item.result) c.as_slice-assign-items.ensures.value in
    mark_turn (design_view c.args.design.now) c.args.count c.loop-assign.opened.items c.loop-assign.assign-index (assignment_view c.assign-item.result) c.loop-assign.invariant
    (viewed_at c.args.design.now.assigns.items c.loop-assign.assign-index c.assign-item.result lt read)
    (target_below c.args.design.now.assigns.items c.loop-assign.assign-index c.assign-item.result c.args.count lt read c.requires.named.targets)

pub returns : goal.returns
returns c =
    let all = subst (λ (xs : List Assign). length xs ≤ c.loop-assign.assign-index) c.as_slice-assign-items.ensures.value c.loop-assign-test.false in
    record {
      wires = all_marked (design_view c.args.design.now) c.args.count c.loop-assign.opened.items c.loop-assign.assign-index c.loop-assign.invariant
          (omega (arith, all, length-map c.args.design.now.assigns.items assignment_view));
    }
