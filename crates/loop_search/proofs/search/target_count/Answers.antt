use Rattle.std.proofs.Common.{◌<◌, ◌≤◌, ◌∙◌, List, ap, subst, get_or, length, arith}
use Rattle.std.proofs.lemmas.List.{length-map}
use Rattle.std.proofs.lemmas.Option.{slice_get-get_or}
use Rattle.verilog_tree.specs.declared.tree.Assign.{Assign}
use Rattle.verilog_tree.specs.Tree.{Assignment}
use Rattle.verilog_tree.specs.View.{design_view, assignment_view}
use Rattle.settle_order.proofs.Turns.{viewed_at}
use Rattle.loop_search.proofs.Marking.{each_more}
use Rattle.loop_search.proofs.search.target_count.Goals as goal

pub loop-assign-preserved : goal.loop-assign-preserved
loop-assign-preserved c =
    let k = c.loop-assign.assign-index in
    let a = c.assign-item.result in
    let lt = subst (λ (xs : List Assign). k < length xs) c.as_slice-assign-items.ensures.value c.loop-assign-test.true in
    let read = c.assign-item.is ∙ ap (λ (xs : List Assign). get_or xs k a) c.as_slice-assign-items.ensures.value in
    each_more (design_view c.args.design.now).assigns (λ (x : Assignment). x.target < c.max-count.result) k (assignment_view a) (viewed_at c.args.design.now.assigns.items k a lt read)
    (λ j b less at. omega (arith, c.loop-assign.invariant j b less at, c.max-count.ensures)) (omega (arith, c.in_ok-checked_add.ensures.1, c.max-count.ensures))

pub returns : goal.returns
returns c =
    let all = subst (λ (xs : List Assign). length xs ≤ c.loop-assign.assign-index) c.as_slice-assign-items.ensures.value c.loop-assign-test.false in
    let assigns = (design_view c.args.design.now).assigns in
    record {
      targets = λ k a lt. c.loop-assign.invariant k (get_or assigns k a) (omega (arith, all, lt, length-map c.args.design.now.assigns.items assignment_view)) (slice_get-get_or assigns k a lt);
    }
