use Rattle.std.proofs.Common.{◌+◌, ◌<◌, ◌≤◌, ◌∙◌, ℕ, List, ap, subst, sym, get_or, set, length, rules, arith}
use Rattle.std.proofs.lemmas.Option.{slice_get-get_or}
use Rattle.verilog_tree.specs.declared.tree.Assign.{Assign}
use Rattle.verilog_tree.specs.View.{tree_view, design_view, assignment_view}
use Rattle.settle_order.proofs.Turns.{viewed_at}
use Rattle.loop_search.proofs.Closed.{below_count}
use Rattle.wire_levels.specs.Levels.{level_in}
use Rattle.wire_levels.proofs.Turns.{IsLevelledTo, greatest_below, levelled_more, all_levelled, ordered_at}
use Rattle.wire_levels.proofs.signal_levels.fill.Goals as goal

pub overflow_add-level : goal.overflow_add-level
overflow_add-level c =
    let below = greatest_below (level_in c.loop-place.levels) c.loop-place.place-index c.loop-place.invariant.small (tree_view c.index-as_slice-place.result.value) in
    let small : c.greatest-level.result ≤ c.loop-place.place-index = omega (arith, below, c.greatest-level.ensures) in
    search rules

pub bounds-levels-assign : goal.bounds-levels-assign
bounds-levels-assign c =
    let m = c.args.design.now in
    let order = c.args.order.now in
    let place = c.loop-place.place-index in
    let a = c.index-as_slice-place.result in
    let k = get_or order place 0 in
    let read = c.index-as_slice-place.is ∙ ap (λ (xs : List Assign). get_or xs k a) c.as_slice.ensures.value in
    let at = viewed_at m.assigns.items k a (ordered_at m order c.requires.order place c.loop-place-test.true) read in
    let below = below_count (design_view m) (length c.args.levels.now) c.requires.named k (assignment_view a) at in
    omega (arith, below, c.loop-place.auto.levels)

pub offset_bounds-levels-assign : goal.offset_bounds-levels-assign
offset_bounds-levels-assign c =
    let m = c.args.design.now in
    let order = c.args.order.now in
    let place = c.loop-place.place-index in
    let a = c.index-as_slice-place.result in
    let k = get_or order place 0 in
    let read = c.index-as_slice-place.is ∙ ap (λ (xs : List Assign). get_or xs k a) c.as_slice.ensures.value in
    let at = viewed_at m.assigns.items k a (ordered_at m order c.requires.order place c.loop-place-test.true) read in
    let below = below_count (design_view m) (length c.args.levels.now) c.requires.named k (assignment_view a) at in
    let inside : a.target < length c.loop-place.levels = omega (arith, below, c.loop-place.auto.levels) in
    search rules

pub loop-place-preserved : goal.loop-place-preserved
loop-place-preserved c =
    let m = c.args.design.now in
    let d = design_view m in
    let order = c.args.order.now in
    let levels = c.loop-place.levels in
    let place = c.loop-place.place-index in
    let a = c.index-as_slice-place.result in
    let k = get_or order place 0 in
    let read = c.index-as_slice-place.is ∙ ap (λ (xs : List Assign). get_or xs k a) c.as_slice.ensures.value in
    let at = viewed_at m.assigns.items k a (ordered_at m order c.requires.order place c.loop-place-test.true) read in
    let below = below_count d (length c.args.levels.now) c.requires.named k (assignment_view a) at in
    let inside : a.target < length levels = omega (arith, below, c.loop-place.auto.levels) in
    subst (λ (x : ℕ). IsLevelledTo d order (place + 1) (set levels a.target (x + 1))) (sym c.greatest-level.ensures)
    (levelled_more d c.requires.driven order c.requires.order place k (assignment_view a) levels (slice_get-get_or order place 0 c.loop-place-test.true) at inside c.loop-place.invariant)

pub returns : goal.returns
returns c = all_levelled (design_view c.args.design.now) c.requires.driven c.args.order.now c.requires.order c.loop-place.place-index c.loop-place.levels c.loop-place-test.false c.loop-place.invariant
