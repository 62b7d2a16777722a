use Rattle.std.proofs.Common.{◌+◌, ◌*◌, sym, subst, List, ℕ, length}
use Rattle.std.proofs.lemmas.Option.{slice_get-get_or}
use Rattle.std.proofs.lemmas.Result.{IfOk-weaker}
use Rattle.net_graph.specs.declared.cell.Leaf.{Leaf}
use Rattle.pipeline_balance.specs.Leaves.{segment}
use Rattle.pipeline_balance.specs.Tree.{AddsSum}
use Rattle.pipeline_balance.proofs.SegmentLemmas.{segment_two, segment_one}
use Rattle.pipeline_balance.proofs.LevelLemmas.{pair_adders-whole, pair_adders-alone}
use Rattle.pipeline_balance.proofs.level.sum_at.Goals as goal

pub sum_of_two-requires-clause-leaf_a : goal.sum_of_two-requires-clause-leaf_a
sum_of_two-requires-clause-leaf_a c = c.requires.leaves (c.args.j * 2) _ (slice_get-get_or c.args.leaves.now (c.args.j * 2) _ c.requires.within)

pub sum_of_two-requires-clause-leaf_b : goal.sum_of_two-requires-clause-leaf_b
sum_of_two-requires-clause-leaf_b c = c.requires.leaves (c.args.j * 2 + 1) _ (slice_get-get_or c.args.leaves.now (c.args.j * 2 + 1) _ c.if-j-leaves.true)

pub sum_of_one-requires-clause-leaf_a : goal.sum_of_one-requires-clause-leaf_a
sum_of_one-requires-clause-leaf_a c = c.requires.leaves (c.args.j * 2) _ (slice_get-get_or c.args.leaves.now (c.args.j * 2) _ c.requires.within)

pub returns-then-j-leaves-clause-ok : goal.returns-then-j-leaves-clause-ok
returns-then-j-leaves-clause-ok c =
    let pair = segment_two c.args.leaves.now c.args.j _ _ (slice_get-get_or c.args.leaves.now (c.args.j * 2) _ c.requires.within) (slice_get-get_or c.args.leaves.now (c.args.j * 2 + 1) _ c.if-j-leaves.true) in
    IfOk-weaker c.sum_of_two.result _ _
    (λ term added.
    subst (λ (n : ℕ). AddsSum c.args.net.now c.sum_of_two.new.net (segment 1 c.args.j c.args.leaves.now) c.args.width n term) (sym (pair_adders-whole (length c.args.leaves.now) c.args.j c.if-j-leaves.true))
    (subst (λ (leaves : List Leaf). AddsSum c.args.net.now c.sum_of_two.new.net leaves c.args.width 1 term) (sym pair) added)) c.sum_of_two.ensures.ok

pub returns-else-j-leaves-clause-ok : goal.returns-else-j-leaves-clause-ok
returns-else-j-leaves-clause-ok c =
    let alone = segment_one c.args.leaves.now c.args.j _ (slice_get-get_or c.args.leaves.now (c.args.j * 2) _ c.requires.within) c.if-j-leaves.false in
    IfOk-weaker c.sum_of_one.result _ _
    (λ term added.
    subst (λ (n : ℕ). AddsSum c.args.net.now c.sum_of_one.new.net (segment 1 c.args.j c.args.leaves.now) c.args.width n term) (sym (pair_adders-alone (length c.args.leaves.now) c.args.j c.if-j-leaves.false))
    (subst (λ (leaves : List Leaf). AddsSum c.args.net.now c.sum_of_one.new.net leaves c.args.width 0 term) (sym alone) added)) c.sum_of_one.ensures.ok
