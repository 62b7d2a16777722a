use Rattle.std.proofs.Common.{◌≡◌, ℕ, suc, ◌+◌, ◌≤◌, length, map, Some, slice_get, arith, sym, ap, ◌∙◌, subst, List, ◌++◌}
use Rattle.std.proofs.lemmas.Option.{slice_get_read}
use Rattle.std.proofs.lemmas.List.{nil_from_length}
use borrow.Author.Tests.{eqb-true, eqb-false}
use Rattle.net_graph.specs.declared.cell.Leaf.{Leaf}
use Rattle.net_graph.proofs.NetLemmas.{Extends-trans, Extends-adds}
use Rattle.pipeline_balance.specs.Tree.{IsLevel}
use Rattle.pipeline_balance.proofs.TreeLemmas.{IsPart, IsPart-start, IsPart-step, IsPart-enough, IsTree-root, IsTree-none, one_term, root_has_room}
use Rattle.pipeline_balance.proofs.adder_tree.tree.Goals as goal

pub returns-then-is_empty-clause-ok : goal.returns-then-is_empty-clause-ok
returns-then-is_empty-clause-ok c =
    let none : length c.args.leaves.now ≡ 0 = eqb-true _ _ (sym c.if-is_empty.ensures) in
    rw c.new-registers.ensures.items (IsTree-none _ _ c.args.leaves.now c.args.widths.now c.args.levels c.in_ok-root.root c.requires.data_group (nil_from_length c.args.leaves.now none) c.in_ok-root.ensures.ok)

pub returns-then-is_empty-clause-extends : goal.returns-then-is_empty-clause-extends
returns-then-is_empty-clause-extends c = Extends-adds c.in_ok-root.ensures.ok

pub loop-level-init : goal.loop-level-init
loop-level-init c =
    rw (c.in_ok-terms.ensures.items, c.new-registers.ensures.items) (IsPart-start c.args.net.now c.args.leaves.now c.args.widths.now c.requires.leaves)

pub loop-level-preserved : goal.loop-level-preserved
loop-level-preserved c =
    let inv = c.loop-level.invariant in
    let at : c.len.result ≡ length c.loop-level.registers.items = omega (arith, c.len.ensures) in
    let added = subst
    (λ (xs : List Leaf). IsLevel c.loop-level.net c.add_level.new.net xs c.args.widths.now c.len.result c.in_ok-sums.sums.items) c.deref.ensures.value c.in_ok-sums.ensures.ok in
    let level = subst (λ (n : ℕ). IsLevel c.loop-level.net c.add_level.new.net c.loop-level.terms.items c.args.widths.now n c.in_ok-sums.sums.items) at added in
    let step = IsPart-step c.args.net.now c.loop-level.net c.add_level.new.net c.args.leaves.now c.loop-level.terms.items c.in_ok-sums.sums.items c.args.widths.now c.loop-level._level c.loop-level.registers.items inv level
    c.requires.wide (IsPart-enough c.args.levels inv c.loop-level-test.true c.requires.each) in
    let next : suc c.loop-level._level ≡ c.loop-level._level + 1 = omega arith in
    let nodes : c.push_nodes.new.nodes.items ≡ c.loop-level.registers.items ++ map (λ (term : Leaf). term.node) c.in_ok-sums.sums.items = c.in_ok-push_nodes.ensures.ok
    ∙ ap (λ (xs : List Leaf). c.loop-level.registers.items ++ map (λ (term : Leaf). term.node) xs) c.deref-in-loop-level.ensures.value in
    rw (← next, nodes) step

pub add_level-requires-clause-leaves : goal.add_level-requires-clause-leaves
add_level-requires-clause-leaves c =
    λ k leaf is. c.loop-level.invariant.are_leaves k leaf (subst (λ (xs : List Leaf). slice_get xs k ≡ Some leaf) c.deref.ensures.value is)

pub add_level-requires-clause-enough : goal.add_level-requires-clause-enough
add_level-requires-clause-enough c =
    omega (arith, IsPart-enough c.args.levels c.loop-level.invariant c.loop-level-test.true c.requires.each, ap length c.deref.ensures.value, c.len.ensures)

pub returns-in_err-sums-clause-extends : goal.returns-in_err-sums-clause-extends
returns-in_err-sums-clause-extends c =
    Extends-trans _ _ _ c.loop-level.invariant.grows.extends c.add_level.ensures.extends

pub returns-in_err-push_nodes-clause-extends : goal.returns-in_err-push_nodes-clause-extends
returns-in_err-push_nodes-clause-extends c =
    Extends-trans _ _ _ c.loop-level.invariant.grows.extends c.in_ok-sums.ensures.extends

pub index-requires : goal.index-requires
index-requires c =
    let e : c.loop-level._level ≡ c.args.levels = omega arith in
    let p = subst (λ (level : ℕ). IsPart c.args.net.now c.loop-level.net c.args.leaves.now c.args.widths.now level c.loop-level.terms.items c.loop-level.registers.items) e c.loop-level.invariant in
    let some : 1 ≤ length c.args.leaves.now = let ne = eqb-false _ _ (sym c.if-is_empty.ensures) in omega arith in
    let one : length c.loop-level.terms.items ≡ 1 = one_term _ _ _ _ _ _ _ p c.requires.deep some in
    omega arith

pub root_of-requires-clause-is_leaf : goal.root_of-requires-clause-is_leaf
root_of-requires-clause-is_leaf c =
    let e : c.loop-level._level ≡ c.args.levels = omega arith in
    let p = subst (λ (level : ℕ). IsPart c.args.net.now c.loop-level.net c.args.leaves.now c.args.widths.now level c.loop-level.terms.items c.loop-level.registers.items) e c.loop-level.invariant in
    let some : 1 ≤ length c.args.leaves.now = let ne = eqb-false _ _ (sym c.if-is_empty.ensures) in omega arith in
    let one : length c.loop-level.terms.items ≡ 1 = one_term _ _ _ _ _ _ _ p c.requires.deep some in
    let is : slice_get c.loop-level.terms.items 0 ≡ Some c.index.result.now = slice_get_read c.loop-level.terms.items 1 0 c.index.result.now (sym one) (omega arith) c.index.ensures in
    c.loop-level.invariant.are_leaves 0 c.index.result.now is

pub root_of-requires-clause-room : goal.root_of-requires-clause-room
root_of-requires-clause-room c =
    let e : c.loop-level._level ≡ c.args.levels = omega arith in
    let p = subst (λ (level : ℕ). IsPart c.args.net.now c.loop-level.net c.args.leaves.now c.args.widths.now level c.loop-level.terms.items c.loop-level.registers.items) e c.loop-level.invariant in
    let some : 1 ≤ length c.args.leaves.now = let ne = eqb-false _ _ (sym c.if-is_empty.ensures) in omega arith in
    let one : length c.loop-level.terms.items ≡ 1 = one_term _ _ _ _ _ _ _ p c.requires.deep some in
    let is : slice_get c.loop-level.terms.items 0 ≡ Some c.index.result.now = slice_get_read c.loop-level.terms.items 1 0 c.index.result.now (sym one) (omega arith) c.index.ensures in
    root_has_room _ _ _ _ _ _ _ p c.requires.deep some c.index.result.now is c.requires.each c.requires.leaf_room c.requires.root_room c.requires.leaves

pub returns-in_err-root-2-clause-extends : goal.returns-in_err-root-2-clause-extends
returns-in_err-root-2-clause-extends c =
    Extends-trans _ _ _ c.loop-level.invariant.grows.extends c.root_of.ensures.extends

pub returns-clause-ok : goal.returns-clause-ok
returns-clause-ok c =
    let e : c.loop-level._level ≡ c.args.levels = omega arith in
    let p = subst (λ (level : ℕ). IsPart c.args.net.now c.loop-level.net c.args.leaves.now c.args.widths.now level c.loop-level.terms.items c.loop-level.registers.items) e c.loop-level.invariant in
    let some : 1 ≤ length c.args.leaves.now = let ne = eqb-false _ _ (sym c.if-is_empty.ensures) in omega arith in
    let one : length c.loop-level.terms.items ≡ 1 = one_term _ _ _ _ _ _ _ p c.requires.deep some in
    let is : slice_get c.loop-level.terms.items 0 ≡ Some c.index.result.now = slice_get_read c.loop-level.terms.items 1 0 c.index.result.now (sym one) (omega arith) c.index.ensures in
    IsTree-root _ _ _ _ _ _ _ p c.requires.deep some _ c.index.result.now c.in_ok-root-2.root is c.in_ok-root-2.ensures.ok c.in_ok-root-2.ensures.shallow c.in_ok-root-2.ensures.linear

pub returns-clause-extends : goal.returns-clause-extends
returns-clause-extends c =
    Extends-trans _ _ _ c.loop-level.invariant.grows.extends c.in_ok-root-2.ensures.extends

pub add_level-requires-clause-data_group : goal.add_level-requires-clause-data_group
add_level-requires-clause-data_group c = rw c.loop-level.invariant.grows.group c.requires.data_group

pub root_of-requires-clause-data_group : goal.root_of-requires-clause-data_group
root_of-requires-clause-data_group c = rw c.loop-level.invariant.grows.group c.requires.data_group
