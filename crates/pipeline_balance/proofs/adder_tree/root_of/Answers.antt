use Rattle.std.proofs.Common.{◌≤◌, arith, refl, ap, sym, subst, ℕ}
use Rattle.net_graph.specs.Count.{one_if}
use Rattle.net_graph.proofs.NetLemmas.{Extends-trans, Extends-adds}
use Rattle.pipeline_balance.specs.Leaves.{leaf_value}
use Rattle.pipeline_balance.specs.Tree.{AddsNode}
use Rattle.pipeline_balance.proofs.PairLemmas.{IsLeaf-later, IsNegatable-later, AddsNode-negated, AddsNode-positive}
use Rattle.net_graph.proofs.GrowLemmas.{Grows-data}
use Rattle.pipeline_balance.proofs.ShallowLemmas.{KeepsShallow-negated, KeepsShallow-passes}
use Rattle.pipeline_balance.proofs.ShapeLemmas.{KeepsShapes-trans, KeepsShapes-adds}
use Rattle.pipeline_balance.proofs.adder_tree.root_of.Goals as goal

pub overflow_add-width : goal.overflow_add-width
overflow_add-width c =
    let h = (IsNegatable-later c.requires.is_leaf (c.requires.room c.if-term.true) c.in_ok-held.ensures.ok.grows.extends).room in let e = c.width-width.ensures.width in omega arith

pub overflow_add-width-then-term : goal.overflow_add-width-then-term
overflow_add-width-then-term c =
    let h = (IsNegatable-later c.requires.is_leaf (c.requires.room c.if-term.true) c.in_ok-held.ensures.ok.grows.extends).room in let e = c.width-width.ensures.width in omega arith

pub sub-requires-clause-wide : goal.sub-requires-clause-wide
sub-requires-clause-wide c =
    let h = (IsNegatable-later c.requires.is_leaf (c.requires.room c.if-term.true) c.in_ok-held.ensures.ok.grows.extends).room in let e = c.width-width.ensures.width in (omega arith, omega arith)

pub returns-in_err-root-clause-extends : goal.returns-in_err-root-clause-extends
returns-in_err-root-clause-extends c = rw c.in_err-root.ensures.err (Extends-trans _ _ _ c.in_ok-held.ensures.ok.grows.extends (Extends-adds c.in_ok-zero.ensures.ok))

pub returns-in_ok-root-clause-ok : goal.returns-in_ok-root-clause-ok
returns-in_ok-root-clause-ok c =
    subst (λ (n : ℕ). AddsNode c.args.net.now c.sub.new.self n c.in_ok-root.root (λ cut v t. leaf_value v t c.args.term)) (sym (ap one_if c.if-term.true))
    (AddsNode-negated c.args.term c.width-width.result _ c.requires.data_group c.if-term.true (IsLeaf-later c.requires.is_leaf c.in_ok-held.ensures.ok.grows.extends) c.width-width.ensures.width refl c.in_ok-held.ensures.ok c.in_ok-zero.ensures.ok c.in_ok-root.ensures.ok)

pub returns-in_ok-root-clause-extends : goal.returns-in_ok-root-clause-extends
returns-in_ok-root-clause-extends c = (returns-in_ok-root-clause-ok c).grows.extends

pub returns-else-term-clause-ok : goal.returns-else-term-clause-ok
returns-else-term-clause-ok c =
    subst (λ (n : ℕ). AddsNode c.args.net.now c.shifted.new.net n c.in_ok-held.held (λ cut v t. leaf_value v t c.args.term)) (sym (ap one_if c.if-term.false)) (AddsNode-positive c.args.term c.if-term.false c.in_ok-held.ensures.ok)

pub returns-in_ok-root-clause-shallow : goal.returns-in_ok-root-clause-shallow
returns-in_ok-root-clause-shallow c =
    let grown = c.in_ok-held.ensures.ok.grows in
    let mid_group = subst (λ (g : ℕ). 1 ≤ g) (sym grown.group) c.requires.data_group in
    KeepsShallow-negated c.args.term.node grown c.in_ok-held.ensures.plain (Grows-data mid_group c.in_ok-zero.ensures.ok refl) c.in_ok-zero.ensures.ok c.in_ok-root.ensures.ok

pub returns-else-term-clause-shallow : goal.returns-else-term-clause-shallow
returns-else-term-clause-shallow c = KeepsShallow-passes c.in_ok-held.ensures.plain

pub returns-in_ok-root-clause-linear : goal.returns-in_ok-root-clause-linear
returns-in_ok-root-clause-linear c = KeepsShapes-trans c.in_ok-held.ensures.plain.linear (KeepsShapes-trans (KeepsShapes-adds c.in_ok-zero.ensures.ok tt) (KeepsShapes-adds c.in_ok-root.ensures.ok tt))

pub returns-else-term-clause-linear : goal.returns-else-term-clause-linear
returns-else-term-clause-linear c = c.in_ok-held.ensures.plain.linear
