use Rattle.std.proofs.Common.{refl, sym, ◌∙◌, ap, Bool, false, cond}
use Rattle.net_graph.proofs.NetLemmas.{Extends-trans}
use Rattle.pipeline_balance.proofs.PairLemmas.{AddsSum-two, IsLeaf-later}
use Rattle.pipeline_balance.proofs.pair.sum_of_two.Goals as goal

pub shifted-requires-2-clause-is_leaf : goal.shifted-requires-2-clause-is_leaf
shifted-requires-2-clause-is_leaf c = IsLeaf-later c.requires.leaf_b c.in_ok-left.ensures.ok.grows.extends

pub returns-in_err-sum-clause-extends : goal.returns-in_err-sum-clause-extends
returns-in_err-sum-clause-extends c =
    rw c.in_err-sum.ensures.err (Extends-trans _ _ _ c.in_ok-left.ensures.ok.grows.extends c.in_ok-right.ensures.ok.grows.extends)

pub returns-in_err-node-clause-extends : goal.returns-in_err-node-clause-extends
returns-in_err-node-clause-extends c =
    rw c.in_err-node.ensures.err (Extends-trans _ _ _ c.in_ok-left.ensures.ok.grows.extends (Extends-trans _ _ _ c.in_ok-right.ensures.ok.grows.extends c.in_ok-sum.ensures.ok.grows.extends))

pub returns-then-a-clause-ok : goal.returns-then-a-clause-ok
returns-then-a-clause-ok c =
    AddsSum-two c.args.a c.args.b c.args.width _ c.in_ok-left.ensures.ok c.in_ok-right.ensures.ok c.in_ok-sum.ensures.ok c.in_ok-node.ensures.ok (rw c.if-a.true refl) c.in_ok-left.ensures.plain c.in_ok-right.ensures.plain c.in_ok-sum.ensures.shallow

pub returns-then-a-clause-extends : goal.returns-then-a-clause-extends
returns-then-a-clause-extends c = (returns-then-a-clause-ok c).grows.extends

pub returns-else-a-clause-ok : goal.returns-else-a-clause-ok
returns-else-a-clause-ok c =
    AddsSum-two c.args.a c.args.b c.args.width _ c.in_ok-left.ensures.ok c.in_ok-right.ensures.ok c.in_ok-sum.ensures.ok c.in_ok-node.ensures.ok (c.if-a.false ∙ sym (ap (λ (m : Bool). cond m c.args.b.negative false) c.if-a.false)) c.in_ok-left.ensures.plain c.in_ok-right.ensures.plain c.in_ok-sum.ensures.shallow

pub returns-else-a-clause-extends : goal.returns-else-a-clause-extends
returns-else-a-clause-extends c = (returns-else-a-clause-ok c).grows.extends
