use Rattle.std.proofs.Common.{ℕ, ◌+◌, length, get_or, arith, ap, subst, sym, [], ◌∷◌, length-append}
use Rattle.net_graph.proofs.NetLemmas.{Extends-trans}
use Rattle.pipeline_balance.specs.Leaves.{segment}
use Rattle.pipeline_balance.specs.Tree.{AddsSum, pair_adders}
use Rattle.pipeline_balance.proofs.PairLemmas.{IsLeaf-later}
use Rattle.pipeline_balance.proofs.LevelLemmas.{LevelSoFar-start, LevelSoFar-step, LevelSoFar-level}
use Rattle.pipeline_balance.proofs.level.add_level.Goals as goal

pub loop-j-init : goal.loop-j-init
loop-j-init c = rw c.new-terms.ensures.items (omega arith, LevelSoFar-start c.args.net.now c.args.leaves.now c.args.widths.now c.args.first)

pub sum_at-requires-clause-data_group : goal.sum_at-requires-clause-data_group
sum_at-requires-clause-data_group c = rw c.loop-j.invariant.1.grows.group c.requires.data_group

pub sum_at-requires-clause-leaves : goal.sum_at-requires-clause-leaves
sum_at-requires-clause-leaves c = λ k leaf is. IsLeaf-later (c.requires.leaves k leaf is) c.loop-j.invariant.1.grows.extends

pub returns-in_err-term-clause-extends : goal.returns-in_err-term-clause-extends
returns-in_err-term-clause-extends c = Extends-trans _ _ _ c.loop-j.invariant.1.grows.extends c.in_err-term.ensures.extends

pub returns-in_err-push-clause-extends : goal.returns-in_err-push-clause-extends
returns-in_err-push-clause-extends c = Extends-trans _ _ _ c.loop-j.invariant.1.grows.extends c.in_ok-term.ensures.extends

pub loop-j-preserved : goal.loop-j-preserved
loop-j-preserved c =
    let i = c.loop-j.invariant in
    let added = subst (λ (n : ℕ). AddsSum c.loop-j.net c.sum_at.new.net (segment 1 n c.args.leaves.now) (get_or c.args.widths.now (c.args.first + n) 0) (pair_adders (length c.args.leaves.now) n) c.in_ok-term.term) (sym i.0) c.in_ok-term.ensures.ok in
    let items = c.in_ok-push.ensures.items in (
      omega (arith, ap length items, length-append c.loop-j.terms.items (c.in_ok-term.term ∷ []), i.0),
      rw items (LevelSoFar-step i.1 added),
    )

pub returns-clause-ok : goal.returns-clause-ok
returns-clause-ok c = LevelSoFar-level c.loop-j.invariant.1 (omega (arith, c.loop-j.invariant.0))
