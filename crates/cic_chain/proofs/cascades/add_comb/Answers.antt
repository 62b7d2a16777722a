use Rattle.std.proofs.Common.{◌≡◌, ℕ, arith, subst, ◌∙◌, length-set}
use Rattle.std.proofs.lemmas.List.{length-replicate}
use Rattle.net_graph.proofs.NetLemmas.{Extends-trans, Extends-adds}
use Rattle.pipeline_balance.proofs.TakenLemmas.{IsGate-later}
use Rattle.cic_chain.proofs.RowLemmas.{IsDelayed, IsDelayed-start, IsDelayed-more, AreDelays, AreDelays-none, AreDelays-more, AddsComb-circuit}
use Rattle.cic_chain.proofs.cascades.add_comb.Goals as goal

pub loop-value-init : goal.loop-value-init
loop-value-init g c = record {
  delayed = IsDelayed-start c.args.from c.args.width c.requires.data_group c.requires.within c.in_ok-gate.ensures.ok;
  filled = AreDelays-none _ c.args.from c.args.width _;
  long = length-replicate _ _;
}

pub held-requires-clause-within : goal.held-requires-clause-within
held-requires-clause-within g c = c.loop-value.invariant.delayed.piece.within

pub held-requires-clause-data_group : goal.held-requires-clause-data_group
held-requires-clause-data_group g c = rw c.loop-value.invariant.delayed.piece.grows.group c.requires.data_group

pub held-requires-clause-is_gate : goal.held-requires-clause-is_gate
held-requires-clause-is_gate g c = c.loop-value.invariant.delayed.is_gate

pub returns-in_err-last-clause-extends : goal.returns-in_err-last-clause-extends
returns-in_err-last-clause-extends g c = Extends-trans _ _ _ c.loop-value.invariant.delayed.piece.grows.extends c.in_err-last.ensures.extends

pub returns-in_err-last-clause-group : goal.returns-in_err-last-clause-group
returns-in_err-last-clause-group g c = rw c.in_err-last.ensures.group c.loop-value.invariant.delayed.piece.grows.group

pub loop-value-preserved : goal.loop-value-preserved
loop-value-preserved g c =
    let delayed = IsDelayed-more c.args.from c.args.width c.requires.positive c.requires.wide.0 c.loop-value.invariant.delayed c.in_ok-last.ensures.ok in
    record {
      delayed = delayed;
      filled = AreDelays-more (omega (arith, c.loop-value-test.true, c.loop-value.invariant.long)) c.in_ok-last.ensures.extends c.loop-value.invariant.filled delayed;
      long = length-set _ _ _ ∙ c.loop-value.invariant.long;
    }

pub sub-requires-clause-has_a : goal.sub-requires-clause-has_a
sub-requires-clause-has_a g c = let l = c.loop-value.invariant.delayed.piece.grows.extends.longer in let w = c.requires.within in omega arith

pub sub-requires-clause-has_b : goal.sub-requires-clause-has_b
sub-requires-clause-has_b g c = c.loop-value.invariant.delayed.piece.within

pub returns-in_err-sub-clause-extends : goal.returns-in_err-sub-clause-extends
returns-in_err-sub-clause-extends g c = rw c.in_err-sub.ensures.err c.loop-value.invariant.delayed.piece.grows.extends

pub returns-in_err-sub-clause-group : goal.returns-in_err-sub-clause-group
returns-in_err-sub-clause-group g c = rw c.in_err-sub.ensures.err c.loop-value.invariant.delayed.piece.grows.group

pub held-requires-2-clause-data_group : goal.held-requires-2-clause-data_group
held-requires-2-clause-data_group g c = rw (c.in_ok-sub.ensures.ok.group, c.loop-value.invariant.delayed.piece.grows.group) c.requires.data_group

pub held-requires-2-clause-is_gate : goal.held-requires-2-clause-is_gate
held-requires-2-clause-is_gate g c = IsGate-later _ _ c.args.from.period c.args.from.offset c.in_ok-gate.gate (Extends-adds c.in_ok-sub.ensures.ok) c.loop-value.invariant.delayed.is_gate

pub returns-in_err-difference-clause-extends : goal.returns-in_err-difference-clause-extends
returns-in_err-difference-clause-extends g c = Extends-trans _ _ _ c.loop-value.invariant.delayed.piece.grows.extends (Extends-trans _ _ _ (Extends-adds c.in_ok-sub.ensures.ok) c.in_err-difference.ensures.extends)

pub returns-in_err-difference-clause-group : goal.returns-in_err-difference-clause-group
returns-in_err-difference-clause-group g c = rw (c.in_err-difference.ensures.group, c.in_ok-sub.ensures.ok.group) c.loop-value.invariant.delayed.piece.grows.group

pub returns-clause-ok : goal.returns-clause-ok
returns-clause-ok g c =
    let all : c.loop-value.value ≡ g.row.D = omega arith in
    AddsComb-circuit c.args.from c.args.width g.row.D c.requires.positive c.requires.wide.0 c.requires.data_group c.requires.within
    (subst (λ (n : ℕ). IsDelayed c.args.net.now c.loop-value.net c.args.from c.in_ok-gate.gate c.args.width n c.loop-value.last) all c.loop-value.invariant.delayed)
    (subst (λ (n : ℕ). AreDelays c.loop-value.net.cells c.args.from c.args.width n c.loop-value.delays) all c.loop-value.invariant.filled) c.in_ok-sub.ensures.ok c.in_ok-difference.ensures.ok

pub returns-clause-extends : goal.returns-clause-extends
returns-clause-extends g c = (returns-clause-ok g c).piece.grows.extends

pub returns-clause-group : goal.returns-clause-group
returns-clause-group g c = (returns-clause-ok g c).piece.grows.group
