use Rattle.std.proofs.Common.{◌≡◌, ℕ, arith, subst, ◌∙◌, length-set}
use Rattle.std.proofs.lemmas.List.{length-replicate}
use Rattle.net_graph.proofs.NetLemmas.{Extends-trans}
use Rattle.cic_chain.proofs.RowLemmas.{IsRow, IsRow-start, IsRow-more, IsFilled, IsFilled-none, IsFilled-more, AddsRow-filled}
use Rattle.cic_chain.proofs.cascades.integrators.Goals as goal

pub loop-stage-init : goal.loop-stage-init
loop-stage-init g c = record {
  row = IsRow-start c.args.from c.args.width c.requires.data_group c.requires.within c.in_ok-gate.ensures.ok;
  filled = IsFilled-none _ c.args.from c.args.width c.args.from.node _;
  long = length-replicate _ _;
}

pub integrator-requires-clause-within : goal.integrator-requires-clause-within
integrator-requires-clause-within g c = c.loop-stage.invariant.row.piece.within

pub integrator-requires-clause-data_group : goal.integrator-requires-clause-data_group
integrator-requires-clause-data_group g c = rw c.loop-stage.invariant.row.piece.grows.group c.requires.data_group

pub integrator-requires-clause-is_gate : goal.integrator-requires-clause-is_gate
integrator-requires-clause-is_gate g c = c.loop-stage.invariant.row.is_gate

pub returns-in_err-last-clause-extends : goal.returns-in_err-last-clause-extends
returns-in_err-last-clause-extends g c = Extends-trans _ _ _ c.loop-stage.invariant.row.piece.grows.extends c.in_err-last.ensures.extends

pub returns-in_err-last-clause-group : goal.returns-in_err-last-clause-group
returns-in_err-last-clause-group g c = rw c.in_err-last.ensures.group c.loop-stage.invariant.row.piece.grows.group

pub loop-stage-preserved : goal.loop-stage-preserved
loop-stage-preserved g c =
    let row = IsRow-more c.args.from c.args.width c.requires.positive c.requires.wide.0 c.loop-stage.invariant.row c.in_ok-last.ensures.ok in
    record {
      row = row;
      filled = IsFilled-more (omega (arith, c.loop-stage-test.true, c.loop-stage.invariant.long)) c.in_ok-last.ensures.extends c.loop-stage.invariant.filled row;
      long = length-set _ _ _ ∙ c.loop-stage.invariant.long;
    }

pub returns-clause-ok : goal.returns-clause-ok
returns-clause-ok g c =
    let all : c.loop-stage.stage ≡ g.row.N = omega arith in
    AddsRow-filled c.args.from c.args.width g.row.N c.requires.some
    (subst (λ (n : ℕ). IsRow c.args.net.now c.loop-stage.net c.args.from c.in_ok-gate.gate c.args.width n c.loop-stage.last) all c.loop-stage.invariant.row)
    (subst (λ (n : ℕ). IsFilled c.loop-stage.net.cells c.args.from c.args.width n c.loop-stage.last c.loop-stage.registers) all c.loop-stage.invariant.filled)

pub returns-clause-extends : goal.returns-clause-extends
returns-clause-extends g c = c.loop-stage.invariant.row.piece.grows.extends

pub returns-clause-group : goal.returns-clause-group
returns-clause-group g c = c.loop-stage.invariant.row.piece.grows.group
