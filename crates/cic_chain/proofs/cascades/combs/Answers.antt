use Rattle.std.proofs.Common.{◌≡◌, ℕ, zero, suc, ◌+◌, ◌*◌, ◌<◌, ◌≤◌, arith, subst, ◌∙◌, length-set}
use prog.Memory.{up}
use Rattle.std.proofs.lemmas.List.{length-replicate}
use Rattle.net_graph.proofs.NetLemmas.{Extends-trans}
use Rattle.cic_chain.specs.Pieces.{AddsCombRow}
use Rattle.cic_chain.proofs.CombLemmas.{AddsCombRow-none, AddsCombRow-more}
use Rattle.cic_chain.proofs.cascades.combs.Goals as goal

-- a comb's registers fit the memory
row_size : (delay : ℕ) → delay ≤ 2 → up 8 (up 8 (0 + delay * 8) + 8) < 9223372036854775808
row_size zero h = omega arith
row_size (suc zero) h = omega arith
row_size (suc (suc zero)) h = omega arith
row_size (suc (suc (suc delay))) h = absurd (omega arith)

pub loop-stage-init : goal.loop-stage-init
loop-stage-init g c = record {
  combs = AddsCombRow-none c.args.net.now c.args.from c.args.width g.row.D _ c.requires.within;
  long = length-replicate _ _;
}

pub add_comb-requires : goal.add_comb-requires
add_comb-requires g c =
    (row_size g.row.D c.requires.close, (c.loop-stage.invariant.combs.row.piece.within, (rw c.loop-stage.invariant.combs.row.piece.grows.group c.requires.data_group, (rw c.loop-stage.invariant.combs.row.period c.requires.positive, c.requires.wide))))

pub returns-in_err-delays-clause-extends : goal.returns-in_err-delays-clause-extends
returns-in_err-delays-clause-extends g c = Extends-trans _ _ _ c.loop-stage.invariant.combs.row.piece.grows.extends c.in_err-delays.ensures.extends

pub returns-in_err-delays-clause-group : goal.returns-in_err-delays-clause-group
returns-in_err-delays-clause-group g c = rw c.in_err-delays.ensures.group c.loop-stage.invariant.combs.row.piece.grows.group

pub loop-stage-preserved : goal.loop-stage-preserved
loop-stage-preserved g c = record {
  combs = AddsCombRow-more (omega (arith, c.loop-stage-test.true, c.loop-stage.invariant.long)) c.loop-stage.invariant.combs c.in_ok-delays.ensures.ok;
  long = length-set _ _ _ ∙ c.loop-stage.invariant.long;
}

pub returns-clause-ok : goal.returns-clause-ok
returns-clause-ok g c =
    let all : c.loop-stage.stage ≡ g.row.N = omega arith in
    subst (λ (n : ℕ). AddsCombRow c.args.net.now c.loop-stage.net c.args.from c.args.width n g.row.D c.loop-stage.each c.loop-stage.to) all c.loop-stage.invariant.combs

pub returns-clause-extends : goal.returns-clause-extends
returns-clause-extends g c = c.loop-stage.invariant.combs.row.piece.grows.extends

pub returns-clause-group : goal.returns-clause-group
returns-clause-group g c = c.loop-stage.invariant.combs.row.piece.grows.group
