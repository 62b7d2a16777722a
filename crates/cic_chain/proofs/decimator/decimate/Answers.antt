use Rattle.std.proofs.Common.{ℕ, ◌+◌, ◌-◌, ◌*◌, subst}
use Rattle.net_graph.specs.declared.cell.Stream.{Stream}
use Rattle.net_graph.proofs.NetLemmas.{Extends-trans}
use Rattle.cic_chain.specs.Pieces.{AddsCombs, node_at}
use Rattle.cic_chain.proofs.DecimatorLemmas.{AddsDecimator-both}
use Rattle.cic_chain.proofs.decimator.decimate.Goals as goal

pub returns-clause-ok : goal.returns-clause-ok
returns-clause-ok g c =
    let from = c.args.from in
    let kept : ℕ → Stream = λ (n : ℕ). record { node = node_at c.in_ok-sums.sums (g.row.N - 1); period = from.period * n; offset = from.offset + (g.row.N - 1) * from.period + 1 } in
    AddsDecimator-both from c.args.width c.args.factor g.row.N g.row.D c.requires.positive c.requires.wide.0 c.requires.factor_low c.requires.some c.in_ok-sums.ensures.ok.last
    (subst (λ (n : ℕ). AddsCombs c.integrators.new.net c.combs.new.net (kept n) c.args.width g.row.N g.row.D c.in_ok-to.field-0.to) c.from.ensures c.in_ok-to.ensures.ok.row)

pub returns-clause-extends : goal.returns-clause-extends
returns-clause-extends g c = (returns-clause-ok g c).piece.grows.extends

pub returns-clause-group : goal.returns-clause-group
returns-clause-group g c = (returns-clause-ok g c).piece.grows.group

pub returns-in_err-to-clause-extends : goal.returns-in_err-to-clause-extends
returns-in_err-to-clause-extends g c = Extends-trans _ _ _ c.in_ok-sums.ensures.extends c.in_err-to.ensures.extends
