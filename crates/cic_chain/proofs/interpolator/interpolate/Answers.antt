use Rattle.net_graph.proofs.NetLemmas.{Extends-trans}
use Rattle.cic_chain.proofs.InterpolatorLemmas.{AddsInterpolator-all, fast_period}
use Rattle.cic_chain.proofs.interpolator.interpolate.Goals as goal

pub returns-clause-ok : goal.returns-clause-ok
returns-clause-ok g c =
    AddsInterpolator-all c.args.from c.args.width c.args.factor g.row.N g.row.D c.requires.positive c.requires.wide.0 c.requires.factor_low c.requires.some
    (fast_period c.in_ok-fast.ensures.ok c.in_ok-slow.ensures.ok.row c.requires.positive) c.in_ok-slow.ensures.ok.row c.in_ok-fast.ensures.ok c.in_ok-sums.ensures.ok.last

pub returns-clause-extends : goal.returns-clause-extends
returns-clause-extends g c = (returns-clause-ok g c).piece.grows.extends

pub returns-clause-group : goal.returns-clause-group
returns-clause-group g c = (returns-clause-ok g c).piece.grows.group

pub returns-in_err-fast-clause-extends : goal.returns-in_err-fast-clause-extends
returns-in_err-fast-clause-extends g c = Extends-trans _ _ _ c.in_ok-slow.ensures.extends c.in_err-fast.ensures.extends

pub returns-in_err-sums-clause-extends : goal.returns-in_err-sums-clause-extends
returns-in_err-sums-clause-extends g c = Extends-trans _ _ _ c.in_ok-slow.ensures.extends (Extends-trans _ _ _ c.in_ok-fast.ensures.extends c.in_err-sums.ensures.extends)
