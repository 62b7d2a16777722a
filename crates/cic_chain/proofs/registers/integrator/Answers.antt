use Rattle.net_graph.proofs.NetLemmas.{Extends-register, Extends-then}
use Rattle.cic_chain.proofs.StepLemmas.{AddsIntegrator-circuit}
use Rattle.cic_chain.proofs.registers.integrator.Goals as goal

pub returns-clause-ok : goal.returns-clause-ok
returns-clause-ok c =
    AddsIntegrator-circuit c.args.from c.args.gate c.in_ok-register.register c.in_ok-sum.sum c.in_ok-next.next c.args.width c.requires.data_group c.requires.wide.0 c.requires.within c.requires.is_gate c.in_ok-register.ensures.ok c.in_ok-sum.ensures.ok c.in_ok-next.ensures.ok c.bind.ensures

pub returns-clause-extends : goal.returns-clause-extends
returns-clause-extends c = (returns-clause-ok c).piece.grows.extends

pub returns-in_err-sum-clause-extends : goal.returns-in_err-sum-clause-extends
returns-in_err-sum-clause-extends c = rw c.in_err-sum.ensures.err (Extends-register c.in_ok-register.ensures.ok.adds)

pub returns-in_err-next-clause-extends : goal.returns-in_err-next-clause-extends
returns-in_err-next-clause-extends c = rw c.in_err-next.ensures.err (Extends-then (Extends-register c.in_ok-register.ensures.ok.adds) c.in_ok-sum.ensures.ok)
