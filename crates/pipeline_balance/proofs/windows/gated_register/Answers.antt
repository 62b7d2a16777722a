use Rattle.net_graph.proofs.NetLemmas.{Extends-register}
use Rattle.pipeline_balance.proofs.TakenLemmas.{IsTaken-gate}
use Rattle.pipeline_balance.proofs.windows.gated_register.Goals as goal

pub returns-in_err-next-clause-extends : goal.returns-in_err-next-clause-extends
returns-in_err-next-clause-extends c = rw c.in_err-next.ensures.err (Extends-register c.in_ok-register.ensures.ok)

-- the circuit's law
pub returns-clause-ok : goal.returns-clause-ok
returns-clause-ok c =
    IsTaken-gate c.width-width.ensures.wide.0 c.requires.data_group c.requires.within c.width-width.ensures.width c.requires.data_name c.requires.gate c.in_ok-register.ensures.ok c.in_ok-next.ensures.ok c.bind.ensures

pub returns-clause-extends : goal.returns-clause-extends
returns-clause-extends c = (returns-clause-ok c).lengthens.extends
