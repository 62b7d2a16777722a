use Rattle.net_graph.proofs.NetLemmas.{Extends-adds}
use Rattle.net_outputs.proofs.RegisterLemmas.{IsCutTo-shl}
use Rattle.net_outputs.proofs.register.cut_to.Goals as goal

pub returns-clause-ok : goal.returns-clause-ok
returns-clause-ok c = IsCutTo-shl c.requires.data_group c.requires.wide.0 c.in_ok-to.ensures.ok

pub returns-clause-extends : goal.returns-clause-extends
returns-clause-extends c = Extends-adds c.in_ok-to.ensures.ok
