use Rattle.std.proofs.lemmas.Result.{IfOk-weaker}
use Rattle.net_graph.proofs.NetLemmas.{Extends-trans}
use Rattle.fir_pieces.proofs.ReadersLemmas.{AddsRegister-of}
use Rattle.fir_pieces.proofs.readers.add_register.Goals as goal

pub returns-clause-ok : goal.returns-clause-ok
returns-clause-ok c = IfOk-weaker c.take_next.result _ _ (λ node t. AddsRegister-of c.requires.data_group c.in_ok-node.ensures.ok t) c.take_next.ensures.ok

pub returns-clause-extends : goal.returns-clause-extends
returns-clause-extends c = Extends-trans _ _ _ c.in_ok-node.ensures.extends c.take_next.ensures.extends
