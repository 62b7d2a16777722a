use Rattle.std.proofs.lemmas.Result.{IfOk-weaker}
use Rattle.net_graph.proofs.NetLemmas.{Extends-trans}
use Rattle.pipeline_balance.proofs.TakenLemmas.{IsBitOf-later}
use Rattle.folded_fir.proofs.CopyNetLemmas.{AddsCopy-taken}
use Rattle.folded_fir.proofs.copies.add_copy.Goals as goal

pub taking_register-requires-clause-is_gate : goal.taking_register-requires-clause-is_gate
taking_register-requires-clause-is_gate c = IsBitOf-later c.requires.loads c.in_ok-node.ensures.extends

pub returns-clause-ok : goal.returns-clause-ok
returns-clause-ok c = IfOk-weaker c.taking_register.result _ _ (λ to t. AddsCopy-taken c.group-group.ensures c.in_ok-node.ensures.ok c.free_number.ensures t) c.taking_register.ensures.ok

pub returns-clause-extends : goal.returns-clause-extends
returns-clause-extends c = Extends-trans _ _ _ c.in_ok-node.ensures.extends c.taking_register.ensures.extends
