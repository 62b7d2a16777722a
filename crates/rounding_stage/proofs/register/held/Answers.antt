use Rattle.net_graph.proofs.NetLemmas.{Extends-trans}
use Rattle.rounding_stage.proofs.HeldLemmas.{IsHeld-taken}
use Rattle.rounding_stage.proofs.register.held.Goals as goal

pub returns-clause-ok : goal.returns-clause-ok
returns-clause-ok c = IsHeld-taken c.in_ok-gate.ensures.ok c.group-group.ensures c.in_ok-register.ensures.ok

pub returns-clause-extends : goal.returns-clause-extends
returns-clause-extends c = Extends-trans _ _ _ c.in_ok-gate.ensures.extends c.in_ok-register.ensures.extends

pub returns-in_err-register-clause-extends : goal.returns-in_err-register-clause-extends
returns-in_err-register-clause-extends c = Extends-trans _ _ _ c.in_ok-gate.ensures.extends c.in_err-register.ensures.extends
