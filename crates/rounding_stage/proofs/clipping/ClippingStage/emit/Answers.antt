use Rattle.std.proofs.Common.{refl}
use Rattle.net_graph.proofs.NetLemmas.{Extends-trans}
use Rattle.rounding_stage.proofs.RealisesLemmas.{Realises-pointwise, clips_each, value_range}
use Rattle.rounding_stage.proofs.clipping.ClippingStage.emit.Goals as goal

pub returns-clause-realises : goal.returns-clause-realises
returns-clause-realises g c =
    Realises-pointwise _ (clips_each c.args.self.now.bits) refl c.requires.within c.requires.group c.requires.takes c.in_ok-node.ensures.ok c.in_ok-register.ensures.ok (value_range c.in_ok-value.ensures c.range-range.ensures)

pub returns-clause-extends : goal.returns-clause-extends
returns-clause-extends g c = Extends-trans _ _ _ c.in_ok-node.ensures.extends c.in_ok-register.ensures.extends

pub returns-in_err-register-clause-extends : goal.returns-in_err-register-clause-extends
returns-in_err-register-clause-extends g c = Extends-trans _ _ _ c.in_ok-node.ensures.extends c.in_err-register.ensures.extends
