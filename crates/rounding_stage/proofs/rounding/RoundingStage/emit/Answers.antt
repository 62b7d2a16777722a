use Rattle.std.proofs.Common.{refl}
use Rattle.net_graph.proofs.NetLemmas.{Extends-trans}
use Rattle.rounding_stage.proofs.RealisesLemmas.{Realises-pointwise, rounds_each, value_range, range_low, range_high, range_ordered}
use Rattle.rounding_stage.proofs.rounding.RoundingStage.emit.Goals as goal

pub rounded-requires-clause-range_low : goal.rounded-requires-clause-range_low
rounded-requires-clause-range_low g c = range_low _ _ _ c.requires.room (value_range c.in_ok-value.ensures c.range-range.ensures)

pub rounded-requires-clause-range_high : goal.rounded-requires-clause-range_high
rounded-requires-clause-range_high g c = range_high _ _ _ c.requires.room (value_range c.in_ok-value.ensures c.range-range.ensures)

pub rounded-requires-clause-ordered : goal.rounded-requires-clause-ordered
rounded-requires-clause-ordered g c = range_ordered _ _ _ _ (value_range c.in_ok-value.ensures c.range-range.ensures)

pub returns-clause-realises : goal.returns-clause-realises
returns-clause-realises g c = Realises-pointwise _ (rounds_each c.args.self.now.shift c.args.self.now.mode) refl c.requires.within c.requires.group c.requires.takes c.in_ok-node.ensures.ok c.in_ok-register.ensures.ok (value_range c.in_ok-value.ensures c.range-range.ensures)

pub returns-clause-extends : goal.returns-clause-extends
returns-clause-extends g c = Extends-trans _ _ _ c.in_ok-node.ensures.extends c.in_ok-register.ensures.extends

pub returns-in_err-register-clause-extends : goal.returns-in_err-register-clause-extends
returns-in_err-register-clause-extends g c = Extends-trans _ _ _ c.in_ok-node.ensures.extends c.in_err-register.ensures.extends
