use Rattle.pipeline_balance.proofs.PairLemmas.{AddsSum-one}
use Rattle.pipeline_balance.proofs.pair.sum_of_one.Goals as goal

pub returns-clause-ok : goal.returns-clause-ok
returns-clause-ok c = AddsSum-one c.args.a c.args.width c.in_ok-held.ensures.ok c.in_ok-node.ensures.ok c.in_ok-held.ensures.plain

pub returns-clause-extends : goal.returns-clause-extends
returns-clause-extends c = (returns-clause-ok c).grows.extends

pub returns-in_err-node-clause-extends : goal.returns-in_err-node-clause-extends
returns-in_err-node-clause-extends c = rw c.in_err-node.ensures.err c.in_ok-held.ensures.ok.grows.extends
