use Rattle.std.proofs.lemmas.Result.{IfOk-weaker}
use Rattle.pipeline_balance.specs.Ticks.{IsTickAfter}
use Rattle.pipeline_balance.proofs.TicksLemmas.{AddsBits-regroup}
use Rattle.pipeline_balance.proofs.ticks.ticks_after.Goals as goal

-- the group is put back
pub returns-clause-ok : goal.returns-clause-ok
returns-clause-ok c = IfOk-weaker c.count_bits-counted.result _ _ (λ bits p. AddsBits-regroup (IsTickAfter c.args.period c.args.first c.args.distances.now) c.group-group.ensures c.set_group.ensures c.set_group-2.ensures p) c.count_bits-counted.ensures.ok
