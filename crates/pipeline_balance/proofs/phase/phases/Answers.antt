use Rattle.std.proofs.lemmas.Result.{IfOk-weaker}
use Rattle.pipeline_balance.proofs.PhaseLemmas.{IsPhases-regroup}
use Rattle.pipeline_balance.proofs.phase.phases.Goals as goal

-- the group is put back
pub returns-clause-ok : goal.returns-clause-ok
returns-clause-ok c = IfOk-weaker c.phase_bits-counted.result _ _ (λ bits p. IsPhases-regroup c.group-group.ensures c.set_group.ensures c.set_group-2.ensures p) c.phase_bits-counted.ensures.ok
