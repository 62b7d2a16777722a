use Rattle.plan_laws.proofs.Errors.{bound_holds}
use Rattle.plan_laws.proofs.law_of_bound.Goals as goal

pub returns : goal.returns
returns c = bound_holds
