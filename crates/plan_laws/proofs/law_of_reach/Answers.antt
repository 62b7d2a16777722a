use Rattle.plan_laws.proofs.Reach.{reach_holds}
use Rattle.plan_laws.proofs.law_of_reach.Goals as goal

pub returns : goal.returns
returns c = reach_holds
