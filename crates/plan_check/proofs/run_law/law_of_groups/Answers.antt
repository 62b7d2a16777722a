use Rattle.plan_check.proofs.RunLemmas.{groups_law}
use Rattle.plan_check.proofs.run_law.law_of_groups.Goals as goal

pub returns : goal.returns
returns c = groups_law
