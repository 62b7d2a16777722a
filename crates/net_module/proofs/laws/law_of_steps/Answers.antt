use Rattle.net_module.proofs.Along.{steps_as}
use Rattle.net_module.proofs.Outputs.{shows_as}
use Rattle.net_module.proofs.laws.law_of_steps.Goals as goal

pub returns-clause-steps : goal.returns-clause-steps
returns-clause-steps c = steps_as

pub returns-clause-shows : goal.returns-clause-shows
returns-clause-shows c = shows_as
