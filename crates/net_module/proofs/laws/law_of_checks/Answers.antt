use Rattle.net_module.proofs.PassesDrivers.{passes}
use Rattle.net_module.proofs.laws.law_of_checks.Goals as goal

pub returns : goal.returns
returns c = passes
