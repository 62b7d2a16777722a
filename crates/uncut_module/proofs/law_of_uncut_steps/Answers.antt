use Rattle.uncut_module.proofs.Along.{steps_uncut}
use Rattle.uncut_module.proofs.law_of_uncut_steps.Goals as goal

pub returns : goal.returns
returns c = steps_uncut
