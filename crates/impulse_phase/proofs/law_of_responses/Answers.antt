use Rattle.impulse_phase.proofs.Prefix.{prefix-has}
use Rattle.impulse_phase.proofs.law_of_responses.Goals as goal

pub returns : goal.returns
returns c = prefix-has
