use Rattle.impulse_phase.proofs.Gain.{prefix-gain}
use Rattle.impulse_phase.proofs.Reach.{prefix-extent}
use Rattle.impulse_phase.proofs.law_of_extents.Goals as goal

pub returns-clause-reach : goal.returns-clause-reach
returns-clause-reach c = prefix-extent

pub returns-clause-gain : goal.returns-clause-gain
returns-clause-gain c = prefix-gain
