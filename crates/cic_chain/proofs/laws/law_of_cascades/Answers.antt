use Rattle.cic_chain.proofs.WholeLemmas.{whole_down}
use Rattle.cic_chain.proofs.WrapLemmas.{wrapped_down, wraps_integrators, wraps_combs, wraps_delays}
use Rattle.cic_chain.proofs.UpLemmas.{whole_up, wrapped_up}
use Rattle.cic_chain.proofs.laws.law_of_cascades.Goals as goal

pub returns-clause-whole_down : goal.returns-clause-whole_down
returns-clause-whole_down c = whole_down

pub returns-clause-whole_up : goal.returns-clause-whole_up
returns-clause-whole_up c = whole_up

pub returns-clause-wrapped_down : goal.returns-clause-wrapped_down
returns-clause-wrapped_down c = wrapped_down

pub returns-clause-wrapped_up : goal.returns-clause-wrapped_up
returns-clause-wrapped_up c = wrapped_up

pub returns-clause-integrators : goal.returns-clause-integrators
returns-clause-integrators c = wraps_integrators

pub returns-clause-combs : goal.returns-clause-combs
returns-clause-combs c = wraps_combs

pub returns-clause-delays : goal.returns-clause-delays
returns-clause-delays c = wraps_delays
