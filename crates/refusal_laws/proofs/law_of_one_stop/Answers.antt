use Rattle.refusal_laws.proofs.OneStop.{one_stop}
use Rattle.refusal_laws.proofs.law_of_one_stop.Goals as goal

pub returns : goal.returns
returns c = λ bytes place other reason why x y. one_stop bytes place other reason why x y
