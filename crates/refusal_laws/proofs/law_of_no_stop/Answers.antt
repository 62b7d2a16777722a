use Rattle.refusal_laws.proofs.OneStop.{no_stop}
use Rattle.refusal_laws.proofs.law_of_no_stop.Goals as goal

pub returns : goal.returns
returns c = λ bytes d place reason x y. no_stop bytes d place reason x y
