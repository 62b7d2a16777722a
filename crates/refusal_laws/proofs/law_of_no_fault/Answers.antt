use Rattle.refusal_laws.proofs.OneFault.{no_fault}
use Rattle.refusal_laws.proofs.law_of_no_fault.Goals as goal

pub returns : goal.returns
returns c = λ bytes d e x y. no_fault bytes d e x y
