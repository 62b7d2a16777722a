use Rattle.refusal_laws.proofs.OneFault.{one_fault}
use Rattle.refusal_laws.proofs.law_of_one_fault.Goals as goal

pub returns : goal.returns
returns c = λ bytes e f x y. one_fault bytes e f x y
