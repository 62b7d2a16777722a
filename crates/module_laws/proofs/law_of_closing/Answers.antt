use Rattle.module_laws.proofs.Passing.{closed}
use Rattle.module_laws.proofs.law_of_closing.Goals as goal

pub returns : goal.returns
returns c = λ face d passes. closed d passes
