use Rattle.module_laws.proofs.Passing.{closed_driven}
use Rattle.module_laws.proofs.law_of_driving.Goals as goal

pub returns : goal.returns
returns c = λ d passes. closed_driven d passes
