use Rattle.alike_laws.proofs.FirstCheck.{same_checks}
use Rattle.alike_laws.proofs.law_of_same_checks.Goals as goal

pub returns : goal.returns
returns c = λ face d e distinct_d distinct_e alike. same_checks d e alike distinct_d distinct_e face
