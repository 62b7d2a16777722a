use Rattle.module_laws.proofs.Places.{same_passing}
use Rattle.module_laws.proofs.law_of_places.Goals as goal

pub returns : goal.returns
returns c = λ face d e same passes. same_passing d e same passes
