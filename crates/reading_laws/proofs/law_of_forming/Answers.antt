use Rattle.reading_laws.proofs.Forming.{writable}
use Rattle.reading_laws.proofs.law_of_forming.Goals as goal

pub returns : goal.returns
returns c = λ face clock bytes d reads passes. writable clock bytes d reads passes
