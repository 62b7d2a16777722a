use Rattle.module_laws.proofs.Levels.{loop_free}
use Rattle.module_laws.proofs.law_of_levels.Goals as goal

pub returns : goal.returns
returns c = λ d passes. loop_free d passes.free
