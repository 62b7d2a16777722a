use Rattle.std.proofs.Common.{refl}
use Rattle.cic_chain.proofs.stages.CicDownStage.emit.Goals as goal

pub returns-clause-realises : goal.returns-clause-realises
returns-clause-realises g c = c.in_ok-stream.ensures.stream.realises _ refl
