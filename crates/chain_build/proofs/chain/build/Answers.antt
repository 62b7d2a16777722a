use Rattle.chain_build.proofs.BuiltPeaks.{tells_registers}
use Rattle.chain_build.proofs.chain.build.Goals as goal

pub returns-clause-extremes : goal.returns-clause-extremes
returns-clause-extremes c = tells_registers c.in_ok-told.ensures.peaks c.in_ok-told.ensures.extremes
