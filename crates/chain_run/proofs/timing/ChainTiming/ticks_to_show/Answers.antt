use Rattle.std.proofs.Common.{refl, arith}
use Rattle.chain_run.proofs.TimingSteps.{show-is}
use Rattle.chain_run.proofs.timing.ChainTiming.ticks_to_show.Goals as goal

pub returns-clause-value : goal.returns-clause-value
returns-clause-value c = show-is c.args.self.now c.args.samples _ (λ e. omega (arith, c.if-samples-eq0.false, e)) refl c.requires.timing.least_period
