use Rattle.std.proofs.Common.{◌*◌}
use Rattle.chain_run.proofs.StreamSteps.{runs-due}
use Rattle.chain_run.proofs.TickSteps.{tick-most}
use Rattle.chain_run.proofs.stream.ChainStream.run_due.Goals as goal

pub returns-clause-ends : goal.returns-clause-ends
returns-clause-ends c =
    let s = c.self.inside in
    let ticks = c.in_ok-self-inside.field-0 in
    let ends = c.in_ok-self-inside.ensures.ends in (
      ends.0,
      ends.1,
      runs-due c.args.self.now s.sim.design s.sim.values s.timing s.lines s.samples s.tick c.self.view_is c.run_zeros.new.sim.design c.run_zeros.new.sim.values ticks ends.0 c.run_zeros.ensures.design ends.2
          c.in_ok-self-inside.ensures.least (tick-most s.tick (s.samples * s.timing.ticks) ticks c.in_ok-self-inside.ensures.most c.in_ok-self-inside.ensures.past),
    )
