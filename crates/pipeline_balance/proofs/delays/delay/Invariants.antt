use Rattle.pipeline_balance.specs.Phase.{IsDelay}
use Rattle.pipeline_balance.proofs.delays.delay.Given as goal

abbrev pub invariant-loop-i : goal.invariant-loop-i
invariant-loop-i l = IsDelay l.initial.net l.net l.fn.node l._i l.last
