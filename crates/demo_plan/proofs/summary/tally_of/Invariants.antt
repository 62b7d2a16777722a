use Rattle.std.proofs.Common.{take}
use Rattle.demo_plan.specs.Tallied.{IsTally}
use Rattle.demo_plan.proofs.summary.tally_of.Given as goal

abbrev pub invariant-loop-value : goal.invariant-loop-value
invariant-loop-value l = IsTally (take l.value-index l.values) l.tally
