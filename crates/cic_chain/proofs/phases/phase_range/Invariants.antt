use Rattle.cic_chain.specs.Phases.{IsPhaseRange}
use Rattle.cic_chain.proofs.phases.phase_range.Given as goal

abbrev pub invariant-loop-first : goal.invariant-loop-first
invariant-loop-first g l = IsPhaseRange (g.R.Ranges.streams l.ranges) l.weights l.factor l.first l.range
