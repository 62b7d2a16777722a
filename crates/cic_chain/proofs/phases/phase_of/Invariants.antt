use Rattle.std.proofs.Common.{◌≡◌, ◌-◌, ◌++◌, length, drop}
use Rattle.mr_values.specs.Sequence.{phase}
use Rattle.cic_chain.proofs.phases.phase_of.Given as goal

abbrev pub invariant-take : goal.invariant-take
invariant-take l = l.taken.items ++ phase l.factor 0 (drop l.place l.weights) ≡ phase l.factor l.first l.weights

abbrev pub decreases-take : goal.decreases-take
decreases-take l = length l.weights - l.place
