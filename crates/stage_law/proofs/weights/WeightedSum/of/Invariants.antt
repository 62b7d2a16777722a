use Rattle.std.proofs.Common.{◌≡◌, ◌+◌, ◌++◌, drop}
use Rattle.stage_law.proofs.WeightLemmas.{sparse}
use Rattle.stage_law.proofs.weights.WeightedSum.of.Given as goal

-- what is done, with the weights of the factors that remain, is the whole
abbrev pub invariant-loop-place : goal.invariant-loop-place
invariant-loop-place l = l.weights.items ++ sparse (l.behind + l.place) (drop l.place l.factors) ≡ sparse l.behind l.factors
