use Rattle.std.proofs.Common.{◌+◌, ◌*◌}
use Rattle.stage_law.specs.Weights.{weights_of}
use Rattle.impulse_phase.specs.Reading.{responses_of}
use Rattle.width_extreme.specs.Furthest.{end_at}
use Rattle.width_extreme.proofs.FarEnds.{IsFurthest}
use Rattle.width_extreme.proofs.prefix.PrefixRanges.furthest.Given as goal

abbrev pub invariant-loop-finer : goal.invariant-loop-finer
invariant-loop-finer l = IsFurthest l.high (λ i. end_at l.high l.self.width (weights_of l.sum) (responses_of l.self.table) (l.class.residue + i * l.class.modulus)) l.finer l.best.finer l.best.value
