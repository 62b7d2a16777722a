use Rattle.std.proofs.Common.{◌-◌}
use Rattle.stage_law.specs.Weights.{weights_of}
use Rattle.width_extreme.proofs.Finer.{Covers}
use Rattle.width_extreme.proofs.prefix.PrefixRangesRanges.range.Given as goal

abbrev pub invariant-loop-finer : goal.invariant-loop-finer
invariant-loop-finer l = Covers l.self.table l.self.width (weights_of l.sum) l.fn.class (l.finer - 1) l.range.lo l.range.hi
