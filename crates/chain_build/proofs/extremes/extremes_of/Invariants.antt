use Rattle.std.proofs.Common.{◌≡◌, map, take}
use Rattle.chain_build.specs.Peaks.{as_extreme}
use Rattle.chain_build.proofs.extremes.extremes_of.Given as goal

-- it is told of each peak before
abbrev pub invariant-loop-kept : goal.invariant-loop-kept
invariant-loop-kept l = l.told.items ≡ map as_extreme (take l.kept-index l.peaks)
