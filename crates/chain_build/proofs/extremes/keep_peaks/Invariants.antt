use Rattle.std.proofs.Common.{take}
use Rattle.chain_build.specs.Peaks.{AddsKeptOver}
use Rattle.chain_build.proofs.extremes.keep_peaks.Given as goal

-- one is kept for each peak before
abbrev pub invariant-loop-peak : goal.invariant-loop-peak
invariant-loop-peak l = AddsKeptOver l.ranges l.from l.taken (take l.peak-index l.peaks) l.fn.kept.items l.kept.items
