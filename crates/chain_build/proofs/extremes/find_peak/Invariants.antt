use Rattle.std.proofs.Common.{◌≡◌}
use Rattle.chain_build.specs.Peaks.{HasNoneTo}
use Rattle.chain_build.proofs.extremes.find_peak.Given as goal

-- none before has the text
abbrev pub invariant-loop-kept : goal.invariant-loop-kept
invariant-loop-kept l = HasNoneTo l.net l.peaks l.kept-index l.text × (l.place ≡ l.kept-index)
