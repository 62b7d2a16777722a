use Rattle.std.proofs.Common.{◌+◌, ◌-◌, length}
use Rattle.width_extreme.proofs.Samples.{AreSamples}
use Rattle.width_extreme.proofs.prefix.PrefixRanges.samples.Given as goal

abbrev pub invariant-places : goal.invariant-places
invariant-places l = record {
  made : AreSamples l.self.table l.self.width l.self.longest l.sum.weights.items l.high l.fn.index l.first l.newest l.start l.place l.samples.items;
}

abbrev pub decreases-places : goal.decreases-places
decreases-places l = (length l.sum.weights.items - l.start) + (l.newest + 1 - l.place)
