use Rattle.std.proofs.Common.{◌+◌, ◌-◌, length}
use Rattle.stage_law.specs.Rising.{behind_at}
use Rattle.width_extreme.specs.Walk.{delay_at, IsEntry}
use Rattle.width_extreme.proofs.Walked.{IsWalked}
use Rattle.width_extreme.proofs.prefix.PrefixRanges.walked_ends.Given as goal

-- the sums are those of the places so far, and the entry is that of some value
abbrev pub invariant-places : goal.invariant-places
invariant-places l = record {
  walked : IsWalked l.self.table l.self.width l.self.longest l.index l.sum.weights.items l.start l.place l.range.lo l.range.hi;
  entry : IsEntry l.self.table l.index l.entry.back l.entry.class l.entry.late;
}

-- the weights, and the places that the last of them reaches
abbrev pub decreases-places : goal.decreases-places
decreases-places l = (length l.sum.weights.items - l.start) + (delay_at l.self.table l.index (behind_at l.sum.weights.items (length l.sum.weights.items - 1)) + l.self.longest - l.place)
