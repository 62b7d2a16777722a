use Rattle.std.proofs.Common.{◌≡◌, ◌+◌, ◌+ℤ◌, unsigned_abs, drop}
use Rattle.mr_values.specs.Sequence.{weighted_sum}
use Rattle.stage_law.specs.Rising.{behind_at, factors_in}
use Rattle.width_extreme.specs.Walk.{weight_back, IsEntry, HasRoomLeft}
use Rattle.width_extreme.proofs.prefix.PrefixRanges.weight_at.Given as goal

-- the weight so far with what is left is the whole, and there is room for what is left
abbrev pub invariant-loop-at : goal.invariant-loop-at
invariant-loop-at l = record {
  entry : IsEntry l.self.table l.index l.entry.back l.entry.class l.entry.late;
  whole : l.weight +ℤ weighted_sum (drop l.at (factors_in l.sum.weights.items)) (λ k. weight_back l.self.table l.index l.place (behind_at l.sum.weights.items (l.at + k)))
      ≡ weighted_sum (drop l.start (factors_in l.sum.weights.items)) (λ k. weight_back l.self.table l.index l.place (behind_at l.sum.weights.items (l.start + k)));
  room : HasRoomLeft l.self.table (unsigned_abs l.weight) (drop l.at (factors_in l.sum.weights.items));
}
