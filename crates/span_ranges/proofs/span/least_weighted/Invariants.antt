use Rattle.std.proofs.Common.{◌≡◌, ◌+◌, ◌*◌, ◌≤◌, ◌^◌, ◌+ℤ◌, max, drop}
use Rattle.std.specs.Prelude.{unsigned_abs}
use Rattle.mr_values.specs.Timing.{low_end}
use Rattle.stage_law.specs.Rising.{factors_in}
use Rattle.stage_law.specs.Streams.{magnitudes}
use Rattle.span_ranges.proofs.span.least_weighted.Given as goal

-- the sum so far with what is left is the whole, and there is room for what is left
abbrev pub invariant-loop-weight : goal.invariant-loop-weight
invariant-loop-weight l = record {
  whole : l.sum +ℤ low_end (drop l.weight-index (factors_in l.weights)) l.low l.high ≡ low_end (factors_in l.weights) l.low l.high;
  room : unsigned_abs l.sum + max (unsigned_abs l.low) (unsigned_abs l.high) * magnitudes (drop l.weight-index (factors_in l.weights)) ≤ 2 ^ 126;
}
