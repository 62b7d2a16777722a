use Rattle.std.proofs.Common.{◌≡◌, ◌+◌, ◌*◌, ◌≤◌, ◌^◌, ◌+ℤ◌, max, drop}
use Rattle.std.specs.Prelude.{unsigned_abs}
use Rattle.mr_values.specs.Timing.{low_end}
use Rattle.stage_law.specs.Streams.{magnitudes}
use Rattle.span_ranges.proofs.terms.least_sum.Given as goal

-- the sum so far with what is left is the whole, and there is room for what is left
abbrev pub invariant-loop-factor : goal.invariant-loop-factor
invariant-loop-factor l = record {
  whole : l.sum +ℤ low_end (drop l.factor-index l.factors) l.low l.high ≡ low_end l.factors l.low l.high;
  room : unsigned_abs l.sum + max (unsigned_abs l.low) (unsigned_abs l.high) * magnitudes (drop l.factor-index l.factors) ≤ 2 ^ 126;
}
