-- Ranges around 0 that hold each single value of some streams.
use Rattle.std.specs.Prelude.{ℕ, ◌≤◌, max, ℤ, pos, ◌≤ℤ◌, unsigned_abs}
use Rattle.mr_values.specs.Sequence.{Sequence}
use Rattle.stage_law.specs.Streams.{Streams, AreWithin}
use Rattle.stage_law.specs.declared.ranges.Range.{Range}

-- the range holds 0 and each value of the streams, and reaches no further than the greatest magnitude of these
pub record IsAround (streams : Streams) (range : Range) : Type 0 where
  pub negative : range.lo ≤ℤ pos 0
  pub positive : pos 0 ≤ℤ range.hi
  pub low : (v : Sequence) → streams v → (k : ℤ) → range.lo ≤ℤ v k
  pub high : (v : Sequence) → streams v → (k : ℤ) → v k ≤ℤ range.hi
  pub small : (most : ℕ) → AreWithin streams most → max (unsigned_abs range.lo) (unsigned_abs range.hi) ≤ most
