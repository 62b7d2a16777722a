-- The range of the sums of all phases of a list of weights.
use Rattle.std.specs.Prelude.{◌≡◌, ℕ, ◌<◌, ◌⊎◌, List, ℤ, pos, ◌≤ℤ◌}
use Rattle.mr_values.specs.Sequence.{phase}
use Rattle.stage_law.specs.Range.{IsRange}
use Rattle.stage_law.specs.Streams.{Streams}
use Rattle.stage_law.specs.declared.ranges.Class.{Class}
use Rattle.stage_law.specs.declared.ranges.Range.{Range}

-- every index
abbrev pub every : Class
every = record { modulus = 1; residue = 0 }

-- the range of the sums of one phase, at every index
pub record IsOnePhase (streams : Streams) (weights : List ℤ) (factor r : ℕ) (own : Range) : Type 0 where
  pub is_range : IsRange streams (phase factor r weights) every own

-- the range holds 0 and the sums of the first phases, and each of its ends is 0 or one of theirs
pub record IsPhaseRange (streams : Streams) (weights : List ℤ) (factor count : ℕ) (range : Range) : Type 0 where
  pub low : range.lo ≤ℤ pos 0
  pub high : pos 0 ≤ℤ range.hi
  pub each : (r : ℕ) → r < count → (own : Range) × IsOnePhase streams weights factor r own × (range.lo ≤ℤ own.lo) × (own.hi ≤ℤ range.hi)
  pub low_reached : (range.lo ≡ pos 0) ⊎ ((r : ℕ) × (r < count) × (own : Range) × IsOnePhase streams weights factor r own × (own.lo ≡ range.lo))
  pub high_reached : (range.hi ≡ pos 0) ⊎ ((r : ℕ) × (r < count) × (own : Range) × IsOnePhase streams weights factor r own × (own.hi ≡ range.hi))
