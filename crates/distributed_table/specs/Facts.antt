-- What a filter by distributed arithmetic before a Down is, as a stage.
use Rattle.std.specs.Prelude.{ℕ, ◌+◌, ◌-◌, ◌*◌, ◌^◌, ◌<◌, ◌≤◌, List, [], ◌∷◌, length, ℤ, pos}
use Rattle.mr_values.specs.Sequence.{Sequence}
use Rattle.mr_values.specs.Width.{FitsWidth}
use Rattle.mr_values.specs.declared.plan.Element.TheVariants.{Down, Filter}
use Rattle.mr_values.specs.declared.plan.Form.TheVariants.{Distributed}
use Rattle.mr_values.specs.Timing.{ceil_div, ceil_log}
use Rattle.stage_law.specs.Facts.{StageFacts}
use Rattle.stage_law.specs.Streams.{Streams, magnitudes}
use Rattle.stage_law.specs.declared.stage.Kind.TheVariants.{Distributed as DistributedKind}

-- how many runs of this size cover the taps
abbrev pub runs_of : ℕ → List ℤ → ℕ
runs_of size taps = ceil_div (length taps) size

-- the levels of the tree over them
abbrev pub levels_of : ℕ → List ℤ → ℕ
levels_of size taps = ceil_log (runs_of size taps)

-- Each run has a table, an accumulator that adds and subtracts, and the tree one adder fewer than runs. White 1989.
abbrev pub distributed_facts : ℕ → List ℤ → ℕ → ℕ → StageFacts
distributed_facts size taps down bits = record {
  kind = DistributedKind;
  elements = Filter taps (Distributed (pos size)) ∷ Down (pos down) ∷ [];
  up = 1;
  down = down;
  delay = λ period. 2 + bits + levels_of size taps;
  gain = magnitudes taps;
  adders = 3 * runs_of size taps - 1;
  windows = length taps;
  tables = runs_of size taps;
  longest = 0;
  alike = 0;
  registers = λ period. [];
}

-- the streams of these periods are taken: all bits pass before the next value is due
pub record TakesBits (down bits period : ℕ) : Type 0 where
  pub some : 1 ≤ period
  pub most : period < 2 ^ 31
  pub enough : bits ≤ period * down

-- each value of the streams has so many bits
pub record HaveBits (streams : Streams) (bits : ℕ) : Type 0 where
  pub each : (v : Sequence) → streams v → (k : ℤ) → FitsWidth bits (v k)
