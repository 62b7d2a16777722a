-- Sets of streams, and how great their values are.
use Rattle.std.specs.Prelude.{◌≡◌, ℕ, ◌+◌, ◌*◌, ◌^◌, ◌≤◌, ℤ, pos, negsuc, List, [], ◌∷◌, unsigned_abs}
use Rattle.mr_values.specs.Sequence.{Sequence}

-- a set of streams
abbrev pub Streams : Type 1
Streams = Sequence → Type 0

-- each value of these streams has at most this magnitude
pub record AreWithin (streams : Streams) (most : ℕ) : Type 0 where
  pub each : (v : Sequence) → streams v → (k : ℤ) → unsigned_abs (v k) ≤ most

-- these streams are 0 before they begin
pub record AreCausal (streams : Streams) : Type 0 where
  pub each : (v : Sequence) → streams v → (n : ℕ) → v (negsuc n) ≡ pos 0

-- the sum of the magnitudes
abbrev pub magnitudes : List ℤ → ℕ
magnitudes [] = 0
magnitudes (z ∷ zs) = unsigned_abs z + magnitudes zs

-- the values of these streams, and so many times as much, are small enough for every sum of a stage
pub record HasRoom (streams : Streams) (gain : ℕ) : Type 0 where
  pub most : ℕ
  pub within : AreWithin streams most
  pub before : most ≤ 2 ^ 125
  pub after : gain * most ≤ 2 ^ 125
