-- What the numbers of a plan's timing are: each is the least or the greatest of those that it stands for, and a phase is every so many of the taps.
use Rattle.std.specs.Prelude.{◌≡◌, ℕ, ◌+◌, ◌*◌, ◌^◌, ◌≤◌, ◌<◌, List, ℤ, slice_get}
use Rattle.mr_values.specs.Width.{FitsWidth, IsLeastWidth}
use Rattle.mr_values.specs.Sequence.{phase}
use Rattle.mr_values.specs.Timing.{ceil_div, ceil_log, signed_bits, wide, greatest}

-- q is the least number of parts of the size d that hold n
pub record IsLeastQuotient (n d q : ℕ) : Type 0 where
  pub holds : n ≤ q * d
  pub least : (k : ℕ) → n ≤ k * d → q ≤ k

-- k is the least exponent of a power of two that is n or more
pub record IsLeastLog (n k : ℕ) : Type 0 where
  pub holds : n ≤ 2 ^ k
  pub least : (j : ℕ) → n ≤ 2 ^ j → k ≤ j

-- No phase counts more than m, and where there is a phase one counts m.
pub record IsGreatestPhase (counted : List ℤ → ℕ) (factor : ℕ) (taps : List ℤ) (m : ℕ) : Type 0 where
  pub holds : (r : ℕ) → r < factor → counted (phase factor r taps) ≤ m
  pub reached : 1 ≤ factor → (r : ℕ) × (r < factor) × (counted (phase factor r taps) ≡ m)

-- ---- the laws

abbrev pub CeilDivLaw : Type 0
CeilDivLaw = (n d : ℕ) → 1 ≤ d → IsLeastQuotient n d (ceil_div n d)

abbrev pub CeilLogLaw : Type 0
CeilLogLaw = (n : ℕ) → IsLeastLog n (ceil_log n)

abbrev pub SignedBitsLaw : Type 0
SignedBitsLaw = (v : ℤ) → FitsWidth 128 v → IsLeastWidth v v (signed_bits v)

abbrev pub WideLaw : Type 0
WideLaw = (low high : ℤ) → FitsWidth 128 low → FitsWidth 128 high → IsLeastWidth low high (wide low high)

abbrev pub GreatestLaw : Type 0
GreatestLaw = (counted : List ℤ → ℕ) (factor : ℕ) (taps : List ℤ) → IsGreatestPhase counted factor taps (greatest counted factor taps)

-- Entry k of phase r is h[r + k * L], and there is none where the taps have none.
abbrev pub PhaseLaw : Type 0
PhaseLaw = (factor r k : ℕ) (taps : List ℤ) → 1 ≤ factor → slice_get (phase factor r taps) k ≡ slice_get taps (r + k * factor)
