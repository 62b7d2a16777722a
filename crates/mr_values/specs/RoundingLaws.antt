-- What follows from the definitions of rounding to even and of clipping.
use Rattle.std.specs.Prelude.{◌≡◌, ℕ, ◌+◌, ◌-◌, ◌/◌, ◌^◌, ◌≤◌, ◌⊎◌, min, ℤ, pos, neg_ℤ, ◌+ℤ◌, ◌*ℤ◌, ◌≤ℤ◌, ◌<ℤ◌, unsigned_abs}
use Rattle.mr_values.specs.Width.{FitsWidth, floor_quotient, floor_remainder}
use Rattle.mr_values.specs.Rounding.{half_even, clip_value}

-- ---- rounding to even

-- It is a division that rounds down, of a number that is less than a half higher where the quotient is even, and a half higher where
-- it is odd.
abbrev pub FloorLaw : Type 0
FloorLaw = (s : ℕ) (v : ℤ) → 1 ≤ s → half_even s v ≡ floor_quotient (v +ℤ pos (2 ^ (s - 1) - 1 + floor_remainder (floor_quotient v (2 ^ s)) 2)) (2 ^ s)

abbrev pub HalfEvenRisesLaw : Type 0
HalfEvenRisesLaw = (s : ℕ) (u v : ℤ) → 1 ≤ s → u ≤ℤ v → half_even s u ≤ℤ half_even s v

-- Times the power it is at most a half of the power away from v.
abbrev pub NearLaw : Type 0
NearLaw = (s : ℕ) (v : ℤ) → 1 ≤ s → ((half_even s v *ℤ pos (2 ^ s)) ≤ℤ (v +ℤ pos (2 ^ (s - 1)))) × (v ≤ℤ (half_even s v *ℤ pos (2 ^ s) +ℤ pos (2 ^ (s - 1))))

-- Where it is a half of the power away, it is even.
abbrev pub TieLaw : Type 0
TieLaw = (s : ℕ) (v : ℤ) → 1 ≤ s → (half_even s v *ℤ pos (2 ^ s) ≡ v +ℤ pos (2 ^ (s - 1))) ⊎ (v ≡ half_even s v *ℤ pos (2 ^ s) +ℤ pos (2 ^ (s - 1))) → floor_remainder (half_even s v) 2 ≡ 0

-- The greatest magnitude after it is that after a rounding of halves up.
abbrev pub HalfEvenPeakLaw : Type 0
HalfEvenPeakLaw = (s peak : ℕ) (v : ℤ) → 1 ≤ s → unsigned_abs v ≤ peak → unsigned_abs (half_even s v) ≤ (peak + 2 ^ (s - 1)) / 2 ^ s

abbrev pub HalfEvenZeroLaw : Type 0
HalfEvenZeroLaw = (s : ℕ) → 1 ≤ s → half_even s (pos 0) ≡ pos 0

-- ---- clipping

-- the least number of b bits where v is less, the greatest where v is greater, else v
pub record IsClip (b : ℕ) (v y : ℤ) : Type 0 where
  pub low : v <ℤ neg_ℤ (pos (2 ^ (b - 1))) → y ≡ neg_ℤ (pos (2 ^ (b - 1)))
  pub high : pos (2 ^ (b - 1) - 1) <ℤ v → y ≡ pos (2 ^ (b - 1) - 1)
  pub fitting : FitsWidth b v → y ≡ v

abbrev pub ClipLaw : Type 0
ClipLaw = (b : ℕ) (v : ℤ) → IsClip b v (clip_value b v)

abbrev pub ClipFitsLaw : Type 0
ClipFitsLaw = (b : ℕ) (v : ℤ) → FitsWidth b (clip_value b v)

abbrev pub ClipRisesLaw : Type 0
ClipRisesLaw = (b : ℕ) (u v : ℤ) → u ≤ℤ v → clip_value b u ≤ℤ clip_value b v

abbrev pub ClipSmallLaw : Type 0
ClipSmallLaw = (b : ℕ) (v : ℤ) → unsigned_abs (clip_value b v) ≤ min (unsigned_abs v) (2 ^ (b - 1))

abbrev pub ClipZeroLaw : Type 0
ClipZeroLaw = (b : ℕ) → clip_value b (pos 0) ≡ pos 0
