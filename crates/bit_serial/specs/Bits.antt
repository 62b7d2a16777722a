-- The bits of a whole number in two's complement.
use Rattle.std.specs.Prelude.{◌≡◌, ℕ, zero, suc, ◌-◌, ◌/◌, ◌%◌, ◌^◌, ◌<◌, ◌≤◌, ℤ, pos, ◌+ℤ◌, ◌-ℤ◌, ◌*ℤ◌, ◌≤ℤ◌}
use Rattle.mr_values.specs.Width.{FitsWidth, pattern, wrap, floor_quotient, floor_remainder}

-- bit m of v, 0 or 1: at every m, since the sign goes on for ever
abbrev pub bit_of : ℕ → ℤ → ℕ
bit_of m v = floor_remainder (floor_quotient v (2 ^ m)) 2

-- floor (v / 2 ^ m) is twice floor (v / 2 ^ (m + 1)), plus bit m.
abbrev pub HalvingLaw : Type 0
HalvingLaw = (m : ℕ) (v : ℤ) → floor_quotient v (2 ^ m) ≡ floor_quotient v (2 ^ suc m) *ℤ pos 2 +ℤ pos (bit_of m v)

abbrev pub SmallBitLaw : Type 0
SmallBitLaw = (m : ℕ) (v : ℤ) → bit_of m v < 2

-- Bit m of v is bit m of its pattern.
abbrev pub PatternLaw : Type 0
PatternLaw = (w m : ℕ) (v : ℤ) → m < w → bit_of m v ≡ pattern w v / 2 ^ m % 2

-- A number of w bits, above all of its bits but the highest, is 0 or -1: minus the highest bit.
abbrev pub HighestBitLaw : Type 0
HighestBitLaw = (w : ℕ) (v : ℤ) → FitsWidth w v → floor_quotient v (2 ^ (w - 1)) ≡ pos 0 -ℤ pos (bit_of (w - 1) v)

-- The bits above a place stand for a number between 0 and v.
abbrev pub BetweenLaw : Type 0
BetweenLaw = (m : ℕ) (v low high : ℤ) → low ≤ℤ v → v ≤ℤ high → low ≤ℤ pos 0 → pos 0 ≤ℤ high → (low ≤ℤ floor_quotient v (2 ^ m)) × (floor_quotient v (2 ^ m) ≤ℤ high)

-- ---- a copy that is shifted up

-- a cut that keeps the lowest w bits
abbrev pub KeepsBits : ℕ → (ℤ → ℤ) → Type 0
KeepsBits w cut = (v : ℤ) → pattern w (cut v) ≡ pattern w v

-- v shifted up by one place j times, cut each time
abbrev pub shifted : (ℤ → ℤ) → ℕ → ℤ → ℤ
shifted cut zero v = v
shifted cut (suc j) v = cut (shifted cut j v *ℤ pos 2)

-- After j shifts, each cut so that the lowest w bits are kept, the highest of w bits is bit w - 1 - j of v.
abbrev pub ShiftedLaw : Type 0
ShiftedLaw = (w : ℕ) (cut : ℤ → ℤ) → KeepsBits w cut → (j : ℕ) (v : ℤ) → j < w → bit_of (w - 1) (shifted cut j v) ≡ bit_of (w - 1 - j) v

-- Both cuts that a node may have keep the bits: the wrap to w bits, and none at all.
abbrev pub CutsLaw : Type 0
CutsLaw = (w : ℕ) → 1 ≤ w → KeepsBits w (wrap w) × KeepsBits w (λ v. v)
