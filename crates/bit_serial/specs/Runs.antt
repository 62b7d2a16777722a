-- The table of a run while the copies of its numbers are shifted.
use Rattle.std.specs.Prelude.{◌≡◌, ℕ, ◌-◌, ◌<◌, List, length, ℤ, pos}
use Rattle.bit_serial.specs.Bits.{bit_of, KeepsBits, shifted}
use Rattle.bit_serial.specs.Serial.{bit_sum}
use Rattle.bit_serial.specs.Tables.{chosen_sum, Shows}

-- What the tree of choices holds while the copies are shifted: after j shifts it is the sum over the bits at place w - 1 - j.
abbrev pub EntryLaw : Type 0
EntryLaw =
    (w : ℕ) (cut : ℤ → ℤ) → KeepsBits w cut → (taps : List ℤ) (x : ℕ → ℤ) (j : ℕ) → j < w → (on : ℕ → ℤ) → ((k : ℕ) → k < length taps → Shows (on k) (bit_of (w - 1) (shifted cut j (x k)))) → chosen_sum taps (pos 0) on ≡ bit_sum taps x (w - 1 - j)
