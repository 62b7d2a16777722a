-- A sum of products, bit by bit from the highest: White, Applications of Distributed Arithmetic to Digital Signal Processing, 1989.
use Rattle.std.specs.Prelude.{◌≡◌, ℕ, suc, ◌-◌, ◌^◌, ◌<◌, List, length, ℤ, pos, ◌+ℤ◌, ◌-ℤ◌, ◌*ℤ◌}
use Rattle.mr_values.specs.Width.{FitsWidth, floor_quotient}
use Rattle.mr_values.specs.Sequence.{weighted_sum}
use Rattle.bit_serial.specs.Bits.{bit_of}

-- the sum over k of h[k] times bit m of x k
abbrev pub bit_sum : List ℤ → (ℕ → ℤ) → ℕ → ℤ
bit_sum taps x m = weighted_sum taps (λ k. pos (bit_of m (x k)))

-- the sum over k of h[k] * floor (x k / 2 ^ m)
abbrev pub sum_above : List ℤ → (ℕ → ℤ) → ℕ → ℤ
sum_above taps x m = weighted_sum taps (λ k. floor_quotient (x k) (2 ^ m))

abbrev pub AllFit : ℕ → List ℤ → (ℕ → ℤ) → Type 0
AllFit w taps x = (k : ℕ) → k < length taps → FitsWidth w (x k)

-- The first bit is subtracted; for each further one the sum so far is doubled, and the sum over that bit added.
abbrev pub FirstStepLaw : Type 0
FirstStepLaw = (w : ℕ) (taps : List ℤ) (x : ℕ → ℤ) → AllFit w taps x → pos 0 -ℤ bit_sum taps x (w - 1) ≡ sum_above taps x (w - 1)

abbrev pub NextStepLaw : Type 0
NextStepLaw = (w : ℕ) (taps : List ℤ) (x : ℕ → ℤ) (j : ℕ) → suc j < w → sum_above taps x (w - 1 - j) *ℤ pos 2 +ℤ bit_sum taps x (w - 1 - suc j) ≡ sum_above taps x (w - 1 - suc j)

-- Above no bit it is the sum of products.
abbrev pub WholeLaw : Type 0
WholeLaw = (taps : List ℤ) (x : ℕ → ℤ) → sum_above taps x 0 ≡ weighted_sum taps x
