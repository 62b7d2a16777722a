-- Sequences of whole numbers over all whole indices, and what the elements of a chain do to them.
-- Crochiere and Rabiner, Multirate Digital Signal Processing, 2.3 and 3.5; Hogenauer 1981, II.
use Rattle.std.specs.Prelude.{ℕ, zero, suc, ◌-◌, ◌*◌, List, [], ◌∷◌, ℤ, pos, negsuc, ◌+ℤ◌, ◌-ℤ◌, ◌*ℤ◌, nat_eq, if◌then◌else◌, replicate, slice_index_or}
use Rattle.mr_values.specs.Width.{floor_quotient, floor_remainder}

abbrev pub Sequence : Type 0
Sequence = ℤ → ℤ

-- a list as a sequence: 0 at every index outside it
abbrev pub samples : List ℤ → Sequence
samples xs (pos n) = slice_index_or xs n (pos 0)
samples xs (negsuc n) = pos 0

-- the sum over k of h[k] * f(k)
abbrev pub weighted_sum : List ℤ → (ℕ → ℤ) → ℤ
weighted_sum [] f = pos 0
weighted_sum (c ∷ cs) f = c *ℤ f zero +ℤ weighted_sum cs (λ k. f (suc k))

-- y[m] = x[m / L] where L divides m, else 0
abbrev pub up : ℕ → Sequence → Sequence
up factor x m = if nat_eq (floor_remainder m factor) 0 then x (floor_quotient m factor) else pos 0

-- y[n] = x[n * M]
abbrev pub down : ℕ → Sequence → Sequence
down factor x n = x (n *ℤ pos factor)

-- y[n] = sum over k of h[k] * x[n - k]
abbrev pub filter : List ℤ → Sequence → Sequence
filter taps x n = weighted_sum taps (λ k. x (n -ℤ pos k))

-- the taps of a moving sum
abbrev pub ones : ℕ → List ℤ
ones n = replicate n (pos 1)

-- the same filter several times
abbrev pub filter_times : ℕ → List ℤ → Sequence → Sequence
filter_times zero taps x = x
filter_times (suc n) taps x = filter taps (filter_times n taps x)

abbrev pub cic_down : ℕ → ℕ → ℕ → Sequence → Sequence
cic_down factor stages delay x = down factor (filter_times stages (ones (factor * delay)) x)

abbrev pub cic_up : ℕ → ℕ → ℕ → Sequence → Sequence
cic_up factor stages delay x = filter_times stages (ones (factor * delay)) (up factor x)

-- h[r], h[r + L], h[r + 2L], ..
abbrev pub phase : ℕ → ℕ → List ℤ → List ℤ
phase factor r [] = []
phase factor zero (c ∷ cs) = c ∷ phase factor (factor - 1) cs
phase factor (suc r) (c ∷ cs) = phase factor r cs
