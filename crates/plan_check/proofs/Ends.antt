-- The ends of a filter's values, by the sums of its taps.
use Rattle.std.proofs.Common.{◌≡◌, ◌+◌, arith, List, [], ◌∷◌, ℤ, pos, negsuc, ◌-ℤ◌, ◌*ℤ◌}
use Rattle.std.proofs.lemmas.Int.{ints}
use Rattle.mr_values.specs.Timing.{low_end, high_end}
use Rattle.mr_values.proofs.Ring.{+ℤ-*ℤ}
use Rattle.plan_check.specs.Amounts.{rises, falls}

pub low_end_sums : (taps : List ℤ) (low high : ℤ) → low_end taps low high ≡ pos (rises taps) *ℤ low -ℤ pos (falls taps) *ℤ high
low_end_sums [] low high = omega (arith, ints)
low_end_sums (pos n ∷ cs) low high = omega (arith, ints, low_end_sums cs low high, +ℤ-*ℤ (pos n) (pos (rises cs)) low)
low_end_sums (negsuc n ∷ cs) low high = omega (arith, ints, low_end_sums cs low high, +ℤ-*ℤ (pos (n + 1)) (pos (falls cs)) high)

pub high_end_sums : (taps : List ℤ) (low high : ℤ) → high_end taps low high ≡ pos (rises taps) *ℤ high -ℤ pos (falls taps) *ℤ low
high_end_sums [] low high = omega (arith, ints)
high_end_sums (pos n ∷ cs) low high = omega (arith, ints, high_end_sums cs low high, +ℤ-*ℤ (pos n) (pos (rises cs)) high)
high_end_sums (negsuc n ∷ cs) low high = omega (arith, ints, high_end_sums cs low high, +ℤ-*ℤ (pos (n + 1)) (pos (falls cs)) low)
