-- What the nodes of a rounding to even and of a clipping have, as functions of the number that is rounded or clipped. A bit that is set is -1.
use Rattle.std.specs.Prelude.{ℕ, ◌-◌, ◌^◌, ℤ, pos, negsuc, neg_ℤ, ◌*ℤ◌}
use Rattle.mr_values.specs.Width.{wrap, chosen, floor_quotient}
use Rattle.net_graph.specs.Run.{equality, selected}

-- the least number of so many bits
abbrev pub least_of : ℕ → ℤ
least_of s = neg_ℤ (pos (2 ^ (s - 1)))

-- the number in more bits
abbrev pub widened : ℕ → ℤ → ℤ
widened wide v = wrap wide (v *ℤ pos (2 ^ 0))

-- ---- rounding to even

-- whether the remainder is the half
abbrev pub tie_bit : ℕ → ℤ → ℤ
tie_bit s v = wrap 1 (equality (wrap s (selected v (s - 1) 0)) (wrap s (wrap s (least_of s))))

-- the bit that raises the quotient: at a tie its lowest, else the highest of the remainder
abbrev pub raising_bit : ℕ → ℤ → ℤ
raising_bit s v = wrap 1 (chosen (tie_bit s v) (wrap 1 (selected v s s)) (wrap 1 (selected v (s - 1) (s - 1))))

-- ---- clipping

-- whether the bits from the highest of so many on are all 0, or all set
abbrev pub are_zero : ℕ → ℕ → ℤ → ℤ
are_zero b wide v = wrap 1 (equality (wrap wide (floor_quotient v (2 ^ (b - 1)))) (wrap 1 (wrap 1 (pos 0))))

abbrev pub are_set : ℕ → ℕ → ℤ → ℤ
are_set b wide v = wrap 1 (equality (wrap wide (floor_quotient v (2 ^ (b - 1)))) (wrap 1 (wrap 1 (negsuc 0))))

-- whether the number fits
abbrev pub fits_bit : ℕ → ℕ → ℤ → ℤ
fits_bit b wide v = wrap 1 (chosen (are_zero b wide v) (are_zero b wide v) (are_set b wide v))

-- the end that the number is beyond
abbrev pub end_of : ℕ → ℕ → ℤ → ℤ
end_of b wide v = wrap b (chosen (wrap 1 (floor_quotient v (2 ^ (wide - 1)))) (wrap b (wrap b (least_of b))) (wrap b (wrap b (pos (2 ^ (b - 1) - 1)))))
