-- Division by a power of two, rounded to the nearest whole number, a half to the even one (IEEE 754-2008, 4.3.1); and the nearest number
-- of so many bits.
use Rattle.std.specs.Prelude.{ℕ, ◌-◌, ◌*◌, ◌^◌, min, nat_lt, nat_eq, if◌then◌else◌, ℤ, pos, negsuc, ◌+ℤ◌}
use Rattle.mr_values.specs.Width.{floor_quotient, floor_remainder}

-- the even one of q and q + 1
abbrev pub even_of : ℤ → ℤ
even_of q = if nat_eq (floor_remainder q 2) 0 then q else (q +ℤ pos 1)

-- of q and q + 1 the nearer one to q + r / d, or the even one where both are as near
abbrev pub nearest : ℤ → ℕ → ℕ → ℤ
nearest q r d = if nat_lt (2 * r) d then q else (if nat_lt d (2 * r) then (q +ℤ pos 1) else even_of q)

abbrev pub half_even : ℕ → ℤ → ℤ
half_even shift z = nearest (floor_quotient z (2 ^ shift)) (floor_remainder z (2 ^ shift)) (2 ^ shift)

-- z where it fits so many bits, else their greatest or their least number
abbrev pub clip_value : ℕ → ℤ → ℤ
clip_value bits (pos n) = pos (min n (2 ^ (bits - 1) - 1))
clip_value bits (negsuc n) = negsuc (min n (2 ^ (bits - 1) - 1))
