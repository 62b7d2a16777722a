-- Numbers that 64 bits without a sign hold.
use Rattle.std.specs.Prelude.{ℕ, ◌^◌, nat_lt, if◌then◌else◌, Option, Some, None}

abbrev pub below_64 : ℕ → Option ℕ
below_64 number = if nat_lt number (2 ^ 64) then Some number else None
