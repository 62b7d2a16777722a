-- Printed lines of numbers.
use Rattle.std.specs.Prelude.{ℕ, ℤ, List, [], ◌∷◌, ◌++◌, map}
use Rattle.std.specs.Fmt.{signed_decimal}
use Rattle.std.specs.List.{join_with_byte}

-- the numbers in decimal, with one space between them, and LF
abbrev pub printed : List ℤ → List ℕ
printed values = join_with_byte 32 (map signed_decimal values) ++ 10 ∷ []
