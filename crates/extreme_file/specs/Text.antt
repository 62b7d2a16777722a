-- The text of samples that drive a register to a value at a tick.
use Rattle.std.specs.Prelude.{ℕ, ℤ, List, [], ◌∷◌, ◌++◌, codes, decimal}
use Rattle.std.specs.Fmt.{signed_decimal}
use Rattle.sample_file.specs.Printed.{printed}

-- `# register NAME tick T value V` and LF
abbrev pub register_line : List ℕ → ℕ → ℤ → List ℕ
register_line register tick value = codes "# register " ++ register ++ codes " tick " ++ decimal tick ++ codes " value " ++ signed_decimal value ++ codes "\n"

-- a line for each sample
abbrev pub sample_lines : List ℤ → List ℕ
sample_lines [] = []
sample_lines (x ∷ xs) = printed (x ∷ []) ++ sample_lines xs

abbrev pub extreme_lines : List ℕ → ℕ → ℤ → List ℤ → List ℕ
extreme_lines register tick value samples = register_line register tick value ++ sample_lines samples
