-- The width of a register that holds several sums.
use Rattle.std.specs.Prelude.{ℕ, max, List, [], ◌∷◌}
use Rattle.fir_pieces.specs.declared.held.Held.{Held}

-- the greatest of the sums' widths
abbrev pub widest : List Held → ℕ
widest [] = 1
widest (own ∷ held) = max own.width (widest held)
