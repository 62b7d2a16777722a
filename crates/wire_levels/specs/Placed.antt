-- The assignments of a module with their levels and places.
use Rattle.std.specs.Prelude.{ℕ, suc, List, [], ◌∷◌}
use Rattle.verilog_tree.specs.declared.tree.Assign.{Assign}
use Rattle.wire_levels.specs.declared.order.Levelled.{Levelled}

-- each assignment as the level of what it drives and its place, counted from this one on
abbrev pub levelled_from : (ℕ → ℕ) → ℕ → List Assign → List Levelled
levelled_from level place [] = []
levelled_from level place (a ∷ rest) = record { level = level a.target; place = place } ∷ levelled_from level (suc place) rest
