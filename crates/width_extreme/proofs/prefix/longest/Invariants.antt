use Rattle.std.proofs.Common.{ℕ, ◌<◌, ◌≤◌, length, get_or}
use Rattle.impulse_phase.specs.Reading.{silent, rows_of}
use Rattle.width_extreme.proofs.prefix.longest.Given as goal

abbrev pub invariant-loop-class : goal.invariant-loop-class
invariant-loop-class l =
    ((k : ℕ) → k < l.class → length (get_or (rows_of l.table) k silent).weights ≤ l.longest)
    × ((most : ℕ) → ((k : ℕ) → k < length (rows_of l.table) → length (get_or (rows_of l.table) k silent).weights ≤ most) → l.longest ≤ most)
