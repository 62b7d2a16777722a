-- What a moving sum reads of a table of responses.
use Rattle.std.specs.Prelude.{◌≡◌, ℕ, ◌<◌, ◌/◌, ◌%◌, List, [], length, get_or, ℤ, pos, ◌-ℤ◌}
use Rattle.running_sums.specs.Sums.{AreWithin}
use Rattle.running_sums.specs.Weights.{added}
use Rattle.running_sums.specs.Rows.{delay, summed, with_rounds}
use Rattle.impulse_phase.specs.declared.table.Response.{Response as Table}
use Rattle.impulse_phase.specs.Reading.{silent, rows_of, responses_of}

-- how far the row at an index stands before a later index of the table
abbrev pub gap : Table → ℤ → ℤ → ℕ
gap table later n = delay (responses_of table later).newest (responses_of table) n

-- A sum of `width` values loses the row of this class, which stands `back` places further on at this index. What is left of it stands `ahead` places further on.
pub record IsTurn (table : Table) (width index ahead class back : ℕ) : Type 0 where
  pub before : gap table (pos index) (pos index -ℤ pos 1) ≡ ahead
  pub below : class < length (rows_of table)
  pub row : (responses_of table (pos index -ℤ pos width)).weights ≡ (get_or (rows_of table) class silent).weights
  pub behind : gap table (pos index) (pos index -ℤ pos width) ≡ back

-- each weight of the table has at most this magnitude
abbrev pub HasRowsWithin : Table → ℕ → Type 0
HasRowsWithin table most = (n : ℤ) → AreWithin most (responses_of table n).weights

-- a sum and the rows of so many indices that end `back` indices before the first, with those of the rounds before them, `rounds` in all
abbrev pub with_part : Table → (back rounds count : ℕ) → List ℤ → List ℤ
with_part table back rounds count sums = added (summed (responses_of table (pos 0)).newest count (with_rounds rounds table.step (responses_of table)) (pos 0 -ℤ pos back)) sums

-- what the whole rounds in a width come to
abbrev pub whole : Table → ℕ → List ℤ
whole table width = with_part table (width % length (rows_of table)) (width / length (rows_of table)) (length (rows_of table)) []
