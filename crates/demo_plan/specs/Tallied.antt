-- How many values there are, their sum, and the least and the greatest of them.
use Rattle.std.specs.Prelude.{◌≡◌, ℕ, List, ◌++◌, length, ℤ, codes, decimal}
use Rattle.std.specs.Fmt.{signed_decimal}
use Rattle.demo_plan.specs.declared.tally.Tally.{Tally}
use Rattle.demo_plan.specs.Drawn.{values_drawn}
use Rattle.demo_plan.specs.Extremes.{least_of, greatest_of, sum_of}

-- the tally is that of these values
pub record IsTally (values : List ℤ) (tally : Tally) : Type 0 where
  pub count_is : tally.count ≡ length values
  pub sum_is : tally.sum ≡ sum_of values
  pub least_is : tally.least ≡ least_of values
  pub greatest_is : tally.greatest ≡ greatest_of values

-- the line of these values
abbrev pub line_of : List ℤ → List ℕ
line_of values =
    codes "count " ++ decimal (length values) ++ codes " sum " ++ signed_decimal (sum_of values) ++ codes " least " ++ signed_decimal (least_of values) ++ codes " greatest "
    ++ signed_decimal (greatest_of values) ++ codes "\n"

-- the demo's line: that of the values which the drawn plan makes of the drawn samples
abbrev pub line_drawn : ℕ → List ℕ
line_drawn number = line_of (values_drawn number)
