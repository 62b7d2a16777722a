-- Samples that make a sum reach an end of its range.
use Rattle.std.specs.Prelude.{◌≡◌, ℕ, zero, suc, ◌+◌, ◌-◌, ◌*◌, ◌≤◌, List, [], ◌∷◌, length, get_or, ℤ, pos, negsuc, ◌≤ℤ◌, Bool, true, false}
use Rattle.mr_values.specs.Value.{size}
use Rattle.stage_law.specs.declared.ranges.Class.{Class}
use Rattle.stage_law.specs.declared.ranges.Range.{Range}
use Rattle.stage_law.specs.declared.weights.WeightedSum.{WeightedSum}
use Rattle.stage_law.specs.Weights.{weights_of}
use Rattle.impulse_phase.specs.declared.table.Response.{Response as Table}
use Rattle.impulse_phase.specs.Response.{Responses, through_filter}
use Rattle.impulse_phase.specs.Reading.{rows_of, responses_of}
use Rattle.width_extreme.specs.Prefix.{least_sample, greatest_sample, low_at, high_at, range_of, finer_classes, IsExtreme}
use Rattle.width_extreme.specs.Walk.{transform_of, needed_for}

-- the least and the greatest sum at an index
abbrev pub end_at : Bool → ℕ → List ℤ → Responses → ℕ → ℤ
end_at true width form f k = high_at width form f k
end_at false width form f k = low_at width form f k

-- the end of a range that is meant
abbrev pub end_of : Bool → Range → ℤ
end_of true range = range.hi
end_of false range = range.lo

-- the second number is at least as far out as the first
abbrev pub IsFurther : Bool → ℤ → ℤ → Type 0
IsFurther true a b = a ≤ℤ b
IsFurther false a b = b ≤ℤ a

-- ---- the samples that reach an end

-- the first of two samples for a weight above 0, the second for one below 0, and 0 for 0
abbrev pub chosen_for : ℤ → ℤ → ℤ → ℤ
chosen_for a b (pos zero) = pos 0
chosen_for a b (pos (suc c)) = a
chosen_for a b (negsuc c) = b

-- for the greatest sum the greatest sample stands beside a weight above 0
abbrev pub near_end : Bool → ℕ → ℤ
near_end true w = greatest_sample w
near_end false w = least_sample w

abbrev pub far_end : Bool → ℕ → ℤ
far_end true w = least_sample w
far_end false w = greatest_sample w

abbrev pub listed : ℕ → (ℕ → ℤ) → List ℤ
listed zero f = []
listed (suc n) f = f zero ∷ listed n (λ k. f (suc k))

-- the samples up to the newest one in the sum at an index, each as its weight asks for
abbrev pub samples_at : Table → ℕ → List ℤ → Bool → ℕ → List ℤ
samples_at table w form high index =
    listed (suc (size (responses_of table (pos index)).newest)) (λ n.
    chosen_for (near_end high w) (far_end high w) (get_or (through_filter form (responses_of table) (pos index)).weights (size (responses_of table (pos index)).newest - n) (pos 0)))

-- ---- indices

-- the indices of a round of all finer classes
abbrev pub whole_of : Table → Class → ℕ
whole_of table class = finer_classes (length (rows_of table)) class.modulus * class.modulus

-- so many whole rounds after the first index, at least as far as is needed, and soon
pub record IsPast (first whole needed index : ℕ) : Type 0 where
  pub rounds : ℕ
  pub is : index ≡ first + rounds * whole
  pub enough : needed ≤ index
  pub soon : index ≤ needed + whole

-- The end of the range that is meant is reached at the index, which is of the class, and soon; no sample is later than the newest in the sum.
pub record IsEndReached (table : Table) (width longest : ℕ) (sum : WeightedSum) (class : Class) (high : Bool) (xs : List ℤ) (index : ℕ) (value : ℤ) : Type 0 where
  pub reaches : IsExtreme (transform_of table) width (weights_of sum) class value xs index
  pub end : value ≡ end_of high (range_of width (weights_of sum) (responses_of table) class (finer_classes (length (rows_of table)) class.modulus))
  pub soon : index ≤ needed_for table longest (length (weights_of sum)) + whole_of table class
  pub few : length xs ≤ suc (size (responses_of table (pos index)).newest)

-- some samples do that
pub record IsEndReachable (table : Table) (width longest : ℕ) (sum : WeightedSum) (class : Class) (high : Bool) (index : ℕ) (value : ℤ) : Type 0 where
  pub xs : List ℤ
  pub reached : IsEndReached table width longest sum class high xs index value
