-- What the table of a chain's responses tells.
use Rattle.std.specs.Prelude.{◌≡◌, ℕ, ◌+◌, ◌*◌, ◌<◌, ◌≤◌, ◌^◌, List, [], length, get_or, map, take, ℤ, pos, ◌+ℤ◌, ◌-ℤ◌, ◌*ℤ◌, ◌≤ℤ◌}
use Rattle.mr_values.specs.declared.plan.Element.{Element}
use Rattle.mr_values.specs.Width.{floor_quotient, floor_remainder}
use Rattle.mr_values.specs.Sequence.{Sequence, samples, weighted_sum}
use Rattle.mr_values.specs.Value.{val}
use Rattle.impulse_phase.specs.declared.table.Row.{Row}
use Rattle.impulse_phase.specs.declared.table.Response.{Response as Table}
use Rattle.impulse_phase.specs.Response.{Response, Responses, later, responses, Cycle, full_cycle, cycle_after, HasResponses}
use Rattle.impulse_phase.specs.Reach.{extent}
use Rattle.impulse_phase.specs.Gain.{HasGain, gain_after, gain_after_all}

abbrev pub as_response : Row → Response
as_response row = record { newest = pos row.newest; weights = row.weights.items }

-- no sample
abbrev pub silent : Response
silent = record { newest = pos 0; weights = [] }

abbrev pub rows_of : Table → List Response
rows_of table = map as_response table.rows.items

abbrev pub cycle_of : Table → Cycle
cycle_of table = record { classes = length (rows_of table); step = table.step }

-- the table of the elements' responses has one row for each class
pub record IsResponseOf (elements : List Element) (table : Table) : Type 0 where
  pub classes : length (rows_of table) ≡ (full_cycle elements).classes
  pub step : table.step ≡ (full_cycle elements).step
  pub rows : (class : ℕ) → class < (full_cycle elements).classes → get_or (rows_of table) class silent ≡ responses elements (pos class)

-- The value at each index of a class is the sum of the class's weights times the samples from its newest one on backwards, `step` samples
-- later for each round of the classes.
pub record GivesValues (elements : List Element) (table : Table) : Type 0 where
  pub each : (xs : List ℤ) (class round : ℕ) → class < length (rows_of table)
      → val elements xs (pos (class + round * length (rows_of table)))
      ≡ weighted_sum (get_or (rows_of table) class silent).weights (λ i. samples xs ((get_or (rows_of table) class silent).newest +ℤ pos (round * table.step) -ℤ pos i))

-- a row has no more weights than the chain's reach, and no sample that comes after its index
pub record IsWithinReach (elements : List Element) (table : Table) : Type 0 where
  pub short : (class : ℕ) → class < (full_cycle elements).classes → length (get_or (rows_of table) class silent).weights ≤ (extent elements).reach
  pub past : (class : ℕ) → class < (full_cycle elements).classes
      → ((get_or (rows_of table) class silent).newest *ℤ pos (extent elements).up) ≤ℤ pos (class * (extent elements).down)

-- what rows tell of each index: the row of its class, as many rounds later as it stands past it
abbrev pub told : List Response → ℕ → Responses
told rows step n = later (floor_quotient n (length rows) *ℤ pos step) (get_or rows (floor_remainder n (length rows)) silent)

abbrev pub responses_of : Table → Responses
responses_of table = told (rows_of table) table.step

-- the table tells the responses of some transform
pub record IsTable (table : Table) : Type 0 where
  pub transform : Sequence → Sequence
  pub law : HasResponses transform (responses_of table) (cycle_of table).classes (cycle_of table).step

-- no index of the first round has a sample past that round
pub record IsAhead (table : Table) : Type 0 where
  pub each : (class : ℕ) → class < length (rows_of table) → (responses_of table (pos class)).newest ≤ℤ pos table.step

-- the table tells what becomes of the other one's responses
pub record Passes (change : Responses → Responses) (turn : Cycle → Cycle) (before after : Table) : Type 0 where
  pub told : responses_of after ≡ change (responses_of before)
  pub cycle : cycle_of after ≡ turn (cycle_of before)

-- the table of the samples themselves
abbrev pub IsFirst : Table → Type 0
IsFirst table = IsResponseOf [] table

-- an index, as a class and the rounds of the classes that it stands before it
pub record IsPlaceBefore (classes index back class rounds : ℕ) : Type 0 where
  pub below : class < classes
  pub few : rounds ≤ back + 1
  pub is : index + rounds * classes ≡ class + back

-- ---- how large a table becomes

-- at most 2 ^ 32 classes, less than 2 ^ 32 samples in a round, and weights of 127 bits
pub record IsModest (cycle : Cycle) (most : ℕ) : Type 0 where
  pub classes : cycle.classes ≤ 2 ^ 32
  pub step : cycle.step < 2 ^ 32
  pub gain : most ≤ 2 ^ 126

-- the same after each of the elements
pub record AreModest (elements : List Element) : Type 0 where
  pub each : (k : ℕ) → IsModest (full_cycle (take k elements)) (gain_after_all (take k elements) 1)

-- the same after one more element
pub record HasRoomFor (element : Element) (table : Table) : Type 0 where
  pub gain : ℕ
  pub has_gain : HasGain (responses_of table) gain
  pub modest : IsModest (cycle_after element (cycle_of table)) (gain_after element gain)
