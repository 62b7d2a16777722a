-- A sum over the rows of a table of responses, as they are read one after another.
use Rattle.std.specs.Prelude.{◌≡◌, ℕ, ◌+◌, ◌*◌, ◌/◌, ◌^◌, ◌<◌, ◌≤◌, List, length, take, get_or, ℤ, pos, negsuc, unsigned_abs, ◌+ℤ◌, ◌-ℤ◌, ◌*ℤ◌, ◌≤ℤ◌, ◌<ℤ◌}
use Rattle.mr_values.specs.Sequence.{Sequence}
use Rattle.mr_values.specs.Timing.{low_end}
use Rattle.mr_values.specs.Value.{size}
use Rattle.stage_law.specs.Streams.{AreWithin, magnitudes}
use Rattle.impulse_phase.specs.declared.table.Response.{Response as Table}
use Rattle.impulse_phase.specs.Response.{respond, behind, through_filter}
use Rattle.impulse_phase.specs.Reading.{silent, rows_of, responses_of, IsPlaceBefore}
use Rattle.width_extreme.specs.Prefix.{IsStream}

-- what a table's rows make of a sequence
abbrev pub transform_of : Table → Sequence → Sequence
transform_of table x n = respond (responses_of table n) x

-- An earlier index has no later sample, an index before 0 has none, and each round takes some.
pub record IsLawful (table : Table) : Type 0 where
  pub ordered : (n : ℤ) (k : ℕ) → (responses_of table (n -ℤ pos k)).newest ≤ℤ (responses_of table n).newest
  pub starts : (n : ℕ) → (responses_of table (negsuc n)).newest <ℤ pos 0
  pub has_step : 0 < table.step

-- no row has more weights, and this is the least such number
pub record IsLongest (table : Table) (longest : ℕ) : Type 0 where
  pub each : (class : ℕ) → class < length (rows_of table) → length (get_or (rows_of table) class silent).weights ≤ longest
  pub least : (most : ℕ) → ((class : ℕ) → class < length (rows_of table) → length (get_or (rows_of table) class silent).weights ≤ most) → longest ≤ most

-- how many samples the newest one of the index `back` before lies behind that of the index
abbrev pub delay_at : Table → ℕ → ℕ → ℕ
delay_at table index back = size ((responses_of table (pos index)).newest -ℤ (responses_of table (pos index -ℤ pos back)).newest)

-- the weight in the response of the index `back` before, of the sample that lies `place` behind the newest one of the index
abbrev pub weight_back : Table → ℕ → ℕ → ℕ → ℤ
weight_back table index place back = get_or (behind (delay_at table index back) (responses_of table (pos index -ℤ pos back)).weights) place (pos 0)

-- the weights of the samples in a sum of the values from the index on backwards
abbrev pub weights_at : Table → List ℤ → ℕ → List ℤ
weights_at table form index = (through_filter form (responses_of table) (pos index)).weights

-- The index `back` before is of this class. `late` is the newest sample of the index, and that of as many rounds more as lie between.
pub record IsEntry (table : Table) (index back class late : ℕ) : Type 0 where
  pub rounds : ℕ
  pub place : IsPlaceBefore (length (rows_of table)) index back class rounds
  pub late_is : pos late ≡ (get_or (rows_of table) index silent).newest +ℤ pos (rounds * table.step)
  pub most : late ≤ (back + 2) * 2 ^ 32

-- no weight has a greater magnitude
pub record AreSmall (table : Table) (most : ℕ) : Type 0 where
  pub each : (n : ℤ) (k : ℕ) → unsigned_abs (get_or (responses_of table n).weights k (pos 0)) ≤ most

-- a sum with this magnitude and the products of the factors with weights stay small
pub record HasRoomLeft (table : Table) (sum : ℕ) (factors : List ℤ) : Type 0 where
  pub most : ℕ
  pub small : AreSmall table most
  pub room : sum + most * magnitudes factors ≤ 2 ^ 126

-- the values of the streams are small enough for every sum of the form
pub record HasFormRoom (table : Table) (width : ℕ) (form : List ℤ) : Type 0 where
  pub most : ℕ
  pub within : AreWithin (IsStream (transform_of table) width) most
  pub room : most * magnitudes form ≤ 2 ^ 126

-- a term, and a sum with it, are small
pub record HasTermRoom (sum term : ℤ) : Type 0 where
  pub term_small : unsigned_abs term ≤ 2 ^ 126
  pub sum_small : unsigned_abs (sum +ℤ term) ≤ 2 ^ 126

-- from so many indices on, every sample in a sum of so many values has an index of 0 or more
abbrev pub needed_for : Table → ℕ → ℕ → ℕ
needed_for table longest values = values + length (rows_of table) * (longest / table.step + 1)

-- the sums of the first weights above 0, and of those below, are small
pub record HasSmallSums (weights : List ℤ) : Type 0 where
  pub above : (k : ℕ) → unsigned_abs (low_end (take k weights) (pos 1) (pos 0)) ≤ 2 ^ 126
  pub below : (k : ℕ) → unsigned_abs (low_end (take k weights) (pos 0) (pos 1)) ≤ 2 ^ 126

-- a product of each of two sums, and both together, are small
pub record HasEndRoom (above below near far : ℤ) : Type 0 where
  pub near_small : unsigned_abs (above *ℤ near) ≤ 2 ^ 126
  pub far_small : unsigned_abs (below *ℤ far) ≤ 2 ^ 126
  pub sum_small : unsigned_abs (above *ℤ near +ℤ below *ℤ far) ≤ 2 ^ 126
