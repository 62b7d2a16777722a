-- Moving sums of rows of weights, where each row begins at a sample of its own.
use Rattle.std.specs.Prelude.{◌≡◌, ℕ, zero, suc, ◌+◌, ◌*◌, ◌^◌, ◌≤◌, max, List, [], ◌∷◌, length, ℤ, pos, negsuc, ◌+ℤ◌, ◌-ℤ◌, ◌≤ℤ◌}
use Rattle.mr_values.specs.Sequence.{samples, ones}
use Rattle.mr_values.specs.Value.{size}
use Rattle.running_sums.specs.Weights.{added, behind, moving}
use Rattle.running_sums.specs.Sums.{IsWithin, AreWithin}

-- the weights of the samples newest, newest - 1, ..
pub record Response : Type 0 where
  pub newest : ℤ
  pub weights : List ℤ

-- No row tells of a later sample than those after it.
pub record AreOrdered (f : ℤ → Response) : Type 0 where
  pub each : (n : ℤ) (k : ℕ) → (f (n -ℤ pos k)).newest ≤ℤ (f n).newest

-- the sum of the rows from n backwards, `count` of them, as weights from the sample `newest` on
abbrev pub summed : ℤ → ℕ → (ℤ → Response) → ℤ → List ℤ
summed newest zero f n = []
summed newest (suc count) f n = added (behind (size (newest -ℤ (f n).newest)) (f n).weights) (summed newest count f (n -ℤ pos 1))

-- the row of a moving sum at an index
abbrev pub summed_row : ℕ → (ℤ → Response) → ℤ → Response
summed_row count f n = record { newest = (f n).newest; weights = summed (f n).newest count f n }

-- f 0, f 1, .., so many
abbrev pub places : ℕ → (ℕ → ℤ) → List ℤ
places zero f = []
places (suc n) f = f 0 ∷ places n (λ k. f (suc k))

-- a sum without a row, both further on, at a place
abbrev pub between : (sums : List ℤ) (ahead : ℕ) (less : List ℤ) (back : ℕ) → ℕ → ℤ
between sums ahead less back k = samples sums (pos k -ℤ pos ahead) -ℤ samples less (pos k -ℤ pos back)

-- and with another row
abbrev pub moved : (sums : List ℤ) (ahead : ℕ) (less : List ℤ) (back : ℕ) (more : List ℤ) → ℕ → ℤ
moved sums ahead less back more k = between sums ahead less back k +ℤ samples more (pos k)

-- Each place fits, before the new row comes and with it.
pub record HasRoom (sums : List ℤ) (ahead : ℕ) (less : List ℤ) (back : ℕ) (more : List ℤ) : Type 0 where
  pub before : (k : ℕ) → IsWithin (2 ^ 126) (between sums ahead less back k)
  pub after : (k : ℕ) → IsWithin (2 ^ 126) (moved sums ahead less back more k)

-- how far the row at index n stands before the sample
abbrev pub delay : ℤ → (ℤ → Response) → ℤ → ℕ
delay newest f n = size (newest -ℤ (f n).newest)

-- One index on, a moving sum has one row less and one more.
abbrev pub MovesRow : Type 0
MovesRow = (f : ℤ → Response) (count : ℕ) (n : ℤ) → AreOrdered f
    → places (length (summed_row count f n).weights)
    (moved (summed_row count f (n -ℤ pos 1)).weights (delay (f n).newest f (n -ℤ pos 1)) (f (n -ℤ pos count)).weights (delay (f n).newest f (n -ℤ pos count)) (f n).weights)
    ≡ (summed_row count f n).weights

-- where every place fits that many times
abbrev pub MovesWithin : Type 0
MovesWithin = (f : ℤ → Response) (count most : ℕ) (n : ℤ) → AreOrdered f → 1 ≤ count → ((m : ℤ) → AreWithin most (f m).weights) → count * most ≤ 2 ^ 126
    → HasRoom (summed_row count f (n -ℤ pos 1)).weights (delay (f n).newest f (n -ℤ pos 1)) (f (n -ℤ pos count)).weights (delay (f n).newest f (n -ℤ pos count)) (f n).weights

-- The rows of a moving sum are themselves so ordered, and within a greater magnitude.
abbrev pub StaysOrdered : Type 0
StaysOrdered = (f : ℤ → Response) (count : ℕ) → AreOrdered f → AreOrdered (summed_row count f)

abbrev pub RowsStayWithin : Type 0
RowsStayWithin = (f : ℤ → Response) (count most : ℕ) → AreOrdered f → ((m : ℤ) → AreWithin most (f m).weights) → (n : ℤ) → AreWithin (count * most) (summed_row count f n).weights

-- ---- how far a row reaches

-- rows of ones, as long as these
abbrev pub full_row : Response → Response
full_row r = record { newest = r.newest; weights = ones (length r.weights) }

abbrev pub full : (ℤ → Response) → ℤ → Response
full f n = full_row (f n)

-- without the zeros at the end
abbrev pub onto : ℤ → List ℤ → List ℤ
onto x (y ∷ ys) = x ∷ y ∷ ys
onto (pos zero) [] = []
onto (pos (suc n)) [] = pos (suc n) ∷ []
onto (negsuc n) [] = negsuc n ∷ []

abbrev pub trimmed : List ℤ → List ℤ
trimmed [] = []
trimmed (x ∷ xs) = onto x (trimmed xs)

-- how many rows reach each place, from how many did an index before: a row of the length `less` less, one of the length `more` more
abbrev pub moved_cover : (covers : List ℤ) (ahead less back more : ℕ) → List ℤ
moved_cover covers ahead less back more = trimmed (places (max more (length covers + ahead)) (moved covers ahead (ones less) back (ones more)))

-- It is the moving sum of the rows of ones, which are as long as those of the rows themselves.
abbrev pub MovesCover : Type 0
MovesCover = (f : ℤ → Response) (count : ℕ) (n : ℤ) → AreOrdered f → 1 ≤ count
    → moved_cover (summed_row count (full f) (n -ℤ pos 1)).weights (delay (f n).newest f (n -ℤ pos 1)) (length (f (n -ℤ pos count)).weights) (delay (f n).newest f (n -ℤ pos count)) (length (f n).weights)
    ≡ (summed_row count (full f) n).weights

abbrev pub CoversAll : Type 0
CoversAll = (f : ℤ → Response) (count : ℕ) (n : ℤ) → length (summed_row count (full f) n).weights ≡ length (summed_row count f n).weights

-- ---- the first row, from rows that recur

-- `classes` indices on the rows are the same, on samples that come `step` later
pub record Recur (classes step : ℕ) (f : ℤ → Response) : Type 0 where
  pub each : (n : ℤ) → f (n +ℤ pos classes) ≡ record { newest = (f n).newest +ℤ pos step; weights = (f n).weights }

-- each row with those of the rounds before it, `rounds` of them in all
abbrev pub with_rounds : (rounds step : ℕ) → (ℤ → Response) → ℤ → Response
with_rounds rounds step f n = record { newest = (f n).newest; weights = moving step rounds (f n).weights }

-- A sum of whole rounds and a rest: the rest's rows, and one round of the rows' own moving sums.
abbrev pub SumsRounds : Type 0
SumsRounds = (f : ℤ → Response) (classes step rounds rest : ℕ) (n : ℤ) → AreOrdered f → Recur classes step f
    → summed (f n).newest (rest + rounds * classes) f n ≡ added (summed (f n).newest rest f n) (summed (f n).newest classes (with_rounds rounds step f) (n -ℤ pos rest))

-- ---- more rooms

-- Each place of the sum of both fits.
pub record IsRoomy (w : List ℤ) : Type 0 where
  pub each : (k : ℕ) → IsWithin (2 ^ 126) (samples w (pos k))

-- There is room for so many rows that reach one place.
abbrev pub CoversWithin : Type 0
CoversWithin = (f : ℤ → Response) (count : ℕ) (n : ℤ) → AreOrdered f → 1 ≤ count → count ≤ 2 ^ 126
    → HasRoom (summed_row count (full f) (n -ℤ pos 1)).weights (delay (f n).newest f (n -ℤ pos 1)) (ones (length (f (n -ℤ pos count)).weights)) (delay (f n).newest f (n -ℤ pos count)) (ones (length (f n).weights))

-- A part of a sum, told from a later sample, is within so many times the rows' magnitude; so are the rows with their rounds.
abbrev pub PartsWithin : Type 0
PartsWithin = (f : ℤ → Response) (count most : ℕ) (newest n : ℤ) → AreOrdered f → (f n).newest ≤ℤ newest → ((m : ℤ) → AreWithin most (f m).weights) → AreWithin (count * most) (summed newest count f n)

abbrev pub RoundsWithin : Type 0
RoundsWithin = (f : ℤ → Response) (rounds step most : ℕ) → ((m : ℤ) → AreWithin most (f m).weights) → (m : ℤ) → AreWithin (rounds * most) (with_rounds rounds step f m).weights

abbrev pub AreRoomy : Type 0
AreRoomy = (w : List ℤ) (most : ℕ) → AreWithin most w → most ≤ 2 ^ 126 → IsRoomy w
