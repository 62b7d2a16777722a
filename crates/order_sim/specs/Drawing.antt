-- What a simulator keeps while it draws the assignments of a cycle.
use Rattle.std.specs.Prelude.{◌≡◌, ℕ, zero, suc, ◌<◌, ◌+◌, ◌==◌, Bool, true, false, not, ◌&&◌, List, [], ◌∷◌, ◌++◌, map, Some, length, slice_get, slice_index, if◌then◌else◌}
use Rattle.verilog_tree.specs.declared.tree.Signal.{Signal}
use Rattle.verilog_tree.specs.Tree.{Design}
use Rattle.verilog_tree.specs.Circuit.{Circuit}
use Rattle.settle_order.specs.Placing.{opened_of}
use Rattle.event_order.specs.Drawn.{how_many, is_taken, reads_wire, open_reads}
use Rattle.order_sim.specs.declared.readers.Readers.{Readers}

abbrev pub with_reader : Bool → ℕ → List ℕ → List ℕ
with_reader true k places = places ++ k ∷ []
with_reader false k places = places

-- the assignments, of the first so many, that read the wire of the one at a place
abbrev pub reading_places : Circuit → ℕ → ℕ → List ℕ
reading_places c place zero = []
reading_places c place (suc k) = with_reader (reads_wire c k place) k (reading_places c place k)

-- for each assignment those that read its wire
pub record AreReaders (c : Circuit) (all : List Readers) : Type 0 where
  pub count : length all ≡ length c.drivers
  pub each : (k : ℕ) (r : Readers) → slice_get all k ≡ Some r → r.places.items ≡ reading_places c k (length c.drivers)

-- for each assignment how many drive wires that it reads
pub record CountReads (c : Circuit) (counts : List ℕ) : Type 0 where
  pub count : length counts ≡ length c.drivers
  pub each : (k : ℕ) → k < length c.drivers → slice_index counts k ≡ open_reads c [] k

-- the names of the signals of a module, in their order
abbrev pub signal_names : Design → List ℕ
signal_names d = map (λ (s : Signal). s.name) d.signals

-- how often a place is in a list
abbrev pub times : List ℕ → ℕ → ℕ
times [] k = 0
times (j ∷ js) k = (if j == k then 1 else 0) + times js k

-- flags of the places that are not done and wait for nothing, and how many there are
pub record AreFlagged (done : ℕ → Bool) (waiting : List ℕ) (flags : List Bool) (count : ℕ) : Type 0 where
  pub flags_are : (k : ℕ) → k < length waiting → opened_of flags k ≡ (not (done k) && slice_index waiting k == 0)
  pub counted : count ≡ how_many (opened_of flags) (length waiting)

-- none of these places is done
pub record AreUndone (done : ℕ → Bool) (places : List ℕ) : Type 0 where
  pub each : (k : ℕ) → 0 < times places k → done k ≡ false

-- each place is counted down as often as it is in the list
pub record AreCountedDown (places before after : List ℕ) : Type 0 where
  pub each : (k : ℕ) → slice_index after k + times places k ≡ slice_index before k

-- after these were evaluated: how many each waits for, and which may come next
pub record IsDrawing (c : Circuit) (taken waiting : List ℕ) (flags : List Bool) (count : ℕ) : Type 0 where
  pub waiting_many : length waiting ≡ length c.drivers
  pub flags_many : length flags ≡ length c.drivers
  pub waits : (k : ℕ) → k < length c.drivers → slice_index waiting k ≡ open_reads c taken k
  pub flagged : AreFlagged (is_taken taken) waiting flags count
