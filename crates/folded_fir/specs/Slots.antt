-- The slots of a round's outputs in which some accumulator takes a term.
use Rattle.std.specs.Prelude.{◌≡◌, ℕ, ◌+◌, ◌*◌, ◌%◌, ◌<◌, ◌⊎◌, min, max, List, length, Option, None, Some, slice_get}
use Rattle.net_graph.specs.declared.cell.Cell.{Cell}
use Rattle.net_graph.specs.declared.cell.Node.{Node}
use Rattle.net_graph.specs.declared.cell.Stream.{Stream}
use Rattle.pipeline_balance.specs.Gate.{IsTickOf, IsBitOf}
use Rattle.signed_digit.specs.declared.term_list.Term.{Term}
use Rattle.fold_schedule.specs.Fold.{Parts, Fold}
use Rattle.folded_fir.specs.declared.cells.Slot.{Slot}
use Rattle.folded_fir.specs.Rounds.{Rounds}
use Rattle.folded_fir.specs.Cells.{cells_of}

-- how many slots a phase uses: the first ones
abbrev pub used_by : ℕ → Option Parts → ℕ
used_by slots None = 0
used_by slots (Some parts) = min slots (max (length parts.positive) (length parts.negative))

abbrev pub used_in : Fold → ℕ → ℕ
used_in fold phase = used_by fold.slots (slice_get fold.phases phase)

-- before this slot of this output
abbrev pub IsEarlier : ℕ → ℕ → ℕ → ℕ → Type 0
IsEarlier output slot count upto = (output < count) ⊎ ((output ≡ count) × (slot < upto))

-- the list has each slot before this one that its output uses, once
pub record ListsSlots (used : ℕ → ℕ) (count upto : ℕ) (slots : List Slot) : Type 0 where
  pub below : (k : ℕ) (x : Slot) → slice_get slots k ≡ Some x → (x.slot < used x.output) × IsEarlier x.output x.slot count upto
  pub apart : (j k : ℕ) (x : Slot) → slice_get slots j ≡ Some x → slice_get slots k ≡ Some x → j ≡ k
  pub all : (output slot : ℕ) → IsEarlier output slot count upto → slot < used output → (k : ℕ) × (slice_get slots k ≡ Some (record { output = output; slot = slot }))

-- what an accumulator takes in each of these slots
pub record AreCellsAt (fold : Fold) (up down adder : ℕ) (slots : List Slot) (cells : List (Option Term)) : Type 0 where
  pub many : length cells ≡ length slots
  pub each : (k : ℕ) (x : Slot) → slice_get slots k ≡ Some x → slice_get cells k ≡ Some (cells_of fold (x.output * down % up) adder x.slot)

-- how many ticks after its round's first slot a slot stands
abbrev pub distance_of : ℕ → Slot → ℕ
distance_of period x = x.output * period + x.slot

-- bit k is control, and in every run, however it is cut, set exactly in the list's slot number k of each round
pub record AreSlotBits (cells : List Cell) (from : Stream) (o : Rounds) (slots : List Slot) (bits : List Node) : Type 0 where
  pub many : length bits ≡ length slots
  pub each : (k : ℕ) (x : Slot) (bit : Node) → slice_get slots k ≡ Some x → slice_get bits k ≡ Some bit → IsBitOf cells (IsTickOf (o.round * o.period) (from.offset + 2 + distance_of o.period x)) bit
