-- Which term each accumulator takes in each slot, and what it then holds.
use Rattle.std.specs.Prelude.{◌≡◌, ℕ, zero, suc, ◌+◌, ◌-◌, ◌*◌, ◌/◌, ◌%◌, ◌≤◌, min, max, nat_lt, if◌then◌else◌, List, [], ◌∷◌, ◌++◌, Option, None, Some, slice_get, ℤ}
use Rattle.signed_digit.specs.declared.term_list.Term.{Term}
use Rattle.signed_digit.specs.Terms.{terms_of}
use Rattle.fold_schedule.specs.Fold.{Parts, Fold, fold_of, most, positive_count, negative_count, positive_adders}
use Rattle.fold_schedule.specs.Forms.{form_to, ReadsWithin}
use Rattle.fir_pieces.specs.Moment.{Forms}
use Rattle.folded_fir.specs.Rounds.{Rounds}

-- the terms of the phases below r
abbrev pub phases_below : ℕ → List ℤ → ℕ → List (List Term)
phases_below up taps zero = []
phases_below up taps (suc r) = phases_below up taps r ++ terms_of up r taps ∷ []

-- the filter's terms by phases, accumulators and slots
abbrev pub filter_fold : ℕ → ℕ → List ℤ → Fold
filter_fold slots up taps = fold_of slots (phases_below up taps up)

-- ---- cells

-- the term of a list in a slot of an accumulator: the terms fill one accumulator after another
abbrev pub list_cell : ℕ → List Term → ℕ → ℕ → Option Term
list_cell slots ts adder slot = if nat_lt slot slots then slice_get ts (adder * slots + slot) else None

-- the negative terms stand in accumulators after those of the positive ones
abbrev pub cell_in : Fold → Option Parts → ℕ → ℕ → Option Term
cell_in fold None adder slot = None
cell_in fold (Some parts) adder slot =
    if nat_lt adder (positive_adders fold) then list_cell fold.slots parts.positive adder slot else list_cell fold.slots parts.negative (adder - positive_adders fold) slot

-- the cells of a phase
abbrev pub cells_of : Fold → ℕ → ℕ → ℕ → Option Term
cells_of fold phase adder slot = cell_in fold (slice_get fold.phases phase) adder slot

-- the slots up to the last that some phase uses, at least one
abbrev pub used_slots : Fold → ℕ
used_slots fold = max 1 (min fold.slots (max (most positive_count fold.phases) (most negative_count fold.phases)))

-- ---- forms

-- the terms by the output's number within its round, accumulator and slot
abbrev pub Table : Type 0
Table = ℕ → ℕ → ℕ → Option Term

-- those of a filter's cells
abbrev pub fold_table : Fold → Rounds → Table
fold_table fold o n = cells_of fold (n * o.down % o.up)

-- no term stands in a later slot, and each reads one of so many values
pub record IsTable (o : Rounds) (depth : ℕ) (table : Table) : Type 0 where
  pub idle : (n adder slot : ℕ) → o.slots ≤ slot → table n adder slot ≡ None
  pub reads : (n adder : ℕ) → ReadsWithin o.up depth (table n) adder

-- what an accumulator holds after a slot of an output: the sum of its terms of the slots up to this one, over so many values
abbrev pub sum_forms : Rounds → ℕ → Table → ℕ → Forms
sum_forms o depth table adder φ = form_to o.up depth (table (φ / o.slots)) adder (suc (φ % o.slots))
