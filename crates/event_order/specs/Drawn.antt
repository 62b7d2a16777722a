-- The steps of a cycle that are drawn from a number. Each step takes one draw: of the steps that may come next, counted from 0 in text order,
-- it is the one whose number is the drawn one modulo how many there are.
use Rattle.std.specs.Prelude.{ℕ, zero, suc, ◌+◌, ◌-◌, ◌%◌, ◌==◌, Bool, false, not, ◌&&◌, if◌then◌else◌, is_some, List, [], ◌∷◌, ◌++◌, map, length, get_or, slice_get}
use Rattle.std.specs.List.{list_any}
use Rattle.std.specs.Option.{option_map_or}
use Rattle.draws.specs.Draw.{next_state, drawn}
use Rattle.verilog_tree.specs.declared.tree.Signal.{Signal}
use Rattle.verilog_tree.specs.Checks.{declarations}
use Rattle.verilog_tree.specs.Tree.{Design}
use Rattle.verilog_tree.specs.Meaning.{Values}
use Rattle.verilog_tree.specs.Circuit.{Circuit, given_by}
use Rattle.event_order.specs.Order.{reads_at, Evaluate, Run, Update, CycleSteps}

-- ---- one draw after the other

-- the state after so many draws
abbrev pub state_after : ℕ → ℕ → ℕ
state_after state zero = state
state_after state (suc draws) = next_state (state_after state draws)

-- how many of the first so many places pass a test
abbrev pub how_many : (ℕ → Bool) → ℕ → ℕ
how_many test zero = 0
how_many test (suc count) = how_many test count + (if test count then 1 else 0)

-- the place of this number, from 0, among those of the first so many that pass a test
abbrev pub place_of : (ℕ → Bool) → ℕ → ℕ → ℕ
place_of test zero number = 0
place_of test (suc count) number = if test count && how_many test count == number then count else place_of test count number

-- Steps of one kind, each of which is taken once, by their places. Which may come next depends on those that were taken.
pub record Kind : Type 0 where
  pub count : ℕ
  pub may : List ℕ → ℕ → Bool

-- the place that is drawn in a state, where these were taken
abbrev pub drawn_place : Kind → List ℕ → ℕ → ℕ
drawn_place kind taken state = place_of (kind.may taken) kind.count (drawn state % how_many (kind.may taken) kind.count)

abbrev pub with_drawn : Kind → ℕ → List ℕ → List ℕ
with_drawn kind state taken = taken ++ drawn_place kind taken state ∷ []

-- the places of so many steps that are drawn, the first in this state
abbrev pub drawn_places : Kind → ℕ → ℕ → List ℕ
drawn_places kind state zero = []
drawn_places kind state (suc draws) = with_drawn kind (state_after state draws) (drawn_places kind state draws)

-- ---- the three kinds of steps

abbrev pub is_taken : List ℕ → ℕ → Bool
is_taken taken k = list_any (λ j. j == k) taken

-- whether an assignment reads the wire that another one drives
abbrev pub reads_wire : Circuit → ℕ → ℕ → Bool
reads_wire c k j = option_map_or (λ d. reads_at c d.target k) (slice_get c.drivers j) false

-- how many assignments, other than those that were taken, drive wires that an assignment reads
abbrev pub open_reads : Circuit → List ℕ → ℕ → ℕ
open_reads c taken k = how_many (λ j. reads_wire c k j && not (is_taken taken j)) (length c.drivers)

-- before the edge: the assignments that were not evaluated in this cycle, and all of whose read wires were
abbrev pub evaluations : Circuit → Kind
evaluations c = record {
  count = length c.drivers;
  may = λ taken k. not (is_taken taken k) && open_reads c taken k == 0;
}

-- at the edge: the blocks that have not run
abbrev pub runs : Circuit → Kind
runs c = record { count = length c.processes; may = λ taken k. not (is_taken taken k) }

-- whether the name at a place is that of a register to which the blocks give a value
abbrev pub is_given : Circuit → List ℕ → Values → ℕ → Bool
is_given c names values k = option_map_or (λ n. is_some (given_by c.processes values n)) (slice_get names k) false

-- after all blocks: the registers that were given a value and not yet updated, in the order of these names
abbrev pub updates : Circuit → List ℕ → Values → Kind
updates c names values = record { count = length names; may = λ taken k. not (is_taken taken k) && is_given c names values k }

-- ---- one cycle

abbrev pub update_count : Circuit → List ℕ → Values → ℕ
update_count c names values = how_many (is_given c names values) (length names)

-- the steps of a cycle in whose settled wires all names have these values, the first drawn in this state
abbrev pub drawn_steps : Circuit → List ℕ → Values → ℕ → CycleSteps
drawn_steps c names values state = record {
  settle = map Evaluate (drawn_places (evaluations c) state (length c.drivers));
  edge = map Run (drawn_places (runs c) (state_after state (length c.drivers)) (length c.processes));
  update = map (λ k. Update (get_or names k 0))
      (drawn_places (updates c names values) (state_after state (length c.drivers + length c.processes)) (update_count c names values));
}

-- the state after them
abbrev pub state_after_cycle : Circuit → List ℕ → Values → ℕ → ℕ
state_after_cycle c names values state = state_after state (length c.drivers + length c.processes + update_count c names values)

-- the assignment that they evaluate last before the outputs are read, by its place
abbrev pub last_evaluated : Circuit → ℕ → ℕ
last_evaluated c state = get_or (drawn_places (evaluations c) state (length c.drivers)) (length c.drivers - 1) 0

-- the declared names of a module in text order
abbrev pub declared_names : Design → List ℕ
declared_names d = map (λ (s : Signal). s.name) (declarations d)
