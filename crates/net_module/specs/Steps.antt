-- The written module steps as the net.
use Rattle.std.specs.Prelude.{◌≡◌, ℕ, zero, suc, ◌+◌, true, false, List, [], ◌∷◌, ◌++◌, length, take, drop, map, Some, slice_get, slice_index, ℤ, pos, negsuc, if◌then◌else◌}
use Rattle.mr_values.specs.Width.{pattern, signed}
use Rattle.net_graph.specs.declared.cell.Cell.{Cell}
use Rattle.net_graph.specs.Cells.{cell_at}
use Rattle.net_graph.specs.Control.{IsControlClosed}
use Rattle.net_graph.specs.Cut.{cut_all}
use Rattle.net_graph.specs.Name.{is_control}
use Rattle.net_graph.specs.Run.{IsRun, Values as Worth}
use Rattle.verilog_tree.specs.Meaning.{Values}
use Rattle.verilog_tree.specs.Names.{shapes_of}
use Rattle.verilog_tree.specs.Circuit.{IsSettling, next, with_inputs}
use Rattle.verilog_tree.specs.Cycle.{circuit_of}
use Rattle.verilog_tree.specs.Shown.{Cycle, Event, RunsOver, EachFits, ports_of, inputs_of, events_of}
use Rattle.net_module.specs.Written.{written_module, number_of, input_place, output_place, valid_place, is_register}

-- no cycle of these is a reset cycle
abbrev pub HasNoReset : List Cycle → Type 0
HasNoReset [] = Unit {0}
HasNoReset (c ∷ cs) = (c.rst ≡ false) × HasNoReset cs

-- the input's patterns at the ticks of these cycles
abbrev pub tick_data : List Cycle → List ℕ
tick_data [] = []
tick_data (c ∷ cs) = if c.ce then c.in_data ∷ tick_data cs else tick_data cs

abbrev pub ticks_in : List Cycle → ℕ
ticks_in cs = length (tick_data cs)

-- the samples at the ticks of these cycles, 0 past the last
abbrev pub samples_of : ℕ → List Cycle → ℕ → ℤ
samples_of width cs tick = signed width (slice_index (tick_data cs) tick)

abbrev pub width_in : List Cell → ℕ
width_in cells = (cell_at cells (input_place cells)).width

-- the settled values of a run of the written module over cycles of which this is the last reset cycle
pub record RunsAfterReset (cells : List Cell) (content : Values) (before after : List Cycle) (reset : Cycle) (settled : List Values) : Type 0 where
  pub run : RunsOver (written_module cells) content (before ++ reset ∷ after) settled
  pub is_reset : reset.rst ≡ true
  pub none : HasNoReset after
  pub fit : EachFits (width_in cells) after

-- In each cycle after the reset each register has the bits of its node's value at the tick's number; so has the wire or register of
-- each node in a cycle that is a tick, and that of each control node in every cycle, where control nodes read control nodes alone.
pub record StepsAs (cells : List Cell) : Type 0 where
  pub registers : (content : Values) (before after : List Cycle) (reset : Cycle) (settled : List Values) → RunsAfterReset cells content before after reset settled
      → (worth : Worth) → IsRun cut_all cells (samples_of (width_in cells) after) worth
      → (j : ℕ) (now : Values) → slice_get settled (length before + 1 + j) ≡ Some now
      → (place : ℕ) (cell : Cell) → slice_get cells place ≡ Some cell → is_register cell.item ≡ true
      → now (number_of cells place) ≡ pattern cell.width (worth (ticks_in (take j after)) place)
  pub nodes : (content : Values) (before after : List Cycle) (reset : Cycle) (settled : List Values) → RunsAfterReset cells content before after reset settled
      → (worth : Worth) → IsRun cut_all cells (samples_of (width_in cells) after) worth
      → (j : ℕ) (c : Cycle) (now : Values) → slice_get after j ≡ Some c → c.ce ≡ true → slice_get settled (length before + 1 + j) ≡ Some now
      → (place : ℕ) (cell : Cell) → slice_get cells place ≡ Some cell
      → now (number_of cells place) ≡ pattern cell.width (worth (ticks_in (take j after)) place)
  pub control : IsControlClosed cells → (content : Values) (before after : List Cycle) (reset : Cycle) (settled : List Values) → RunsAfterReset cells content before after reset settled
      → (worth : Worth) → IsRun cut_all cells (samples_of (width_in cells) after) worth
      → (j : ℕ) (now : Values) → slice_get settled (length before + 1 + j) ≡ Some now
      → (place : ℕ) (cell : Cell) → slice_get cells place ≡ Some cell → is_control cell ≡ true
      → now (number_of cells place) ≡ pattern cell.width (worth (ticks_in (take j after)) place)
  -- a cycle with `rst` 0 and `ce` 0 changes no register
  pub rests : (content now : Values) (c : Cycle) → IsSettling (circuit_of (written_module cells)) (with_inputs (inputs_of (ports_of (written_module cells)) c) content) now
      → c.rst ≡ false → c.ce ≡ false → (name : ℕ) → next (circuit_of (written_module cells)) now name ≡ now name

-- ---- what is shown

-- the tick and the value of what is shown
abbrev pub pair_of : Event → ℕ × ℤ
pair_of event = (event.tick, event.value)

-- one element where the number isn't 0, else none
abbrev pub chosen_list : ℤ → ℕ × ℤ → List (ℕ × ℤ)
chosen_list (pos zero) pair = []
chosen_list (pos (suc n)) pair = pair ∷ []
chosen_list (negsuc n) pair = pair ∷ []

-- the outputs at so many ticks from this one on, at the ticks at which the node shown as `out_valid` isn't 0
abbrev pub outputs_from : Worth → ℕ → ℕ → ℕ → ℕ → List (ℕ × ℤ)
outputs_from worth valid output tick zero = []
outputs_from worth valid output tick (suc count) =
    chosen_list (worth tick valid) (tick, worth tick output) ++ outputs_from worth valid output (suc tick) count

-- What is shown is what is shown before the last reset cycle, and then, in order, the output at each tick after it at which the node
-- shown as `out_valid` isn't 0.
pub record ShowsAs (cells : List Cell) : Type 0 where
  pub parts : (content : Values) (before after : List Cycle) (reset : Cycle) (settled : List Values) → RunsAfterReset cells content before after reset settled
      → events_of (shapes_of (written_module cells)) (ports_of (written_module cells)) (before ++ reset ∷ after) settled 0 0
      ≡ events_of (shapes_of (written_module cells)) (ports_of (written_module cells)) before settled 0 0
      ++ events_of (shapes_of (written_module cells)) (ports_of (written_module cells)) after (drop (length before + 1) settled) (length before + 1) 0
  pub shows : (content : Values) (before after : List Cycle) (reset : Cycle) (settled : List Values) → RunsAfterReset cells content before after reset settled
      → (worth : Worth) → IsRun cut_all cells (samples_of (width_in cells) after) worth
      → map pair_of (events_of (shapes_of (written_module cells)) (ports_of (written_module cells)) after (drop (length before + 1) settled) (length before + 1) 0)
      ≡ outputs_from worth (valid_place cells) (output_place cells) 0 (ticks_in after)
