-- What a module gives for the rest of a stimulus: the printed list of what it shows.
use Rattle.std.specs.Prelude.{◌≡◌, ℕ, pos, List, [], ◌∷◌, ◌++◌, map, Option}
use Rattle.verilog_tree.specs.Tree.{Design}
use Rattle.verilog_tree.specs.Meaning.{Values}
use Rattle.verilog_tree.specs.Names.{shapes_of}
use Rattle.verilog_tree.specs.Shown.{Cycle, Event, RunsOver, ports_of, events_of}
use Rattle.sample_file.specs.declared.fault.LineFault.{LineFault}
use Rattle.sample_file.specs.declared.ranges.Stimulus.{Stimulus}
use Rattle.sample_file.specs.Printed.{printed}
use Rattle.sample_file.specs.Reading.{Reading}
use Rattle.sample_file.specs.Ranges.{Checked, stimuli_of}

abbrev pub cycle_at : Stimulus → Cycle
cycle_at s = record { rst = s.rst; ce = s.ce; in_data = s.in_data }

-- the line of what is shown: the place of its cycle, the number of its tick, and the value
abbrev pub printed_event : Event → List ℕ
printed_event e = printed (pos e.cycle ∷ pos e.tick ∷ e.value ∷ [])

abbrev pub printed_events : List Event → List ℕ
printed_events [] = []
printed_events (e ∷ es) = printed_event e ++ printed_events es

-- rows as the cycles of a module, whose port `in_data` tells the range
abbrev pub cycles_for : Design → Reading → Checked Stimulus
cycles_for d reading = stimuli_of ((shapes_of d).width (ports_of d).in_data) ((shapes_of d).signed (ports_of d).in_data) reading

-- from these registers on, over these cycles, of which the first has this place and this many ticks stand before it, the module
-- shows what is printed here; `last` is the fault of the line that ends the cycles, where it is refused
pub record Gives (d : Design) (content : Values) (cycle tick : ℕ) (cycles : Checked Stimulus) (text : List ℕ) (last : Option LineFault) : Type 0 where
  pub settled : List Values
  pub run : RunsOver d content (map cycle_at cycles.items) settled
  pub shown : text ≡ printed_events (events_of (shapes_of d) (ports_of d) (map cycle_at cycles.items) settled cycle tick)
  pub refused : last ≡ cycles.fault
