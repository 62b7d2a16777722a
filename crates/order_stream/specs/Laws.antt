-- What is promised of simulations that draw as a whole.
use Rattle.std.specs.Prelude.{◌≡◌, ℕ, List, map, Option}
use Rattle.verilog_tree.specs.Tree.{Design}
use Rattle.verilog_tree.specs.Meaning.{Values}
use Rattle.verilog_tree.specs.Names.{shapes_of}
use Rattle.verilog_tree.specs.Cycle.{circuit_of}
use Rattle.verilog_tree.specs.Shown.{Cycle, RunsOver, ports_of, events_of}
use Rattle.sample_file.specs.declared.fault.LineFault.{LineFault}
use Rattle.sample_file.specs.declared.ranges.Stimulus.{Stimulus}
use Rattle.sample_file.specs.Ranges.{Checked}
use Rattle.event_order.specs.Laws.{inputs_over, IsRegister, AreCyclesOf}
use Rattle.event_order.specs.Order.{AreOrders, first_moment}
use Rattle.order_stream.specs.Ordered.{Ordered, ordered_events, GivesOrdered}

-- from any registers and in any state of the draws on, cycles give exactly one text
abbrev pub HasOneOrderedText : Design → Type 0
HasOneOrderedText d = (content : Values) (cycle tick state : ℕ) (cycles : Checked Stimulus)
    → (text : List ℕ) × GivesOrdered d content cycle tick state cycles text cycles.fault
    × ((other : List ℕ) (last : Option LineFault) → GivesOrdered d content cycle tick state cycles other last → other ≡ text)

-- In every order of the cycles, from these registers, any wires and any earlier inputs, with every assignment pending, the outputs that are read show the
-- same as the run, and so do the drawn steps of every state, but for the last assignments. In each cycle, tick or not, the outputs are read from the
-- settled wires, and the registers at its end are the next ones.
abbrev pub EveryOrderShows : Design → Type 0
EveryOrderShows d = (content begun : Values) (cycles : List Cycle) (settled reads ends : List Values) (cycle tick state : ℕ)
    → ((n : ℕ) → IsRegister d n → begun n ≡ content n) → RunsOver d content cycles settled → AreOrders (circuit_of d) (inputs_over d cycles) (first_moment begun) reads ends
    → (events_of (shapes_of d) (ports_of d) cycles reads cycle tick ≡ map (λ (o : Ordered). o.event) (ordered_events d cycles settled cycle tick state)) × AreCyclesOf d settled reads ends
