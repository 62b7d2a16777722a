-- What a module gives for the rest of a stimulus: the printed list of what it shows, each with the assignment that the drawn steps evaluate last
-- before the outputs are read.
use Rattle.std.specs.Prelude.{◌≡◌, ℕ, ◌+◌, pos, List, [], ◌∷◌, ◌++◌, map, Option}
use Rattle.verilog_tree.specs.Tree.{Design}
use Rattle.verilog_tree.specs.Meaning.{Values}
use Rattle.verilog_tree.specs.Names.{shapes_of}
use Rattle.verilog_tree.specs.Cycle.{circuit_of}
use Rattle.verilog_tree.specs.Shown.{Cycle, Event, RunsOver, ports_of, event_of, ticks_after}
use Rattle.sample_file.specs.declared.fault.LineFault.{LineFault}
use Rattle.sample_file.specs.declared.ranges.Stimulus.{Stimulus}
use Rattle.sample_file.specs.Printed.{printed}
use Rattle.sample_file.specs.Ranges.{Checked}
use Rattle.sim_stream.specs.Given.{cycle_at}
use Rattle.event_order.specs.Drawn.{declared_names, state_after_cycle, last_evaluated}

-- what is shown, and the place of the assignment that is evaluated last in its cycle
pub record Ordered : Type 0 where
  pub event : Event
  pub last : ℕ

abbrev pub with_last : ℕ → List Event → List Ordered
with_last last events = map (λ e. record { event = e; last = last }) events

-- what is shown in these cycles, from the settled values of each, where the steps of the first are drawn in this state
abbrev pub ordered_events : Design → List Cycle → List Values → ℕ → ℕ → ℕ → List Ordered
ordered_events d [] settled cycle tick state = []
ordered_events d (c ∷ cs) [] cycle tick state = []
ordered_events d (c ∷ cs) (values ∷ settled) cycle tick state =
    with_last (last_evaluated (circuit_of d) state) (event_of (shapes_of d) (ports_of d) c values cycle tick)
    ++ ordered_events d cs settled (cycle + 1) (ticks_after c tick) (state_after_cycle (circuit_of d) (declared_names d) values state)

-- its line: the place of its cycle, the number of its tick, the value, and the last assignment
abbrev pub printed_ordered : Ordered → List ℕ
printed_ordered o = printed (pos o.event.cycle ∷ pos o.event.tick ∷ o.event.value ∷ pos o.last ∷ [])

abbrev pub printed_orders : List Ordered → List ℕ
printed_orders [] = []
printed_orders (o ∷ os) = printed_ordered o ++ printed_orders os

-- from these registers and in this state on, over these cycles, of which the first has this place and this many ticks stand before it, the
-- module gives what is printed here; `last` is the fault of the line that ends the cycles, where it is refused
pub record GivesOrdered (d : Design) (content : Values) (cycle tick state : ℕ) (cycles : Checked Stimulus) (text : List ℕ) (last : Option LineFault) : Type 0 where
  pub settled : List Values
  pub run : RunsOver d content (map cycle_at cycles.items) settled
  pub shown : text ≡ printed_orders (ordered_events d (map cycle_at cycles.items) settled cycle tick state)
  pub refused : last ≡ cycles.fault
