-- A cycle that is run in a drawn order.
use Rattle.std.specs.Prelude.{◌≡◌, ℕ, ◌==◌, Bool, not, List, length}
use Rattle.verilog_tree.specs.declared.tree.Module.{Module}
use Rattle.verilog_tree.specs.Tree.{Design}
use Rattle.verilog_tree.specs.Meaning.{Values}
use Rattle.verilog_tree.specs.Circuit.{IsSettling, with_inputs, next}
use Rattle.verilog_tree.specs.Cycle.{circuit_of}
use Rattle.verilog_tree.specs.Shown.{Cycle, inputs_of, ports_of}
use Rattle.verilog_tree.specs.View.{design_view}
use Rattle.clock_sim.specs.Sim.{Simulation, IsSound}
use Rattle.event_order.specs.Drawn.{declared_names, state_after_cycle, last_evaluated}
use Rattle.order_sim.specs.declared.readers.Readers.{Readers}
use Rattle.order_sim.specs.declared.sim.Seen.{Seen}
use Rattle.order_sim.specs.Drawing.{AreReaders, CountReads}

-- a module, the values of its names, and the state of the draws
pub record Drawing : Type 0 where
  pub design : Module
  pub values : List ℕ
  pub number : ℕ

-- A cycle was run: `wires` are the settled values from which the outputs were read. The assignment told as the last one is the one that the steps drawn
-- from the state evaluate last before that; the registers are the next ones, and the state is the one after all of these steps.
pub record RunsDrawn (d : Design) (before : Values) (state : ℕ) (cycle : Cycle) (seen : Seen) (wires after : Values) (new_state : ℕ) : Type 0 where
  pub settling : IsSettling (circuit_of d) (with_inputs (inputs_of (ports_of d) cycle) before) wires
  pub valid : seen.valid ≡ not (wires (ports_of d).out_valid == 0)
  pub out_data : seen.out_data ≡ wires (ports_of d).out_data
  pub last : seen.last ≡ last_evaluated (circuit_of d) state
  pub next_values : (name : ℕ) → after name ≡ next (circuit_of d) wires name
  pub next_state : new_state ≡ state_after_cycle (circuit_of d) (declared_names d) wires state

-- what a simulator that draws keeps
pub record IsDrawer (m : Module) (s : Simulation) (readers : List Readers) (reads waiting : List ℕ) (ready marks : List Bool) : Type 0 where
  pub design_is : s.design ≡ m
  pub sound : IsSound (design_view s.design)
  pub readers_are : AreReaders (circuit_of (design_view s.design)) readers
  pub reads_are : CountReads (circuit_of (design_view s.design)) reads
  pub waits : length waiting ≡ length (circuit_of (design_view s.design)).drivers
  pub flags : length ready ≡ length (circuit_of (design_view s.design)).drivers
  pub marks_many : length marks ≡ length s.values
