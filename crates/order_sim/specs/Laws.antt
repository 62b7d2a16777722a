-- What every order of the steps of a cycle tells.
use Rattle.std.specs.Prelude.{◌≡◌, ℕ, ◌==◌, not}
use Rattle.verilog_tree.specs.Tree.{Design}
use Rattle.verilog_tree.specs.Meaning.{Values}
use Rattle.verilog_tree.specs.Cycle.{circuit_of}
use Rattle.verilog_tree.specs.Shown.{Cycle, inputs_of, ports_of}
use Rattle.event_order.specs.Drawn.{drawn_steps, declared_names}
use Rattle.event_order.specs.Laws.{IsRegister, IsWire}
use Rattle.event_order.specs.Order.{Moment, CycleSteps, IsOrder, IsStart}
use Rattle.order_sim.specs.declared.sim.Seen.{Seen}

-- a moment at which an order of a cycle may begin, with these registers, any wires and any earlier inputs
pub record MayBegin (d : Design) (before : Values) (start : Moment) : Type 0 where
  pub is_start : IsStart (circuit_of d) start
  pub same : (n : ℕ) → IsRegister d n → start.values n ≡ before n

-- the outputs that are read, the wires at that reading, and the registers at the end, where another order may begin
pub record TellsCycle (d : Design) (seen : Seen) (after : Values) (read end : Moment) : Type 0 where
  pub valid : seen.valid ≡ not (read.values (ports_of d).out_valid == 0)
  pub out_data : seen.out_data ≡ read.values (ports_of d).out_data
  pub wires : (n : ℕ) → IsWire d n → read.values n ≡ after n
  pub registers : (n : ℕ) → IsRegister d n → end.values n ≡ after n
  pub is_start : IsStart (circuit_of d) end

-- What is seen in a cycle, and the values after it, are what every order of its steps tells. The steps that are drawn in this state, where these are the
-- settled wires, are such an order.
pub record EveryOrderTells (d : Design) (before : Values) (state : ℕ) (cycle : Cycle) (seen : Seen) (wires after : Values) : Type 0 where
  pub tells : (start : Moment) (steps : CycleSteps) (read end : Moment) → MayBegin d before start → IsOrder (circuit_of d) (inputs_of (ports_of d) cycle) start steps read end → TellsCycle d seen after read end
  pub drawn : (start : Moment) → MayBegin d before start
      → (read : Moment) × (end : Moment) × IsOrder (circuit_of d) (inputs_of (ports_of d) cycle) start (drawn_steps (circuit_of d) (declared_names d) wires state) read end
