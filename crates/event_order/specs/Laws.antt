-- What every order of steps shows.
use Rattle.std.specs.Prelude.{◌≡◌, ℕ, true, List, [], ◌∷◌, map, Some, slice_get}
use Rattle.verilog_tree.specs.Meaning.{Values}
use Rattle.verilog_tree.specs.Circuit.{Circuit, Input, IsSource, IsSettling, with_inputs, next}
use Rattle.verilog_tree.specs.Cycle.{circuit_of}
use Rattle.verilog_tree.specs.Shown.{Cycle, RunsOver, inputs_of, ports_of}
use Rattle.verilog_tree.specs.Tree.{Assignment, Design}
use Rattle.verilog_tree.specs.Checks.{is_of_kind, can_be_given}
use Rattle.event_order.specs.Drawn.{drawn_steps, declared_names}
use Rattle.event_order.specs.Order.{Moment, CycleSteps, IsOrder, IsStart, AreInputs, AreOrders, first_moment}

-- in every order of one cycle, from any moment at which one may begin, the outputs are read from the settled wires, the registers at its
-- end are the next registers, and its end is such a moment again
abbrev pub EveryOrder : Circuit → Type 0
EveryOrder c =
    (inputs : List Input) (start : Moment) (steps : CycleSteps) (read after : Moment) → AreInputs c inputs → IsStart c start → IsOrder c inputs start steps read after
    → IsSettling c (with_inputs inputs start.values) read.values × ((n : ℕ) → IsSource c n → after.values n ≡ next c read.values n) × IsStart c after

-- The drawn steps are an order of the cycle, in which the outputs are read from the settled wires: from any moment at which an order may begin,
-- and in any state of the draws.
abbrev pub DrawnIsOrder : Design → Type 0
DrawnIsOrder d =
    (inputs : List Input) (start : Moment) (state : ℕ) (settled : Values) → AreInputs (circuit_of d) inputs → IsStart (circuit_of d) start
    → IsSettling (circuit_of d) (with_inputs inputs start.values) settled
    → (read : Moment) × (after : Moment) × IsOrder (circuit_of d) inputs start (drawn_steps (circuit_of d) (declared_names d) settled state) read after × (read.values ≡ settled)

-- the inputs of cycles, by the names of a module's ports
abbrev pub inputs_over : Design → List Cycle → List (List Input)
inputs_over d cycles = map (inputs_of (ports_of d)) cycles

-- at the end of each cycle the registers are the next registers of its settled wires
abbrev pub AreNext : Circuit → List Values → List Values → Type 0
AreNext c [] ends = ends ≡ []
AreNext c (values ∷ settled) ends =
    (end : Values) × (later : List Values) × (ends ≡ end ∷ later) × ((n : ℕ) → IsSource c n → end n ≡ next c values n) × AreNext c settled later

-- In all orders of a list of cycles, from any content of registers and wires with every assignment pending, the values from which the
-- outputs are read are those of the run, and the registers at the end of each cycle are the next ones.
abbrev pub EveryRun : Design → Type 0
EveryRun d =
    (cycles : List Cycle) (content : Values) (reads ends : List Values) → AreOrders (circuit_of d) (inputs_over d cycles) (first_moment content) reads ends
    → RunsOver d content cycles reads × AreNext (circuit_of d) reads ends

-- a name that is declared as a register
abbrev pub IsRegister : Design → ℕ → Type 0
IsRegister d n = is_of_kind can_be_given d n ≡ true

-- a name that an assignment drives: a wire or an output
abbrev pub IsWire : Design → ℕ → Type 0
IsWire d n = (k : ℕ) × (a : Assignment) × (slice_get d.assigns k ≡ Some a) × (a.target ≡ n)

-- A cycle of an order is that of a run with these settled wires: where the outputs are read, each wire, output and register has its settled value, and at
-- the end each register has its next one.
pub record IsCycleOf (d : Design) (settled read end : Values) : Type 0 where
  pub wires : (n : ℕ) → IsWire d n → read n ≡ settled n
  pub registers : (n : ℕ) → IsRegister d n → read n ≡ settled n
  pub registers_after : (n : ℕ) → IsRegister d n → end n ≡ next (circuit_of d) settled n

-- each cycle is
abbrev pub AreCyclesOf : Design → List Values → List Values → List Values → Type 0
AreCyclesOf d [] reads ends = (reads ≡ []) × (ends ≡ [])
AreCyclesOf d (values ∷ settled) reads ends =
    (read : Values) × (rest : List Values) × (end : Values) × (later : List Values) × (reads ≡ read ∷ rest) × (ends ≡ end ∷ later) × IsCycleOf d values read end × AreCyclesOf d settled rest later

-- In all orders of a list of cycles that begin with the registers of a run, with any wires and any earlier inputs, and with every assignment pending,
-- each cycle is that of the run.
abbrev pub EveryStart : Design → Type 0
EveryStart d =
    (cycles : List Cycle) (content begun : Values) (settled reads ends : List Values) → ((n : ℕ) → IsRegister d n → begun n ≡ content n)
    → RunsOver d content cycles settled → AreOrders (circuit_of d) (inputs_over d cycles) (first_moment begun) reads ends → AreCyclesOf d settled reads ends
