-- Every order in which a simulator may take the steps of a cycle: an evaluation of an assignment, a run of a block, an
-- update of a register, and no other. No step is told that a wire is settled. The steps are this project's own, after
-- IEEE 1364-2001, clause 5.
use Rattle.std.specs.Prelude.{◌≡◌, ℕ, ◌==◌, Bool, true, false, not, ◌&&◌, ◌||◌, if◌then◌else◌, List, [], ◌∷◌, All, Option, None, Some, slice_get}
use Rattle.std.specs.Option.{option_map_or}
use Rattle.verilog_tree.specs.Meaning.{Values}
use Rattle.verilog_tree.specs.Circuit.{put, Driver, Process, Circuit, Input, later}

-- a moment in a cycle
pub record Moment : Type 0 where
  pub values : Values
  -- the assignments to be evaluated, by their places
  pub pending : ℕ → Bool
  -- the blocks still to run, by their places
  pub waiting : ℕ → Bool
  -- a value for each register whose update is to come
  pub updates : ℕ → Option ℕ

-- whether the assignment at a place reads a name
abbrev pub reads_at : Circuit → ℕ → ℕ → Bool
reads_at c n k = option_map_or (λ d. d.reads n) (slice_get c.drivers k) false

-- a name gets a value; where that changed, each assignment that reads it becomes pending
abbrev pub changed : Circuit → ℕ → ℕ → Moment → Moment
changed c n x m = record m {
  values = put m.values n x;
  pending = λ k. m.pending k || (not (m.values n == x) && reads_at c n k);
}

-- an evaluation of the assignment at a place
abbrev pub evaluated : Circuit → ℕ → Driver → Moment → Moment
evaluated c place d m = changed c d.target (d.value m.values) (record m { pending = λ k. if k == place then false else m.pending k })

-- a run of the block at a place
abbrev pub ran : ℕ → Process → Moment → Moment
ran place p m = record m {
  waiting = λ k. if k == place then false else m.waiting k;
  updates = λ register. later (m.updates register) (p m.values register);
}

-- an update of a register
abbrev pub updated : Circuit → ℕ → ℕ → Moment → Moment
updated c register x m = changed c register x (record m { updates = λ r. if r == register then None else m.updates r })

-- a step: of the assignment or block at a place, or of a register
pub data Step : Type 0 where
  Evaluate : ℕ → Step
  Run : ℕ → Step
  Update : ℕ → Step

abbrev pub IsStep : Circuit → Moment → Step → Moment → Type 0
IsStep c m (Evaluate k) after = (d : Driver) × (slice_get c.drivers k ≡ Some d) × (after ≡ evaluated c k d m)
IsStep c m (Run k) after = (p : Process) × (slice_get c.processes k ≡ Some p) × (m.waiting k ≡ true) × (after ≡ ran k p m)
IsStep c m (Update register) after = (x : ℕ) × (m.updates register ≡ Some x) × (after ≡ updated c register x m)

-- the steps lead from one moment to another
abbrev pub Leads : Circuit → Moment → List Step → Moment → Type 0
Leads c m [] after = after ≡ m
Leads c m (s ∷ ss) after = (middle : Moment) × IsStep c m s middle × Leads c middle ss after

abbrev pub is_evaluation : Step → Bool
is_evaluation (Evaluate k) = true
is_evaluation (Run k) = false
is_evaluation (Update register) = false

abbrev pub is_update : Step → Bool
is_update (Evaluate k) = false
is_update (Run k) = false
is_update (Update register) = true

abbrev pub is_run : Step → Bool
is_run (Evaluate k) = false
is_run (Run k) = true
is_run (Update register) = false

-- the inputs are set, one after the other
abbrev pub with_inputs_set : Circuit → List Input → Moment → Moment
with_inputs_set c [] m = m
with_inputs_set c (i ∷ is) m = with_inputs_set c is (changed c i.name i.value m)

abbrev pub IsQuiet : Circuit → Moment → Type 0
IsQuiet c m = (k : ℕ) (d : Driver) → slice_get c.drivers k ≡ Some d → m.pending k ≡ false

abbrev pub HasRun : Circuit → Moment → Type 0
HasRun c m = (k : ℕ) (p : Process) → slice_get c.processes k ≡ Some p → m.waiting k ≡ false

abbrev pub IsUpdated : Moment → Type 0
IsUpdated m = (register : ℕ) → m.updates register ≡ None

-- the steps of one cycle
pub record CycleSteps : Type 0 where
  pub settle : List Step
  pub edge : List Step
  pub update : List Step

-- an order of one cycle, from a moment to the moment after it; the outputs are read at `read`
pub record IsOrder (c : Circuit) (inputs : List Input) (start : Moment) (steps : CycleSteps) (read after : Moment) : Type 0 where
  pub settle_steps : All (λ s. is_evaluation s ≡ true) steps.settle
  pub settle : Leads c (with_inputs_set c inputs start) steps.settle read
  pub quiet : IsQuiet c read
  -- every block is still to run, and runs
  pub run : Moment
  pub edge_steps : All (λ s. is_update s ≡ false) steps.edge
  pub edge : Leads c (record read { waiting = λ k. true }) steps.edge run
  pub has_run : HasRun c run
  -- each register that was given a value is updated
  pub update_steps : All (λ s. is_run s ≡ false) steps.update
  pub update : Leads c run steps.update after
  pub is_updated : IsUpdated after

-- at least the assignments are pending whose wire differs from its expression
abbrev pub IsAwake : Circuit → Moment → Type 0
IsAwake c m = (k : ℕ) (d : Driver) → slice_get c.drivers k ≡ Some d → m.pending k ≡ false → m.values d.target ≡ d.value m.values

-- a moment at which an order of a cycle may begin
pub record IsStart (c : Circuit) (m : Moment) : Type 0 where
  pub awake : IsAwake c m
  pub is_updated : IsUpdated m

-- the inputs are driven by no assignment
abbrev pub AreInputs : Circuit → List Input → Type 0
AreInputs c inputs = All (λ (i : Input). (k : ℕ) (d : Driver) → slice_get c.drivers k ≡ Some d → d.target ≡ i.name → ⊥) inputs

-- orders of a list of cycles, one after the other: what is pending at the end of one is carried into the next. The outputs of
-- each cycle are read from the values of `reads`, and it ends with those of `ends`
abbrev pub AreOrders : Circuit → List (List Input) → Moment → List Values → List Values → Type 0
AreOrders c [] start reads ends = (reads ≡ []) × (ends ≡ [])
AreOrders c (inputs ∷ cycles) start reads ends =
    (steps : CycleSteps) × (read : Moment) × (middle : Moment) × (rest : List Values) × (later : List Values)
    × (reads ≡ read.values ∷ rest) × (ends ≡ middle.values ∷ later) × IsOrder c inputs start steps read middle × AreOrders c cycles middle rest later

-- the moment before the first cycle, with any content: every assignment is pending
abbrev pub first_moment : Values → Moment
first_moment content = record { values = content; pending = λ k. true; waiting = λ k. false; updates = λ register. None }
