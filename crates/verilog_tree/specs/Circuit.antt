-- A module as a circuit: each continuous assignment and each always block as a function of the values of all signals.
-- What settled wires are, what the next registers are, and what a circuit without a combinational loop is.
use Rattle.std.specs.Prelude.{◌≡◌, ◌<◌, ℕ, ◌==◌, Bool, true, if◌then◌else◌, List, [], ◌∷◌, Option, None, Some, slice_get}
use Rattle.std.specs.Option.{unwrap_or}
use Rattle.verilog_tree.specs.Meaning.{Values}

-- the values with one of them given anew
abbrev pub put : Values → ℕ → ℕ → Values
put values name x = λ n. if n == name then x else values n

-- a continuous assignment: the wire that it drives, the names that its expression reads, and the value that it gives
pub record Driver : Type 0 where
  pub target : ℕ
  pub reads : ℕ → Bool
  pub value : Values → ℕ

-- an always block: the value that it gives each register, if it gives it one
abbrev pub Process : Type 0
Process = Values → ℕ → Option ℕ

pub record Circuit : Type 0 where
  pub drivers : List Driver
  pub processes : List Process

-- a register, an input or any other name that no assignment drives
abbrev pub IsSource : Circuit → ℕ → Type 0
IsSource c n = (k : ℕ) (d : Driver) → slice_get c.drivers k ≡ Some d → d.target ≡ n → ⊥

-- each wire has the value of its expression
abbrev pub IsSettled : Circuit → Values → Type 0
IsSettled c values = (k : ℕ) (d : Driver) → slice_get c.drivers k ≡ Some d → values d.target ≡ d.value values

-- settled values with the registers and inputs of a content
pub record IsSettling (c : Circuit) (content values : Values) : Type 0 where
  pub sources : (n : ℕ) → IsSource c n → values n ≡ content n
  pub settled : IsSettled c values

-- the later of two values given to a register
abbrev pub later : {A : Type 0} → Option A → Option A → Option A
later first None = first
later first (Some x) = Some x

-- the last value that the blocks give a register
abbrev pub given_by : List Process → Values → ℕ → Option ℕ
given_by [] values register = None
given_by (p ∷ ps) values register = later (p values register) (given_by ps values register)

-- a register after the edge: one that is given no value stays
abbrev pub next : Circuit → Values → Values
next c values register = unwrap_or (given_by c.processes values register) (values register)

-- ---- what the checks of a module give

-- the value of an expression depends only on the names that it reads
abbrev pub DependsOnReads : Driver → Type 0
DependsOnReads d = (v w : Values) → ((n : ℕ) → d.reads n ≡ true → v n ≡ w n) → d.value v ≡ d.value w

-- each wire has one assignment; each register has one block and no assignment
pub record IsSound (c : Circuit) : Type 0 where
  pub depends : (k : ℕ) (d : Driver) → slice_get c.drivers k ≡ Some d → DependsOnReads d
  pub one_driver : (i j : ℕ) (d e : Driver) → slice_get c.drivers i ≡ Some d → slice_get c.drivers j ≡ Some e → d.target ≡ e.target → i ≡ j
  pub one_process : (i j : ℕ) (p q : Process) (values : Values) (register x y : ℕ)
      → slice_get c.processes i ≡ Some p → slice_get c.processes j ≡ Some q → p values register ≡ Some x → q values register ≡ Some y → i ≡ j
  pub registers : (k : ℕ) (p : Process) (values : Values) (register x : ℕ) → slice_get c.processes k ≡ Some p → p values register ≡ Some x → IsSource c register

-- each wire has a higher level than the names that its expression reads
abbrev pub IsLevelled : Circuit → (ℕ → ℕ) → Type 0
IsLevelled c level = (k : ℕ) (d : Driver) → slice_get c.drivers k ≡ Some d → (n : ℕ) → d.reads n ≡ true → level n < level d.target

-- no wire depends on itself through assignments
abbrev pub HasNoLoop : Circuit → Type 0
HasNoLoop c = (level : ℕ → ℕ) × IsLevelled c level

-- ---- runs

-- an input of a cycle
pub record Input : Type 0 where
  pub name : ℕ
  pub value : ℕ

-- the values with the inputs set
abbrev pub with_inputs : List Input → Values → Values
with_inputs [] values = values
with_inputs (i ∷ is) values = with_inputs is (put values i.name i.value)

-- the settled values of each cycle of a run that begins with the registers of a content
abbrev pub IsRun : Circuit → Values → List (List Input) → List Values → Type 0
IsRun c content [] settled = settled ≡ []
IsRun c content (inputs ∷ cycles) settled =
    (values : Values) × (rest : List Values) × (settled ≡ values ∷ rest) × IsSettling c (with_inputs inputs content) values × IsRun c (next c values) cycles rest
