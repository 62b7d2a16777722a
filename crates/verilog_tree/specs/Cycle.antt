-- The clocked meaning of a module: its assignments and always blocks as functions of the values of all signals
-- (IEEE 1364-2001, 6.1, 9.2 and 9.7; all registers change together).
use Rattle.std.specs.Prelude.{◌≡◌, ◌<◌, ℕ, ◌==◌, Bool, true, false, ◌||◌, not, if◌then◌else◌, map, Option, None, Some, slice_get}
use Rattle.verilog_tree.specs.Tree.{Tree, Trees, Name, Bit, Part, Plain, Based, Cat, Not, Binary, Shift, Choice, none, more, Action, Actions, Block, When, Either, Give, no_action, action, Assignment, Design}
use Rattle.verilog_tree.specs.Meaning.{Shapes, Values, alone, assigned}
use Rattle.verilog_tree.specs.Names.{shapes_of}
use Rattle.verilog_tree.specs.Circuit.{Driver, Process, Circuit, later}

-- ---- what an expression reads

abbrev mutual
  -- whether an expression reads a name
  pub reads : Tree → ℕ → Bool
  reads (Name m) n = n == m
  reads (Bit m place) n = n == m
  reads (Part m high low) n = n == m
  reads (Plain x) n = false
  reads (Based width signed bits) n = false
  reads (Cat members) n = any_reads members n
  reads (Not a) n = reads a n
  reads (Binary op a b) n = reads a n || reads b n
  reads (Shift op a amount) n = reads a n
  reads (Choice condition a b) n = reads condition n || (reads a n || reads b n)

  pub any_reads : Trees → ℕ → Bool
  any_reads none n = false
  any_reads (more first rest) n = reads first n || any_reads rest n

-- ---- what a statement gives

abbrev pub one_of : {A : Type 0} → Bool → Option A → Option A → Option A
one_of true a b = a
one_of false a b = b

abbrev mutual
  -- the last value that a statement gives to a register, by the truth of conditions and the values of right sides
  pub given_with : {A : Type 0} → (Tree → Bool) → (ℕ → Tree → A) → Action → ℕ → Option A
  given_with holds gives (Block members) register = given_with_all holds gives members register
  given_with holds gives (When condition first) register = one_of (holds condition) (given_with holds gives first register) None
  given_with holds gives (Either condition first second) register =
      one_of (holds condition) (given_with holds gives first register) (given_with holds gives second register)
  given_with holds gives (Give target e) register = if register == target then Some (gives target e) else None

  pub given_with_all : {A : Type 0} → (Tree → Bool) → (ℕ → Tree → A) → Actions → ℕ → Option A
  given_with_all holds gives no_action register = None
  given_with_all holds gives (action first rest) register = later (given_with holds gives first register) (given_with_all holds gives rest register)

-- a condition holds where its value isn't 0
abbrev pub condition_holds : Shapes → Values → Tree → Bool
condition_holds shapes values condition = not (alone shapes values condition == 0)

abbrev pub given : Shapes → Values → Action → ℕ → Option ℕ
given shapes values = given_with (condition_holds shapes values) (assigned shapes values)

-- ---- the circuit

abbrev pub driver_of : Shapes → Assignment → Driver
driver_of shapes a = record {
  target = a.target;
  reads = reads a.value;
  value = λ values. assigned shapes values a.target a.value;
}

abbrev pub process_of : Shapes → Action → Process
process_of shapes s = λ values register. given shapes values s register

abbrev pub circuit_of : Design → Circuit
circuit_of d = record {
  drivers = map (driver_of (shapes_of d)) d.assigns;
  processes = map (process_of (shapes_of d)) d.blocks;
}

-- ---- what the checks of a module see

abbrev mutual
  -- whether a statement names a register on a left side
  pub sets : Action → ℕ → Bool
  sets (Block members) register = any_sets members register
  sets (When condition first) register = sets first register
  sets (Either condition first second) register = sets first register || sets second register
  sets (Give target e) register = register == target

  pub any_sets : Actions → ℕ → Bool
  any_sets no_action register = false
  any_sets (action first rest) register = sets first register || any_sets rest register

-- each wire has one assignment; each register has one block and no assignment
pub record IsDrivenOnce (d : Design) : Type 0 where
  pub one_assign : (i j : ℕ) (a b : Assignment) → slice_get d.assigns i ≡ Some a → slice_get d.assigns j ≡ Some b → a.target ≡ b.target → i ≡ j
  pub one_block : (i j register : ℕ) (s t : Action) → slice_get d.blocks i ≡ Some s → slice_get d.blocks j ≡ Some t → sets s register ≡ true → sets t register ≡ true → i ≡ j
  pub no_assign : (i k register : ℕ) (s : Action) (a : Assignment) → slice_get d.blocks i ≡ Some s → slice_get d.assigns k ≡ Some a → sets s register ≡ true → a.target ≡ register → ⊥

-- each wire has a higher level than the names that its expression reads
abbrev pub AreLevels : Design → (ℕ → ℕ) → Type 0
AreLevels d level = (k : ℕ) (a : Assignment) → slice_get d.assigns k ≡ Some a → (n : ℕ) → reads a.value n ≡ true → level n < level a.target

-- no wire depends on itself through assignments
abbrev pub IsLoopFree : Design → Type 0
IsLoopFree d = (level : ℕ → ℕ) × AreLevels d level
