-- The levels of signals.
use Rattle.std.specs.Prelude.{◌≡◌, ℕ, ◌+◌, ◌<◌, ◌≤◌, max, List, All, length, map, Some, slice_get, get_or}
use Rattle.verilog_tree.specs.declared.tree.Signal.{Signal}
use Rattle.verilog_tree.specs.Tree.{Tree, Trees, Name, Bit, Part, Plain, Based, Cat, Not, Binary, Shift, Choice, none, more, Assignment, Design}

abbrev mutual
  -- the greatest level of the names that an expression reads, and 0 where it reads none
  pub greatest : (ℕ → ℕ) → Tree → ℕ
  greatest level (Name n) = level n
  greatest level (Bit n place) = level n
  greatest level (Part n high low) = level n
  greatest level (Plain x) = 0
  greatest level (Based width signed bits) = 0
  greatest level (Cat members) = greatest_of level members
  greatest level (Not a) = greatest level a
  greatest level (Binary op a b) = max (greatest level a) (greatest level b)
  greatest level (Shift op a amount) = greatest level a
  greatest level (Choice condition a b) = max (greatest level condition) (max (greatest level a) (greatest level b))

  pub greatest_of : (ℕ → ℕ) → Trees → ℕ
  greatest_of level none = 0
  greatest_of level (more first rest) = max (greatest level first) (greatest_of level rest)

-- what no assignment drives has level 0, and each target one more than the greatest of what its expression reads
pub record HasLevels (d : Design) (level : ℕ → ℕ) : Type 0 where
  pub source : (n : ℕ) → ((k : ℕ) (a : Assignment) → slice_get d.assigns k ≡ Some a → a.target ≡ n → ⊥) → level n ≡ 0
  pub wire : (k : ℕ) (a : Assignment) → slice_get d.assigns k ≡ Some a → level a.target ≡ greatest level a.value + 1

-- the levels by the numbers of names
abbrev pub level_in : List ℕ → ℕ → ℕ
level_in levels = λ n. get_or levels n 0

-- the levels of the signals, in the order of the declarations
abbrev pub AreLevelsOf : Design → List ℕ → Type 0
AreLevelsOf d levels = (level : ℕ → ℕ) × HasLevels d level × (levels ≡ map (λ (s : Signal). level s.name) d.signals)

-- ---- the order of evaluation

-- the places of all assignments, each once, and none before one of a lower level
pub record IsByLevel (d : Design) (level : ℕ → ℕ) (order : List ℕ) : Type 0 where
  pub within : All (λ k. k < length d.assigns) order
  pub once : (i j k : ℕ) → slice_get order i ≡ Some k → slice_get order j ≡ Some k → i ≡ j
  pub covers : (k : ℕ) (a : Assignment) → slice_get d.assigns k ≡ Some a → (i : ℕ) × (slice_get order i ≡ Some k)
  pub rises : (i j k m : ℕ) (a b : Assignment) → i ≤ j → slice_get order i ≡ Some k → slice_get order j ≡ Some m
      → slice_get d.assigns k ≡ Some a → slice_get d.assigns m ≡ Some b → level a.target ≤ level b.target

-- the assignments sorted by the levels of what they drive
abbrev pub AreByLevel : Design → List ℕ → Type 0
AreByLevel d order = (level : ℕ → ℕ) × HasLevels d level × IsByLevel d level order
