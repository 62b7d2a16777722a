-- An order in which the assignments of a module can be evaluated, and how it is found: an assignment is placed once none of the
-- wires that it reads is open.
use Rattle.std.specs.Prelude.{◌≡◌, ◌<◌, ◌≤◌, ℕ, ◌+◌, Bool, true, false, ◌||◌, if◌then◌else◌, List, [], ◌∷◌, All, length, Some, get_or, slice_get}
use Rattle.verilog_tree.specs.Tree.{Tree, Trees, Name, Bit, Part, Plain, Based, Cat, Not, Binary, Shift, Choice, none, more, Design}
use Rattle.verilog_tree.specs.Circuit.{Driver, Circuit}

-- the places of all assignments, so that none reads a wire that a later one drives, nor its own
pub record IsEvaluationOrder (c : Circuit) (order : List ℕ) : Type 0 where
  pub within : All (λ k. k < length c.drivers) order
  pub once : (i j k : ℕ) → slice_get order i ≡ Some k → slice_get order j ≡ Some k → i ≡ j
  pub covers : (k : ℕ) (d : Driver) → slice_get c.drivers k ≡ Some d → (i : ℕ) × (slice_get order i ≡ Some k)
  pub later : (i j a b : ℕ) (d e : Driver) → i ≤ j → slice_get order i ≡ Some a → slice_get order j ≡ Some b
      → slice_get c.drivers a ≡ Some d → slice_get c.drivers b ≡ Some e → d.reads e.target ≡ false

-- each assignment drives one of the first `count` names
pub record AreNamed (d : Design) (count : ℕ) : Type 0 where
  pub targets : All (λ a. a.target < count) d.assigns

abbrev mutual
  -- whether an expression reads an open name
  pub reads_open : (ℕ → Bool) → Tree → Bool
  reads_open opened (Name n) = opened n
  reads_open opened (Bit n place) = opened n
  reads_open opened (Part n high low) = opened n
  reads_open opened (Plain x) = false
  reads_open opened (Based width signed bits) = false
  reads_open opened (Cat members) = any_reads_open opened members
  reads_open opened (Not a) = reads_open opened a
  reads_open opened (Binary op a b) = reads_open opened a || reads_open opened b
  reads_open opened (Shift op a amount) = reads_open opened a
  reads_open opened (Choice condition a b) = reads_open opened condition || (reads_open opened a || reads_open opened b)

  pub any_reads_open : (ℕ → Bool) → Trees → Bool
  any_reads_open opened none = false
  any_reads_open opened (more first rest) = reads_open opened first || any_reads_open opened rest

-- the open names, as a list of flags
abbrev pub opened_of : List Bool → ℕ → Bool
opened_of flags = λ n. get_or flags n false

abbrev pub count_open : List Bool → ℕ
count_open [] = 0
count_open (b ∷ bs) = (if b then 1 else 0) + count_open bs

-- the places of the assignments whose wires are no longer open, each after those that drive what it reads
pub record IsPlaced (c : Circuit) (opened : ℕ → Bool) (order : List ℕ) : Type 0 where
  pub placed : (i k : ℕ) → slice_get order i ≡ Some k
      → (d : Driver) × (slice_get c.drivers k ≡ Some d) × (opened d.target ≡ false) × ((n : ℕ) → d.reads n ≡ true → opened n ≡ false)
  pub covers : (k : ℕ) (d : Driver) → slice_get c.drivers k ≡ Some d → opened d.target ≡ false → (i : ℕ) × (slice_get order i ≡ Some k)
  pub opens : (n : ℕ) → opened n ≡ true → (k : ℕ) × (d : Driver) × (slice_get c.drivers k ≡ Some d) × (d.target ≡ n)
  pub once : (i j k : ℕ) → slice_get order i ≡ Some k → slice_get order j ≡ Some k → i ≡ j
  pub later : (i j a b : ℕ) (d e : Driver) → i ≤ j → slice_get order i ≡ Some a → slice_get order j ≡ Some b
      → slice_get c.drivers a ≡ Some d → slice_get c.drivers b ≡ Some e → d.reads e.target ≡ false

-- each assignment whose wire is open reads an open wire
abbrev pub IsStuck : Circuit → (ℕ → Bool) → Type 0
IsStuck c opened = (k : ℕ) (d : Driver) → slice_get c.drivers k ≡ Some d → opened d.target ≡ true → (n : ℕ) × (d.reads n ≡ true) × (opened n ≡ true)

-- the wires, and no other names, are open
pub record AreAllOpen (c : Circuit) (opened : ℕ → Bool) : Type 0 where
  pub wires : (k : ℕ) (d : Driver) → slice_get c.drivers k ≡ Some d → opened d.target ≡ true
  pub opens : (n : ℕ) → opened n ≡ true → (k : ℕ) × (d : Driver) × (slice_get c.drivers k ≡ Some d) × (d.target ≡ n)
