-- Names that depend on others, by flags.
use Rattle.std.specs.Prelude.{◌≡◌, ℕ, Bool, true, slice_get, Some}
use Rattle.verilog_tree.specs.Tree.{Assignment, Design}
use Rattle.verilog_tree.specs.Checks.{DependsBy}
use Rattle.settle_order.specs.Placing.{reads_open}

-- what was marked still is, and each marked name is or depends on one that was
pub record AreDependents (d : Design) (before now : ℕ → Bool) : Type 0 where
  pub kept : (m : ℕ) → before m ≡ true → now m ≡ true
  pub depend : (m : ℕ) → now m ≡ true → (n : ℕ) × (before n ≡ true) × (k : ℕ) × DependsBy d k m n

-- each target of an assignment that reads a marked name is marked
abbrev pub AreAllDependents : Design → (ℕ → Bool) → Type 0
AreAllDependents d marked = (k : ℕ) (a : Assignment) → slice_get d.assigns k ≡ Some a → reads_open marked a.value ≡ true → marked a.target ≡ true

-- an assignment to a name reads a marked name
abbrev pub ReadsItself : Design → ℕ → (ℕ → Bool) → Type 0
ReadsItself d name marked = (k : ℕ) × (a : Assignment) × (slice_get d.assigns k ≡ Some a) × (a.target ≡ name) × (reads_open marked a.value ≡ true)
