-- What a search for a loop answers.
use Rattle.std.specs.Prelude.{◌≡◌, ℕ, Option, None, Some, slice_get}
use Rattle.verilog_tree.specs.declared.tree.Signal.{Signal}
use Rattle.verilog_tree.specs.Tree.{Assignment, Design}
use Rattle.verilog_tree.specs.Checks.{declarations, DependsOnItself, IsFirstLoop}

-- each target of an assignment is declared
pub record AreDeclared (d : Design) : Type 0 where
  pub each : (k : ℕ) (a : Assignment) → slice_get d.assigns k ≡ Some a → (i : ℕ) × (s : Signal) × (slice_get (declarations d) i ≡ Some s) × (s.name ≡ a.target)

-- the first loop, or that there is none
abbrev pub IsLoopOf : Design → Option ℕ → Type 0
IsLoopOf d None = (n : ℕ) → DependsOnItself d n → ⊥
IsLoopOf d (Some n) = IsFirstLoop d n
