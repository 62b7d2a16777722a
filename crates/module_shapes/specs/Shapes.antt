-- The shape of the statements that drive the names of a linear group.
use Rattle.std.specs.Prelude.{◌≡◌, ℕ, Bool, true, Some, slice_get}
use Rattle.verilog_tree.specs.Counted.{in_group, is_linear}
use Rattle.verilog_tree.specs.Tree.{Action, Actions, Block, When, Either, Give, no_action, action, Assignment, Design}

abbrev mutual
  -- each right side of a block for a register of the group has this shape
  pub IsGivenLinear : Design → (ℕ → Bool) → Action → Type 0
  IsGivenLinear d counts (Block members) = AreGivenLinear d counts members
  IsGivenLinear d counts (When condition first) = IsGivenLinear d counts first
  IsGivenLinear d counts (Either condition first second) = IsGivenLinear d counts first × IsGivenLinear d counts second
  IsGivenLinear d counts (Give target e) = counts target ≡ true → is_linear d e ≡ true

  pub AreGivenLinear : Design → (ℕ → Bool) → Actions → Type 0
  AreGivenLinear d counts no_action = Unit {0}
  AreGivenLinear d counts (action first rest) = IsGivenLinear d counts first × AreGivenLinear d counts rest

-- The statements that drive names of the group hold only names, literals, `+`, `-`, `<<<` and choices by a control name, beside the
-- conditions of a register's block.
pub record HasLinearShapes (d : Design) (group : ℕ) : Type 0 where
  pub assigned : (k : ℕ) (a : Assignment) → slice_get d.assigns k ≡ Some a → in_group d group a.target ≡ true → is_linear d a.value ≡ true
  pub given : (k : ℕ) (s : Action) → slice_get d.blocks k ≡ Some s → IsGivenLinear d (in_group d group) s
