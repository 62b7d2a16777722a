-- What a simulator needs of a module and of the order in which it evaluates the assignments.
use Rattle.std.specs.Prelude.{◌≡◌, ℕ, ◌<◌, Bool, true, false, ◌&&◌, ◌||◌, nat_lt, IsTrue, List, [], ◌∷◌, Option, Some, get_or, unwrap_or, slice_get, slice_index, is_some}
use Rattle.verilog_tree.specs.Tree.{Action, Actions, Block, When, Either, Give, no_action, action, Assignment, Design}
use Rattle.verilog_tree.specs.Meaning.{Shapes, Values, fits, is_width, assigned, IsFitting}
use Rattle.verilog_tree.specs.Names.{shapes_of}
use Rattle.verilog_tree.specs.Circuit.{Driver, Circuit}
use Rattle.verilog_tree.specs.Cycle.{given_with_all, condition_holds}

-- the values of all signals that a list holds, by the numbers of their names
abbrev pub values_of : List ℕ → Values
values_of values = λ n. slice_index values n

-- the lengths and signs of names that two lists hold
abbrev pub table_shapes : List ℕ → List Bool → Shapes
table_shapes widths signs = record {
  width = λ n. get_or widths n 1;
  signed = λ n. get_or signs n false;
}

-- a right side that can be evaluated for a target among so many names
pub record AssignFits (shapes : Shapes) (count : ℕ) (a : Assignment) : Type 0 where
  pub target : a.target < count
  pub width : IsFitting (shapes.width a.target)
  pub value : IsTrue (fits shapes a.value)

pub record AssignsFit (d : Design) (count : ℕ) : Type 0 where
  pub each : (k : ℕ) (a : Assignment) → slice_get d.assigns k ≡ Some a → AssignFits (shapes_of d) count a

abbrev mutual
  -- the conditions and right sides of a statement can be evaluated, for targets among so many names
  pub action_fits : Shapes → ℕ → Action → Bool
  action_fits shapes count (Block members) = actions_fit shapes count members
  action_fits shapes count (When condition first) = fits shapes condition && action_fits shapes count first
  action_fits shapes count (Either condition first second) = fits shapes condition && (action_fits shapes count first && action_fits shapes count second)
  action_fits shapes count (Give target e) = nat_lt target count && (is_width (shapes.width target) && fits shapes e)

  pub actions_fit : Shapes → ℕ → Actions → Bool
  actions_fit shapes count no_action = true
  actions_fit shapes count (action first rest) = action_fits shapes count first && actions_fit shapes count rest

-- the same of a list of blocks
abbrev pub blocks_fit : Shapes → ℕ → List Action → Bool
blocks_fit shapes count [] = true
blocks_fit shapes count (s ∷ ss) = action_fits shapes count s && blocks_fit shapes count ss

-- the last value that statements give a register
abbrev pub all_given : Shapes → Values → Actions → ℕ → Option ℕ
all_given shapes values = given_with_all (condition_holds shapes values) (assigned shapes values)

-- the wires of the first assignments of the order are settled
pub record IsSettledTo (c : Circuit) (content : Values) (order : List ℕ) (place : ℕ) (values : Values) : Type 0 where
  pub sources : (n : ℕ) → ((k : ℕ) (d : Driver) → slice_get c.drivers k ≡ Some d → d.target ≡ n → ⊥) → values n ≡ content n
  pub settled : (i k : ℕ) (d : Driver) → i < place → slice_get order i ≡ Some k → slice_get c.drivers k ≡ Some d → values d.target ≡ d.value values

-- the registers with the values that are given to them
pub record Given (given : ℕ → Option ℕ) (before after : Values) : Type 0 where
  pub each : (register : ℕ) → after register ≡ unwrap_or (given register) (before register)

-- the flags with those of the registers set to which values are given
pub record Marked (given : ℕ → Option ℕ) (before after : ℕ → Bool) : Type 0 where
  pub each : (register : ℕ) → after register ≡ (before register || is_some (given register))
