-- What a module costs, counted in its statements: adders, window registers, tables, and the adders one behind another.
use Rattle.std.specs.Prelude.{◌≡◌, ℕ, ◌+◌, ◌≤◌, max, Bool, true, false, ◌&&◌, map, sum, count_by, Some, slice_get, if◌then◌else◌}
use Rattle.verilog_tree.specs.declared.tree.Op.{Op}
use Rattle.verilog_tree.specs.declared.tree.Op.TheVariants.{Add, Sub, Less, LessEqual, Greater, GreaterEqual, Equal, NotEqual, And, Xor, Or}
use Rattle.verilog_tree.specs.declared.tree.Kind.{Kind}
use Rattle.verilog_tree.specs.declared.tree.Kind.TheVariants.{Input, Output, Wire, Reg}
use Rattle.verilog_tree.specs.declared.tree.ShiftOp.{ShiftOp}
use Rattle.verilog_tree.specs.declared.tree.ShiftOp.TheVariants.{Left, Right, ArithLeft, ArithRight}
use Rattle.verilog_tree.specs.Tree.{Tree, Trees, Name, Bit, Part, Plain, Based, Cat, Not, Binary, Shift, Choice, none, more, Action, Actions, Block, When, Either, Give, no_action, action, Assignment, Design}
use Rattle.verilog_tree.specs.Names.{text_of, kind_of, is_control, is_in_group, is_window, is_table}

-- an operator that costs an adder
abbrev pub is_adder : Op → Bool
is_adder Add = true
is_adder Sub = true
is_adder Less = false
is_adder LessEqual = false
is_adder Greater = false
is_adder GreaterEqual = false
is_adder Equal = false
is_adder NotEqual = false
is_adder And = false
is_adder Xor = false
is_adder Or = false

abbrev mutual
  -- the operators `+` and `-` of an expression
  pub adders_in : Tree → ℕ
  adders_in (Name n) = 0
  adders_in (Bit n place) = 0
  adders_in (Part n high low) = 0
  adders_in (Plain x) = 0
  adders_in (Based width signed bits) = 0
  adders_in (Cat members) = adders_in_all members
  adders_in (Not a) = adders_in a
  adders_in (Binary op a b) = (if is_adder op then 1 else 0) + (adders_in a + adders_in b)
  adders_in (Shift op a amount) = adders_in a
  adders_in (Choice condition a b) = adders_in condition + (adders_in a + adders_in b)

  pub adders_in_all : Trees → ℕ
  adders_in_all none = 0
  adders_in_all (more first rest) = adders_in first + adders_in_all rest

abbrev mutual
  -- those of the right sides of a block whose registers pass a test
  pub given_adders : (ℕ → Bool) → Action → ℕ
  given_adders counts (Block members) = given_adders_in_all counts members
  given_adders counts (When condition first) = given_adders counts first
  given_adders counts (Either condition first second) = given_adders counts first + given_adders counts second
  given_adders counts (Give target e) = if counts target then adders_in e else 0

  pub given_adders_in_all : (ℕ → Bool) → Actions → ℕ
  given_adders_in_all counts no_action = 0
  given_adders_in_all counts (action first rest) = given_adders counts first + given_adders_in_all counts rest

-- the names of a group
abbrev pub in_group : Design → ℕ → ℕ → Bool
in_group d group n = is_in_group group (text_of d n)

-- the operators `+` and `-` in statements that drive names which pass a test
abbrev pub adders_of : Design → (ℕ → Bool) → ℕ
adders_of d counts =
    sum (map (λ (a : Assignment). if counts a.target then adders_in a.value else 0) d.assigns) + sum (map (given_adders counts) d.blocks)

abbrev pub is_reg : Kind → Bool
is_reg Reg = true
is_reg Input = false
is_reg Output = false
is_reg Wire = false

abbrev pub is_wire : Kind → Bool
is_wire Wire = true
is_wire Input = false
is_wire Output = false
is_wire Reg = false

-- the cost of a group
pub record Counts : Type 0 where
  pub adders : ℕ
  pub windows : ℕ
  pub tables : ℕ

abbrev pub counted : Design → ℕ → Counts
counted d group = record {
  adders = adders_of d (in_group d group);
  windows = count_by (λ s. is_reg s.kind && is_window group (text_of d s.name)) d.signals;
  tables = count_by (λ s. is_wire s.kind && is_table group (text_of d s.name)) d.signals;
}

-- ---- how many adders stand one behind another

abbrev mutual
  -- the greatest number of adders from a register to the end of the names that an expression reads, those of a group
  pub read_depth : (ℕ → Bool) → (ℕ → ℕ) → Tree → ℕ
  read_depth counts depth (Name n) = if counts n then depth n else 0
  read_depth counts depth (Bit n place) = if counts n then depth n else 0
  read_depth counts depth (Part n high low) = if counts n then depth n else 0
  read_depth counts depth (Plain x) = 0
  read_depth counts depth (Based width signed bits) = 0
  read_depth counts depth (Cat members) = greatest_read_depth counts depth members
  read_depth counts depth (Not a) = read_depth counts depth a
  read_depth counts depth (Binary op a b) = max (read_depth counts depth a) (read_depth counts depth b)
  read_depth counts depth (Shift op a amount) = read_depth counts depth a
  read_depth counts depth (Choice condition a b) = max (read_depth counts depth condition) (max (read_depth counts depth a) (read_depth counts depth b))

  pub greatest_read_depth : (ℕ → Bool) → (ℕ → ℕ) → Trees → ℕ
  greatest_read_depth counts depth none = 0
  greatest_read_depth counts depth (more first rest) = max (read_depth counts depth first) (greatest_read_depth counts depth rest)

-- the depth of an expression: its own operators `+` and `-`, and the greatest depth of the names of the group that it reads
abbrev pub depth_of : (ℕ → Bool) → (ℕ → ℕ) → Tree → ℕ
depth_of counts depth e = adders_in e + read_depth counts depth e

abbrev mutual
  -- no right side of a block for a register of the group is deeper than so many adders
  pub IsGivenWithin : (ℕ → Bool) → (ℕ → ℕ) → ℕ → Action → Type 0
  IsGivenWithin counts depth most (Block members) = AreGivenWithin counts depth most members
  IsGivenWithin counts depth most (When condition first) = IsGivenWithin counts depth most first
  IsGivenWithin counts depth most (Either condition first second) = IsGivenWithin counts depth most first × IsGivenWithin counts depth most second
  IsGivenWithin counts depth most (Give target e) = counts target ≡ true → depth_of counts depth e ≤ most

  pub AreGivenWithin : (ℕ → Bool) → (ℕ → ℕ) → ℕ → Actions → Type 0
  AreGivenWithin counts depth most no_action = Unit {0}
  AreGivenWithin counts depth most (action first rest) = IsGivenWithin counts depth most first × AreGivenWithin counts depth most rest

-- in a group at most so many adders stand one behind another between registers: a register has depth 0, a wire that of its expression
pub record HasDepth (d : Design) (group most : ℕ) : Type 0 where
  pub depth : ℕ → ℕ
  pub registers : (n : ℕ) → kind_of d n ≡ Some Reg → depth n ≡ 0
  pub wires : (k : ℕ) (a : Assignment) → slice_get d.assigns k ≡ Some a → depth a.target ≡ depth_of (in_group d group) depth a.value
  pub assigned : (k : ℕ) (a : Assignment) → slice_get d.assigns k ≡ Some a → in_group d group a.target ≡ true → depth a.target ≤ most
  pub given : (k : ℕ) (s : Action) → slice_get d.blocks k ≡ Some s → IsGivenWithin (in_group d group) depth most s

-- ---- the shape of linear groups

abbrev pub is_linear_op : Op → Bool
is_linear_op = is_adder

abbrev pub is_linear_shift : ShiftOp → Bool
is_linear_shift ArithLeft = true
is_linear_shift Left = false
is_linear_shift Right = false
is_linear_shift ArithRight = false

-- a name that is control
abbrev pub is_control_name : Design → Tree → Bool
is_control_name d (Name n) = is_control (text_of d n)
is_control_name d (Bit n place) = false
is_control_name d (Part n high low) = false
is_control_name d (Plain x) = false
is_control_name d (Based width signed bits) = false
is_control_name d (Cat members) = false
is_control_name d (Not a) = false
is_control_name d (Binary op a b) = false
is_control_name d (Shift op a amount) = false
is_control_name d (Choice condition a b) = false

-- only names, literals, `+`, `-`, `<<<` and choices by a control name
abbrev pub is_linear : Design → Tree → Bool
is_linear d (Name n) = true
is_linear d (Bit n place) = false
is_linear d (Part n high low) = false
is_linear d (Plain x) = true
is_linear d (Based width signed bits) = true
is_linear d (Cat members) = false
is_linear d (Not a) = false
is_linear d (Binary op a b) = is_linear_op op && (is_linear d a && is_linear d b)
is_linear d (Shift op a amount) = is_linear_shift op && is_linear d a
is_linear d (Choice condition a b) = is_control_name d condition && (is_linear d a && is_linear d b)
