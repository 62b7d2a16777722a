-- Blocks of one shape as registers: what a reset, an enable, and neither of them gives.
use Rattle.std.specs.Prelude.{◌≡◌, ℕ, ◌<◌, ◌≤◌, ◌==◌, bit_and, not, if◌then◌else◌, List, [], ◌∷◌, Option, None, Some, length, slice_get, slice_index}
use Rattle.verilog_tree.specs.declared.tree.Stmt.{Stmt}
use Rattle.verilog_tree.specs.Tree.{Action}
use Rattle.verilog_tree.specs.Meaning.{Shapes, Values, FitNames}
use Rattle.verilog_tree.specs.Circuit.{later}
use Rattle.verilog_tree.specs.Cycle.{given, one_of}
use Rattle.verilog_tree.specs.View.{action_view}
use Rattle.clock_sim.specs.declared.registers.Register.{Register}
use Rattle.clock_sim.specs.declared.registers.Registers.{Registers}
use Rattle.clock_sim.specs.declared.registers.Blocks.{Blocks}
use Rattle.clock_sim.specs.declared.registers.Blocks.TheVariants.{Flat, Trees}
use Rattle.clock_sim.specs.declared.registers.ConstantSet.{ConstantSet}
use Rattle.clock_sim.specs.declared.registers.CopySet.{CopySet}
use Rattle.clock_sim.specs.Steps.{operand_value}

-- a value that is given to one register
abbrev pub set_to : ℕ → ℕ → ℕ → Option ℕ
set_to target x register = if register == target then Some x else None

-- a statement gives its target these bits
pub record IsConstantSet (shapes : Shapes) (count : ℕ) (a : Action) (s : ConstantSet) : Type 0 where
  pub inside : s.target < count
  pub each : (values : Values) (register : ℕ) → given shapes values a register ≡ set_to s.target s.bits register

-- a statement gives its target the bits of a name
pub record IsCopySet (shapes : Shapes) (a : Action) (s : CopySet) : Type 0 where
  pub each : (values : Values) (register : ℕ) → FitNames shapes values → given shapes values a register ≡ set_to s.target (bit_and (operand_value s.source values) s.mask) register

-- it does so where a name isn't 0
pub record IsEnabled (shapes : Shapes) (enable : ℕ) (a : Action) (s : CopySet) : Type 0 where
  pub each : (values : Values) (register : ℕ) → FitNames shapes values
      → given shapes values a register ≡ one_of (not (values enable == 0)) (set_to s.target (bit_and (operand_value s.source values) s.mask) register) None

-- the bits that an enabled register takes
abbrev pub taken : Values → Register → ℕ
taken values r = bit_and (operand_value r.source values) r.mask

-- a block as a register
pub record IsRegisterOf (shapes : Shapes) (reset enable : ℕ) (a : Action) (r : Register) : Type 0 where
  pub each : (values : Values) (register : ℕ) → FitNames shapes values
      → given shapes values a register ≡ one_of (not (values reset == 0)) (set_to r.target r.initial register) (one_of (not (values enable == 0)) (set_to r.target (taken values r) register) None)

abbrev pub AreRegisters : Shapes → ℕ → ℕ → List Stmt → List Register → Type 0
AreRegisters shapes reset enable [] [] = Unit {0}
AreRegisters shapes reset enable [] (r ∷ rs) = ⊥
AreRegisters shapes reset enable (s ∷ ss) [] = ⊥
AreRegisters shapes reset enable (s ∷ ss) (r ∷ rs) = IsRegisterOf shapes reset enable (action_view s) r × AreRegisters shapes reset enable ss rs

-- the last of the values that registers are given
abbrev pub given_each : (Register → ℕ) → List Register → ℕ → Option ℕ
given_each gives [] register = None
given_each gives (r ∷ rs) register = later (set_to r.target (gives r) register) (given_each gives rs register)

-- what registers are given by values
abbrev pub registers_given : Registers → Values → ℕ → Option ℕ
registers_given rs values register =
    one_of (not (values rs.reset == 0)) (given_each (λ r. r.initial) rs.each.items register)
    (one_of (not (values rs.enable == 0)) (given_each (taken values) rs.each.items register) None)

abbrev pub targets_within : ℕ → List Register → Type 0
targets_within count [] = Unit {0}
targets_within count (r ∷ rs) = (r.target < count) × targets_within count rs

-- the registers are among so many names
pub record AreInside (count : ℕ) (rs : List Register) : Type 0 where
  pub each : targets_within count rs

-- these are the bits that registers take
pub record AreTaken (values : Values) (rs : List Register) (bits : List ℕ) : Type 0 where
  pub each : (k : ℕ) (r : Register) → slice_get rs k ≡ Some r → slice_index bits k ≡ taken values r

-- blocks as registers, one for each
pub record AreFlat (shapes : Shapes) (count : ℕ) (blocks : List Stmt) (rs : Registers) : Type 0 where
  pub all : AreRegisters shapes rs.reset rs.enable blocks rs.each.items
  pub inside : AreInside count rs.each.items
  pub room : length rs.each.items ≤ count

-- where blocks have a flat form, they are its registers
abbrev pub AreBlocks : Shapes → ℕ → List Stmt → Blocks → Type 0
AreBlocks shapes count blocks (Flat rs) = AreFlat shapes count blocks rs
AreBlocks shapes count blocks Trees = Unit {0}
