-- Flat steps: what a right side with one operator on names, and blocks of the usual shape, give. They are found once, before the
-- first cycle.
use Rattle.std.specs.Prelude.{◌≡◌, ℕ, ◌+◌, ◌-◌, ◌*◌, ◌/◌, ◌%◌, ◌^◌, ◌<◌, ◌==◌, nat_le, bit_and, max, Bool, ◌&&◌, if◌then◌else◌, List, [], ◌∷◌}
use Rattle.verilog_tree.specs.declared.tree.Assign.{Assign}
use Rattle.verilog_tree.specs.Tree.{Tree, Assignment}
use Rattle.verilog_tree.specs.Meaning.{Shapes, Values, FitNames, IsFitting, assigned, bit_of, picked}
use Rattle.verilog_tree.specs.View.{assignment_view}
use Rattle.clock_sim.specs.declared.operand.Operand.{Operand}
use Rattle.clock_sim.specs.declared.operand.Handed.{Handed}
use Rattle.clock_sim.specs.declared.step.Step.{Step}
use Rattle.clock_sim.specs.declared.step.Step.TheVariants.{Constant, Copy, Sum, Difference, Left, Right, Same, Choice, General}
use Rattle.clock_sim.specs.declared.step.Compiled.{Compiled}

-- every name has 1 to 128 bits
pub record AllFitting (shapes : Shapes) : Type 0 where
  pub each : (n : ℕ) → IsFitting (shapes.width n)

-- all of so many bits
pub record IsMask (length mask : ℕ) : Type 0 where
  pub all : mask + 1 ≡ 2 ^ length

-- the bits, and a fill besides where the top is not below the half
abbrev pub raised : ℕ → ℕ → ℕ → ℕ → ℕ
raised half fill top bits = if nat_le half top then (bits + fill) % 2 ^ 128 else bits

abbrev pub operand_value : Operand → Values → ℕ
operand_value o values = raised o.half o.fill (values o.name) (values o.name)

-- a name in a context of a length and a sign
pub record IsOperandOf (shapes : Shapes) (n length : ℕ) (signed : Bool) (o : Operand) : Type 0 where
  pub name : o.name ≡ n
  pub half : o.half ≡ 2 ^ (shapes.width n - 1)
  pub fill : o.fill ≡ (if signed then 2 ^ length - 2 ^ shapes.width n else 0)

-- what is handed down to two names, where the length is not below the least
pub record IsHanded (shapes : Shapes) (a b least : ℕ) (h : Handed) : Type 0 where
  pub length : h.length ≡ max (max (shapes.width a) (shapes.width b)) least
  pub signed : h.signed ≡ (shapes.signed a && shapes.signed b)

-- what a step gives, where this is what the tree gives
abbrev pub step_value : Step → Values → ℕ → ℕ
step_value (Constant bits) values tree = bits
step_value (Copy from mask) values tree = bit_and (operand_value from values) mask
step_value (Sum first second mask) values tree = bit_and ((operand_value first values + operand_value second values) % 2 ^ 128) mask
step_value (Difference first second mask) values tree = bit_and ((operand_value first values + (2 ^ 128 - operand_value second values)) % 2 ^ 128) mask
step_value (Left from amount mask) values tree = bit_and (operand_value from values * 2 ^ amount % 2 ^ 128) mask
step_value (Right from amount half fill mask) values tree = bit_and (raised half fill (operand_value from values) (operand_value from values / 2 ^ amount)) mask
step_value (Same first second) values tree = bit_of (operand_value first values == operand_value second values)
step_value (Choice condition first second mask) values tree = bit_and (picked (values condition) (operand_value first values) (operand_value second values)) mask
step_value General values tree = tree

-- a step shifts by fewer than 128 places
abbrev pub IsNear : Step → Type 0
IsNear (Constant bits) = Unit {0}
IsNear (Copy from mask) = Unit {0}
IsNear (Sum first second mask) = Unit {0}
IsNear (Difference first second mask) = Unit {0}
IsNear (Left from amount mask) = amount < 128
IsNear (Right from amount half fill mask) = amount < 128
IsNear (Same first second) = Unit {0}
IsNear (Choice condition first second mask) = Unit {0}
IsNear General = Unit {0}

-- a step gives what the right side gives that target
pub record IsStepOf (shapes : Shapes) (target : ℕ) (e : Tree) (step : Step) : Type 0 where
  pub near : IsNear step
  pub each : (values : Values) → FitNames shapes values → step_value step values (assigned shapes values target e) ≡ assigned shapes values target e

-- an assignment as a step
pub record IsCompiled (shapes : Shapes) (a : Assignment) (c : Compiled) : Type 0 where
  pub target : c.target ≡ a.target
  pub step : IsStepOf shapes a.target a.value c.step

abbrev pub AreCompiled : Shapes → List Assign → List Compiled → Type 0
AreCompiled shapes [] [] = Unit {0}
AreCompiled shapes [] (c ∷ cs) = ⊥
AreCompiled shapes (a ∷ xs) [] = ⊥
AreCompiled shapes (a ∷ xs) (c ∷ cs) = IsCompiled shapes (assignment_view a) c × AreCompiled shapes xs cs

-- assignments as steps, one for each
pub record Compiles (shapes : Shapes) (assigns : List Assign) (steps : List Compiled) : Type 0 where
  pub all : AreCompiled shapes assigns steps
