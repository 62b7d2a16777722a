-- The parts of a block of the usual shape.
use Rattle.std.proofs.Common.{◌≡◌, ℕ, Bool, not, Option, None, sym, ◌∙◌, ap}
use Rattle.std.specs.Prelude.{◌==◌, bit_and}
use Rattle.verilog_tree.specs.Tree.{Action, Name, When, Either, Give}
use Rattle.verilog_tree.specs.Meaning.{Shapes, Values}
use Rattle.verilog_tree.specs.Cycle.{given, one_of, condition_holds}
use Rattle.clock_sim.specs.declared.operand.Operand.{Operand}
use Rattle.clock_sim.specs.declared.step.Step.TheVariants.{Copy}
use Rattle.clock_sim.specs.declared.registers.ConstantSet.{ConstantSet}
use Rattle.clock_sim.specs.declared.registers.CopySet.{CopySet}
use Rattle.clock_sim.specs.Steps.{IsStepOf, operand_value}
use Rattle.clock_sim.specs.Blocks.{IsConstantSet, IsCopySet, IsEnabled, IsRegisterOf, set_to}
use Rattle.clock_sim.proofs.StepLaws.{extension_same}

name_holds : (shapes : Shapes) (v : Values) (n : ℕ) → condition_holds shapes v (Name n) ≡ not (v n == 0)
name_holds shapes v n = ap (λ (x : ℕ). not (x == 0)) (extension_same (shapes.width n) (shapes.signed n) (v n))

pub copy_given : (shapes : Shapes) (target name : ℕ) (o : Operand) (mask : ℕ) → IsStepOf shapes target (Name name) (Copy o mask) → IsCopySet shapes (Give target (Name name)) (record { target = target; source = o; mask = mask })
copy_given shapes target name o mask step = record { each = λ v n names. ap (λ (x : ℕ). set_to target x n) (sym (step.each v names)) }

pub enabled_given : (shapes : Shapes) (on enable : ℕ) (first : Action) (s : CopySet) → on ≡ enable → IsCopySet shapes first s → IsEnabled shapes enable (When (Name on) first) s
enabled_given shapes on enable first s same copy = record {
  each = λ v n names.
      ap (λ (b : Bool). one_of b (given shapes v first n) None) (name_holds shapes v on)
      ∙ ap (λ (m : ℕ). one_of (not (v m == 0)) (given shapes v first n) None) same
      ∙ ap (λ (o : Option ℕ). one_of (not (v enable == 0)) o None) (copy.each v n names);
}

pub register_given : (shapes : Shapes) (count on reset enable : ℕ) (first second : Action) (start : ConstantSet) (then_ : CopySet) → on ≡ reset → start.target ≡ then_.target
    → IsConstantSet shapes count first start → IsEnabled shapes enable second then_
    → IsRegisterOf shapes reset enable (Either (Name on) first second) (record { target = start.target; initial = start.bits; source = then_.source; mask = then_.mask })
register_given shapes count on reset enable first second start then_ same one constant enabled = record {
  each = λ v n names.
      ap (λ (b : Bool). one_of b (given shapes v first n) (given shapes v second n)) (name_holds shapes v on)
      ∙ ap (λ (m : ℕ). one_of (not (v m == 0)) (given shapes v first n) (given shapes v second n)) same
      ∙ ap (λ (o : Option ℕ). one_of (not (v reset == 0)) o (given shapes v second n)) (constant.each v n)
      ∙ ap (one_of (not (v reset == 0)) (set_to start.target start.bits n)) (enabled.each v n names)
      ∙ ap (λ (m : ℕ). one_of (not (v reset == 0)) (set_to start.target start.bits n) (one_of (not (v enable == 0)) (set_to m (bit_and (operand_value then_.source v) then_.mask) n) None)) (sym one);
}
