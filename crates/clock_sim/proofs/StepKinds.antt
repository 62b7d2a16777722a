-- The flat step of each kind of right side.
use Rattle.std.proofs.Common.{◌≡◌, ℕ, ◌+◌, ◌-◌, ◌^◌, ◌<◌, min, false, List, [], ◌∷◌, ◌++◌, length, get_or, refl, sym, ◌∙◌, ap, subst, zero, suc, arith}
use Rattle.std.specs.Prelude.{if◌then◌else◌}
use Rattle.verilog_tree.specs.declared.tree.Op.TheVariants.{Add, Sub, Equal}
use Rattle.verilog_tree.specs.declared.tree.ShiftOp.TheVariants.{Left, Right, ArithLeft, ArithRight}
use Rattle.verilog_tree.specs.declared.tree.Assign.{Assign}
use Rattle.verilog_tree.specs.Tree.{Name, Part, Binary, Shift, Choice}
use Rattle.verilog_tree.specs.Meaning.{Shapes}
use Rattle.verilog_tree.specs.View.{assignment_view}
use Rattle.clock_sim.specs.declared.operand.Operand.{Operand}
use Rattle.clock_sim.specs.declared.operand.Handed.{Handed}
use Rattle.clock_sim.specs.declared.step.Step.TheVariants as step
use Rattle.clock_sim.specs.declared.step.Compiled.{Compiled}
use Rattle.clock_sim.specs.Steps.{AllFitting, IsMask, IsOperandOf, IsHanded, IsStepOf, IsCompiled, AreCompiled}
use Rattle.clock_sim.proofs.StepLaws.{sum_is, difference_is, choice_is, same_is, copy_is, left_is, right_is, arith_right_is, part_is}

module _ (shapes : Shapes) (all : AllFitting shapes) (target width : ℕ) (wide : width ≡ shapes.width target) (mask : ℕ) (is_mask : IsMask width mask) where
  cuts : IsMask (shapes.width target) mask
  cuts = subst (λ (n : ℕ). IsMask n mask) wide is_mask

  module _ (a b : ℕ) (h : Handed) (handed : IsHanded shapes a b width h) (p q : Operand) (first : IsOperandOf shapes a h.length h.signed p) (second : IsOperandOf shapes b h.length h.signed q) where
    whole : IsHanded shapes a b (shapes.width target) h
    whole = subst (λ (n : ℕ). IsHanded shapes a b n h) wide handed

    pub sum_step : IsStepOf shapes target (Binary Add (Name a) (Name b)) (step.Sum p q mask)
    sum_step = record { near = tt; each = λ v names. sum_is shapes all v names target a b h whole mask cuts p q first second }

    pub difference_step : IsStepOf shapes target (Binary Sub (Name a) (Name b)) (step.Difference p q mask)
    difference_step = record { near = tt; each = λ v names. difference_is shapes all v names target a b h whole mask cuts p q first second }

    pub choice_step : (c : ℕ) → IsStepOf shapes target (Choice (Name c) (Name a) (Name b)) (step.Choice c p q mask)
    choice_step c = record { near = tt; each = λ v names. choice_is shapes all v names target a b h whole mask cuts p q first second c }

  module _ (n : ℕ) (h : Handed) (handed : IsHanded shapes n n width h) (o : Operand) (is : IsOperandOf shapes n h.length h.signed o) where
    single : IsHanded shapes n n (shapes.width target) h
    single = subst (λ (m : ℕ). IsHanded shapes n n m h) wide handed

    pub copy_step : IsStepOf shapes target (Name n) (step.Copy o mask)
    copy_step = record { near = tt; each = λ v names. copy_is shapes all v names target n h single o is mask cuts }

    module _ (amount : ℕ) (near : amount < 128) where
      pub left_step : IsStepOf shapes target (Shift Left (Name n) amount) (step.Left o amount mask)
      left_step = record { near = near; each = λ v names. left_is shapes all v names target n h single o is mask cuts amount }

      pub arith_left_step : IsStepOf shapes target (Shift ArithLeft (Name n) amount) (step.Left o amount mask)
      arith_left_step = record { near = near; each = λ v names. left_is shapes all v names target n h single o is mask cuts amount }

      pub right_step : (half : ℕ) → IsStepOf shapes target (Shift Right (Name n) amount) (step.Right o amount half 0 mask)
      right_step half = record { near = near; each = λ v names. right_is shapes all v names target n h single o is mask cuts amount half 0 refl }

      pub arith_right_step : (half fill kept : ℕ) → half ≡ 2 ^ (h.length - 1) → kept ≡ h.length - amount → fill ≡ (if h.signed then 2 ^ h.length - 2 ^ kept else 0)
          → IsStepOf shapes target (Shift ArithRight (Name n) amount) (step.Right o amount half fill mask)
      arith_right_step half fill kept top rest is_fill = record {
        near = near;
        each = λ v names. arith_right_is shapes all v names target n h single o is mask cuts amount half fill top (is_fill ∙ ap (λ (k : ℕ). if h.signed then 2 ^ h.length - 2 ^ k else 0) rest);
      }

module _ (shapes : Shapes) (all : AllFitting shapes) (target : ℕ) where
  pub same_step : (a b : ℕ) (h : Handed) (p q : Operand) → IsHanded shapes a b 0 h → IsOperandOf shapes a h.length h.signed p → IsOperandOf shapes b h.length h.signed q
      → IsStepOf shapes target (Binary Equal (Name a) (Name b)) (step.Same p q)
  same_step a b h p q handed first second = record { near = tt; each = λ v names. same_is shapes all v names target a b h p q handed first second }

  pub part_step : (n high low own taken mask : ℕ) (o : Operand) → own ≡ shapes.width n → IsOperandOf shapes n own false o → taken ≡ min (high - low + 1) (shapes.width target) → IsMask taken mask → low < 128
      → IsStepOf shapes target (Part n high low) (step.Right o low 0 0 mask)
  part_step n high low own taken mask o wide is amount is_mask near = record {
    near = near;
    each = λ v names.
        part_is shapes all v names target n high low mask o (subst (λ (m : ℕ). IsOperandOf shapes n m false o) wide is)
        (subst (λ (m : ℕ). IsMask m mask) amount is_mask);
  }

-- ---- one step for each assignment

pub compiled_more : (shapes : Shapes) (xs : List Assign) (cs : List Compiled) (a : Assign) (c : Compiled) → AreCompiled shapes xs cs → IsCompiled shapes (assignment_view a) c
    → AreCompiled shapes (xs ++ a ∷ []) (cs ++ c ∷ [])
compiled_more shapes [] [] a c all one = (one, tt)
compiled_more shapes [] (d ∷ cs) a c all one = absurd all
compiled_more shapes (x ∷ xs) [] a c all one = absurd all
compiled_more shapes (x ∷ xs) (d ∷ cs) a c all one = (all.0, compiled_more shapes xs cs a c all.1 one)

pub compiled_count : (shapes : Shapes) (xs : List Assign) (cs : List Compiled) → AreCompiled shapes xs cs → length cs ≡ length xs
compiled_count shapes [] [] all = refl
compiled_count shapes [] (d ∷ cs) all = absurd all
compiled_count shapes (x ∷ xs) [] all = absurd all
compiled_count shapes (x ∷ xs) (d ∷ cs) all = ap suc (compiled_count shapes xs cs all.1)

pub compiled_at : (shapes : Shapes) (xs : List Assign) (cs : List Compiled) (k : ℕ) (a : Assign) (c : Compiled) → AreCompiled shapes xs cs → k < length xs → a ≡ get_or xs k a → c ≡ get_or cs k c
    → IsCompiled shapes (assignment_view a) c
compiled_at shapes [] cs k a c all lt is_a is_c = absurd (omega (arith, lt))
compiled_at shapes (x ∷ xs) [] k a c all lt is_a is_c = absurd all
compiled_at shapes (x ∷ xs) (d ∷ cs) zero a c all lt is_a is_c =
    subst (λ (e : Compiled). IsCompiled shapes (assignment_view a) e) (sym is_c) (subst (λ (b : Assign). IsCompiled shapes (assignment_view b) d) (sym is_a) all.0)
compiled_at shapes (x ∷ xs) (d ∷ cs) (suc k) a c all lt is_a is_c = compiled_at shapes xs cs k a c all.1 (omega (arith, lt)) is_a is_c
