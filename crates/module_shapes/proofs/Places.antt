-- Places change no shape.
use Rattle.std.proofs.Common.{◌≡◌, ℕ, ◌&&◌, List, Some, slice_get, refl, sym, ◌∙◌, ap, subst}
use Rattle.verilog_tree.specs.Tree.{Tree, Name, Bit, Part, Plain, Based, Cat, Not, Binary, Shift, Choice, Action, Actions, Block, When, Either, Give, no_action, action, Assignment, Design}
use Rattle.verilog_tree.specs.Counted.{in_group, is_linear, is_linear_op, is_linear_shift, is_control_name}
use Rattle.verilog_tree.specs.Names.{text_of, is_control, is_in_group}
use Rattle.verilog_text.specs.Order.{IsSameButPlaces}
use Rattle.module_shapes.specs.Shapes.{IsGivenLinear, AreGivenLinear, HasLinearShapes}

module _ (d e : Design) (same : IsSameButPlaces d e) where
  same_text : (n : ℕ) → text_of d n ≡ text_of e n
  same_text n = rw (same.same_names) refl

  control_same : (t : Tree) → is_control_name d t ≡ is_control_name e t
  control_same (Name n) = ap is_control (same_text n)
  control_same (Bit n place) = refl
  control_same (Part n high low) = refl
  control_same (Plain x) = refl
  control_same (Based width signed bits) = refl
  control_same (Cat members) = refl
  control_same (Not a) = refl
  control_same (Binary op a b) = refl
  control_same (Shift op a amount) = refl
  control_same (Choice condition a b) = refl

  linear_same : (t : Tree) → is_linear d t ≡ is_linear e t
  linear_same (Name n) = refl
  linear_same (Bit n place) = refl
  linear_same (Part n high low) = refl
  linear_same (Plain x) = refl
  linear_same (Based width signed bits) = refl
  linear_same (Cat members) = refl
  linear_same (Not a) = refl
  linear_same (Binary op a b) = λ i. is_linear_op op && (linear_same a i && linear_same b i)
  linear_same (Shift op a amount) = λ i. is_linear_shift op && linear_same a i
  linear_same (Choice condition a b) = λ i. control_same condition i && (linear_same a i && linear_same b i)

  module _ (group : ℕ) where
    counts_same : (n : ℕ) → in_group d group n ≡ in_group e group n
    counts_same n = ap (is_in_group group) (same_text n)

    mutual
      given_same : (s : Action) → IsGivenLinear e (in_group e group) s → IsGivenLinear d (in_group d group) s
      given_same (Block members) h = all_same members h
      given_same (When condition first) h = given_same first h
      given_same (Either condition first second) h = (given_same first h.0, given_same second h.1)
      given_same (Give target t) h = λ c. linear_same t ∙ h (sym (counts_same target) ∙ c)

      all_same : (members : Actions) → AreGivenLinear e (in_group e group) members → AreGivenLinear d (in_group d group) members
      all_same no_action h = tt
      all_same (action first rest) h = (given_same first h.0, all_same rest h.1)

    pub same_linear : HasLinearShapes e group → HasLinearShapes d group
    same_linear h = record {
      assigned = λ k a at c. linear_same a.value ∙ h.assigned k a (subst (λ (xs : List Assignment). slice_get xs k ≡ Some a) same.same_assigns at) (sym (counts_same a.target) ∙ c);
      given = λ k s at. given_same s (h.given k s (subst (λ (bs : List Action). slice_get bs k ≡ Some s) same.same_blocks at));
    }
