-- The evaluation of one assignment by its step.
use Rattle.std.proofs.Common.{◌≡◌, ℕ, ◌<◌, ◌^◌, List, length, get_or, set, Some, slice_get, sym, ap, ◌∙◌, subst}
use Rattle.std.proofs.lemmas.Nat.{pow_pos, mod_below}
use Rattle.verilog_tree.specs.declared.tree.Assign.{Assign}
use Rattle.verilog_tree.specs.declared.tree.Module.{Module}
use Rattle.verilog_tree.specs.Meaning.{Shapes, FitNames, IsFitting, assigned}
use Rattle.verilog_tree.specs.Names.{shapes_of}
use Rattle.verilog_tree.specs.View.{assignment_view, design_view}
use Rattle.settle_order.proofs.Turns.{viewed_at}
use Rattle.clock_sim.specs.declared.step.Compiled.{Compiled}
use Rattle.clock_sim.specs.Simulated.{values_of, AssignFits, AssignsFit}
use Rattle.clock_sim.specs.Steps.{Compiles, IsCompiled, IsNear, step_value}
use Rattle.clock_sim.proofs.Simulated.{IsEvaluated, one_evaluated, names_turn}
use Rattle.clock_sim.proofs.Tables.{get_or-any}
use Rattle.clock_sim.proofs.StepKinds.{compiled_at, compiled_count}

pub same_count : (shapes : Shapes) (xs : List Assign) (cs : List Compiled) (k : ℕ) → Compiles shapes xs cs → k < length xs → k < length cs
same_count shapes xs cs k all lt = subst (λ (n : ℕ). k < n) (sym (compiled_count shapes xs cs all.all)) lt

-- an assignment and its step
pub record AtPlace (m : Module) (values : List ℕ) (place : ℕ) (a : Assign) (flat : Compiled) : Type 0 where
  pub viewed : slice_get (design_view m).assigns place ≡ Some (assignment_view a)
  pub fit : AssignFits (shapes_of (design_view m)) (length values) (assignment_view a)
  pub step : IsCompiled (shapes_of (design_view m)) (assignment_view a) flat

pub at_place : (m : Module) (values : List ℕ) (place : ℕ) (a : Assign) (blank : Compiled) (read : List Assign) (steps : List Compiled) → AssignsFit (design_view m) (length values)
    → Compiles (shapes_of (design_view m)) m.assigns.items steps → place < length m.assigns.items → read ≡ m.assigns.items → a ≡ get_or read place a → AtPlace m values place a (get_or steps place blank)
at_place m values place a blank read steps each compiled lt same is_a =
    let flat = get_or steps place blank in
    let is_flat = get_or-any steps place blank flat (same_count (shapes_of (design_view m)) m.assigns.items steps place compiled lt) in
    let own : a ≡ get_or m.assigns.items place a = is_a ∙ ap (λ (ys : List Assign). get_or ys place a) same in
    let viewed = viewed_at m.assigns.items place a lt own in
    record {
      viewed = viewed;
      fit = each.each place (assignment_view a) viewed;
      step = compiled_at (shapes_of (design_view m)) m.assigns.items steps place a flat compiled.all lt own is_flat;
    }

module _ (m : Module) (values : List ℕ) (place : ℕ) (a : Assign) (flat : Compiled) (h : AtPlace m values place a flat) where
  pub target_inside : flat.target < length values
  target_inside = subst (λ (n : ℕ). n < length values) (sym h.step.target) h.fit.target

  pub target_near : IsNear flat.step
  target_near = h.step.step.near

  pub target_width : IsFitting ((shapes_of (design_view m)).width flat.target)
  target_width = subst (λ (n : ℕ). IsFitting ((shapes_of (design_view m)).width n)) (sym h.step.target) h.fit.width

  module _ (names : FitNames (shapes_of (design_view m)) (values_of values)) (bits : ℕ) (after : List ℕ)
      (is : bits ≡ step_value flat.step (values_of values) (assigned (shapes_of (design_view m)) (values_of values) flat.target (assignment_view a).value)) (written : after ≡ set values flat.target bits) where
    bits_are : bits ≡ assigned (shapes_of (design_view m)) (values_of values) a.target (assignment_view a).value
    bits_are =
        is ∙ ap (λ (n : ℕ). step_value flat.step (values_of values) (assigned (shapes_of (design_view m)) (values_of values) n (assignment_view a).value)) h.step.target
        ∙ h.step.step.each (values_of values) names

    after_is : after ≡ set values a.target bits
    after_is = written ∙ ap (λ (n : ℕ). set values n bits) h.step.target

    pub evaluated : IsEvaluated (design_view m) place values after
    evaluated =
        subst (λ (ys : List ℕ). IsEvaluated (design_view m) place values ys) (sym after_is)
        (one_evaluated (design_view m) place (assignment_view a) values bits h.viewed h.fit.target bits_are)

    pub evaluated_names : FitNames (shapes_of (design_view m)) (values_of after)
    evaluated_names =
        subst (λ (ys : List ℕ). FitNames (shapes_of (design_view m)) (values_of ys)) (sym after_is)
        (names_turn (shapes_of (design_view m)) values a.target bits h.fit.target names
        (subst (λ (x : ℕ). x < 2 ^ (shapes_of (design_view m)).width a.target) (sym bits_are) (mod_below _ (2 ^ (shapes_of (design_view m)).width a.target) (pow_pos ((shapes_of (design_view m)).width a.target)))))
