-- Modules that differ in the places of their declarations alone have the same uncut runs.
use Rattle.std.proofs.Common.{◌≡◌, ℕ, Bool, true, false, cond, List, [], ◌∷◌, map, Some, slice_get, refl, sym, ◌∙◌, ap, subst}
use Rattle.std.specs.Prelude.{◌==◌}
use Rattle.std.specs.Option.{option_map, unwrap_or}
use Rattle.verilog_tree.specs.declared.tree.Signal.{Signal}
use Rattle.verilog_tree.specs.Tree.{Action, Assignment, Design}
use Rattle.verilog_tree.specs.Meaning.{Shapes, Values}
use Rattle.verilog_tree.specs.Names.{declaration_in, shapes_of, kind_of, text_of, is_control}
use Rattle.verilog_tree.specs.Uncut.{Numbers, IsUncut, IsUncutRun, number_at, whole, whole_given_by, whole_next}
use Rattle.verilog_tree.specs.Shown.{signed_value}
use Rattle.verilog_text.specs.Order.{unplaced, IsSameButPlaces}
use Rattle.module_laws.proofs.Places.{same_shapes}

unplaced_kind : (signals : List Signal) (n : ℕ) → option_map (λ (s : Signal). s.kind) (declaration_in (map unplaced signals) n) ≡ option_map (λ (s : Signal). s.kind) (declaration_in signals n)
unplaced_kind [] n = refl
unplaced_kind (s ∷ signals) n = by (s.name == n) (unplaced_kind signals n)
  where
    by : (b : Bool) → option_map (λ (s : Signal). s.kind) (declaration_in (map unplaced signals) n) ≡ option_map (λ (s : Signal). s.kind) (declaration_in signals n)
        → option_map (λ (s : Signal). s.kind) (cond b (Some (unplaced s)) (declaration_in (map unplaced signals) n)) ≡ option_map (λ (s : Signal). s.kind) (cond b (Some s) (declaration_in signals n))
    by true rest = refl
    by false rest = rest

-- the registers after the edge
abbrev after : Numbers → Shapes → List Action → Numbers
after numbers shapes blocks register = unwrap_or (whole_given_by shapes numbers blocks register) (numbers register)

module _ (d e : Design) (same : IsSameButPlaces d e) where
  pub same_kind : (n : ℕ) → kind_of d n ≡ kind_of e n
  same_kind n =
      sym (unplaced_kind d.signals n) ∙ ap (λ (ss : List Signal). option_map (λ (s : Signal). s.kind) (declaration_in ss n)) same.same_signals ∙ unplaced_kind e.signals n

  pub same_text : (n : ℕ) → text_of d n ≡ text_of e n
  same_text n = rw (same.same_names) refl

  pub same_number : (values : Values) (n : ℕ) → number_at d values n ≡ number_at e values n
  same_number values n = ap (λ (s : Shapes). signed_value (s.signed n) (s.width n) (values n)) (same_shapes d e same)

  same_next : (numbers : Numbers) → whole_next d numbers ≡ whole_next e numbers
  same_next numbers = ap (λ (s : Shapes). after numbers s d.blocks) (same_shapes d e same) ∙ ap (after numbers (shapes_of e)) same.same_blocks

  same_uncut : (start : Numbers) (values : Values) (numbers : Numbers) → IsUncut d start values numbers → IsUncut e start values numbers
  same_uncut start values numbers u = record {
    control = λ n is. u.control n (ap is_control (same_text n) ∙ is) ∙ same_number values n;
    inputs = λ n is. u.inputs n (same_kind n ∙ is) ∙ same_number values n;
    wires = λ k a at plain.
        u.wires k a (ap (λ (as' : List Assignment). slice_get as' k) same.same_assigns ∙ at) (ap is_control (same_text a.target) ∙ plain)
        ∙ ap (λ (s : Shapes). whole s a.value numbers) (same_shapes d e same);
    registers = λ n plain input wire.
        u.registers n (ap is_control (same_text n) ∙ plain) (λ is. input (sym (same_kind n) ∙ is))
        (λ k a at is. wire k a (ap (λ (as' : List Assignment). slice_get as' k) (sym same.same_assigns) ∙ at) is);
  }

  pub same_uncut_run : (start : Numbers) (settled : List Values) (uncut : List Numbers) → IsUncutRun d start settled uncut → IsUncutRun e start settled uncut
  same_uncut_run start [] uncut run = run
  same_uncut_run start (values ∷ settled) uncut (numbers, rest, is, one, run) =
      (numbers, rest, is, same_uncut start values numbers one, subst (λ (next : Numbers). IsUncutRun e next settled rest) (same_next numbers) (same_uncut_run (whole_next d numbers) settled rest run))
