-- Flags of the registers to which statements give values, one after the other.
use Rattle.std.proofs.Common.{◌≡◌, ℕ, ◌<◌, Bool, true, false, ◌||◌, List, Option, None, Some, length, map, set, refl, sym, ap, ◌∙◌}
use Rattle.std.specs.Prelude.{◌==◌, if◌then◌else◌, is_some}
use Rattle.std.proofs.lemmas.Bool.{eqb-true, eqb-false}
use Rattle.std.proofs.lemmas.List.{get_or-set_same, get_or-set_other}
use Rattle.verilog_tree.specs.declared.tree.Stmt.{Stmt}
use Rattle.verilog_tree.specs.Tree.{Tree, Action, Actions, Give, no_action, action}
use Rattle.verilog_tree.specs.Meaning.{Shapes, Values, assigned}
use Rattle.verilog_tree.specs.Circuit.{later, given_by}
use Rattle.verilog_tree.specs.Cycle.{given, process_of}
use Rattle.verilog_tree.specs.View.{action_view, actions_view}
use Rattle.settle_order.specs.Placing.{opened_of}
use Rattle.clock_sim.specs.Simulated.{all_given, Marked}
use Rattle.clock_sim.proofs.Staged.{given_blocks}

some_later : (a o : Option ℕ) (b : Bool) → ((b || is_some a) || is_some o) ≡ (b || is_some (later a o))
some_later None None true = refl
some_later None None false = refl
some_later None (Some y) true = refl
some_later None (Some y) false = refl
some_later (Some x) None true = refl
some_later (Some x) None false = refl
some_later (Some x) (Some y) true = refl
some_later (Some x) (Some y) false = refl

none_more : (b : Bool) → (b || false) ≡ b
none_more true = refl
none_more false = refl

-- what is left to mark leads from here to where all leads from the start
pub record IsMarkedTo (gives : Actions → ℕ → Option ℕ) (all left : Actions) (before now : ℕ → Bool) : Type 0 where
  pub each : (register : ℕ) → (now register || is_some (gives left register)) ≡ (before register || is_some (gives all register))

module _ (shapes : Shapes) (v : Values) where
  pub mark_turn : (all rest : Actions) (s : Action) (before middle after : ℕ → Bool) → IsMarkedTo (all_given shapes v) all (action s rest) before middle → Marked (given shapes v s) middle after
      → IsMarkedTo (all_given shapes v) all rest before after
  mark_turn all rest s before middle after so_far one = record {
    each = λ r. ap (λ (b : Bool). b || is_some (all_given shapes v rest r)) (one.each r) ∙ some_later (given shapes v s r) (all_given shapes v rest r) (middle r) ∙ so_far.each r;
  }

  pub mark_done : (all left : Actions) (before now : ℕ → Bool) → left ≡ no_action → IsMarkedTo (all_given shapes v) all left before now → Marked (all_given shapes v all) before now
  mark_done all left before now none so_far = record {
    each = λ r. sym (none_more (now r)) ∙ ap (λ (a : Actions). now r || is_some (all_given shapes v a r)) (sym none) ∙ so_far.each r;
  }

  -- a statement that sets a register
  pub mark_set : (target : ℕ) (e : Tree) (marks : List Bool) → target < length marks → Marked (given shapes v (Give target e)) (opened_of marks) (opened_of (set marks target true))
  mark_set target e marks lt = record { each = λ r. by r (r == target) refl }
    where
      or_true : (b : Bool) → true ≡ (b || true)
      or_true true = refl
      or_true false = refl

      by : (r : ℕ) (b : Bool) → (r == target) ≡ b → opened_of (set marks target true) r ≡ (opened_of marks r || is_some (if b then Some (assigned shapes v target e) else None))
      by r true is = ap (opened_of (set marks target true)) (eqb-true r target is) ∙ get_or-set_same marks target true false lt ∙ or_true (opened_of marks r)
      by r false is = get_or-set_other marks target r true false (eqb-false r target is) ∙ sym (none_more (opened_of marks r))

  pub mark_blocks_done : (ss : List Stmt) (before after : ℕ → Bool) → Marked (all_given shapes v (actions_view ss)) before after
      → Marked (given_by (map (process_of shapes) (map action_view ss)) v) before after
  mark_blocks_done ss before after marked = record { each = λ r. marked.each r ∙ ap (λ (o : Option ℕ). before r || is_some o) (given_blocks shapes v r ss) }
