-- What statements give to the registers, one after the other.
use Rattle.std.proofs.Common.{◌≡◌, ℕ, zero, suc, ◌+◌, ◌<◌, Bool, true, false, ◌&&◌, List, [], ◌∷◌, drop, map, Option, None, Some, length, get_or, set, refl, sym, ap, ◌∙◌, arith, subst, add-one}
use Rattle.std.specs.Prelude.{◌==◌, nat_lt, if◌then◌else◌, unwrap_or, IsTrue}
use Rattle.std.proofs.lemmas.Bool.Decides.{nat_tests}
use Rattle.verilog_tree.specs.declared.tree.Stmt.{Stmt}
use Rattle.verilog_tree.specs.Tree.{Tree, Action, Actions, Give, no_action, action, Design}
use Rattle.verilog_tree.specs.Meaning.{Shapes, Values, assigned}
use Rattle.verilog_tree.specs.Names.{shapes_of}
use Rattle.verilog_tree.specs.Circuit.{later, given_by, next}
use Rattle.verilog_tree.specs.Cycle.{given, process_of, circuit_of}
use Rattle.verilog_tree.specs.View.{action_view, actions_view}
use Rattle.clock_sim.specs.Simulated.{values_of, all_given, action_fits, actions_fit, blocks_fit, Given}
use Rattle.clock_sim.proofs.Simulated.{values_set}

pub below_of : (a b : ℕ) → IsTrue (nat_lt a b) → a < b
below_of a b h = grind (arith, nat_tests)

statements_left_suc : (ss : List Stmt) (k : ℕ) (s : Stmt) → k < length ss → s ≡ get_or ss k s → actions_view (drop k ss) ≡ action (action_view s) (actions_view (drop (suc k) ss))
statements_left_suc [] k s lt is = absurd (omega (arith, lt))
statements_left_suc (x ∷ ss) zero s lt is = ap (λ (y : Stmt). action (action_view y) (actions_view ss)) (sym is)
statements_left_suc (x ∷ ss) (suc k) s lt is = statements_left_suc ss k s (omega (arith, lt)) is

pub statements_left : (ss : List Stmt) (k : ℕ) (s : Stmt) → k < length ss → s ≡ get_or ss k s → actions_view (drop k ss) ≡ action (action_view s) (actions_view (drop (k + 1) ss))
statements_left ss k s lt is = rw add-one (statements_left_suc ss k s lt is)

pub unwrap_later : (a o : Option ℕ) (x : ℕ) → unwrap_or (later a o) x ≡ unwrap_or o (unwrap_or a x)
unwrap_later a None x = refl
unwrap_later a (Some y) x = refl

-- what is left to give leads from here to where all leads from the start
pub record IsGivenTo (gives : Actions → ℕ → Option ℕ) (all left : Actions) (before now : Values) : Type 0 where
  pub each : (register : ℕ) → unwrap_or (gives left register) (now register) ≡ unwrap_or (gives all register) (before register)

module _ (shapes : Shapes) (v : Values) where
  pub given_turn : (all rest : Actions) (s : Action) (before middle after : Values) → IsGivenTo (all_given shapes v) all (action s rest) before middle → Given (given shapes v s) middle after
      → IsGivenTo (all_given shapes v) all rest before after
  given_turn all rest s before middle after so_far one = record {
    each = λ r. ap (unwrap_or (all_given shapes v rest r)) (one.each r) ∙ sym (unwrap_later (given shapes v s r) (all_given shapes v rest r) (middle r)) ∙ so_far.each r;
  }

  pub given_all : (all left : Actions) (before now : Values) → left ≡ no_action → IsGivenTo (all_given shapes v) all left before now → Given (all_given shapes v all) before now
  given_all all left before now none so_far = record {
    each = λ r. ap (λ (a : Actions). unwrap_or (all_given shapes v a r) (now r)) (sym none) ∙ so_far.each r;
  }

  -- a statement that sets a register
  pub given_set : (target : ℕ) (e : Tree) (staged : List ℕ) (bits : ℕ) → target < length staged → bits ≡ assigned shapes v target e
      → Given (given shapes v (Give target e)) (values_of staged) (values_of (set staged target bits))
  given_set target e staged bits lt value = record {
    each = λ r. ap (λ (w : Values). w r) (values_set staged target bits lt) ∙ by r (r == target);
  }
    where
      by : (r : ℕ) (b : Bool) → (if b then bits else values_of staged r) ≡ unwrap_or (if b then Some (assigned shapes v target e) else None) (values_of staged r)
      by r true = value
      by r false = refl

  -- the blocks of a circuit
  pub given_blocks : (r : ℕ) (ss : List Stmt) → all_given shapes v (actions_view ss) r ≡ given_by (map (process_of shapes) (map action_view ss)) v r
  given_blocks r [] = refl
  given_blocks r (s ∷ ss) = ap (later (given shapes v (action_view s) r)) (given_blocks r ss)

pub blocks_are : (shapes : Shapes) (count : ℕ) (ss : List Stmt) → IsTrue (blocks_fit shapes count (map action_view ss)) → IsTrue (actions_fit shapes count (actions_view ss))
blocks_are shapes count ss fits = subst IsTrue (same ss) fits
  where
    same : (ss : List Stmt) → blocks_fit shapes count (map action_view ss) ≡ actions_fit shapes count (actions_view ss)
    same [] = refl
    same (s ∷ ss) = ap (λ (b : Bool). action_fits shapes count (action_view s) && b) (same ss)

-- the registers after the edge
pub edge_next : (d : Design) (ss : List Stmt) (values before after result : List ℕ) → d.blocks ≡ map action_view ss → before ≡ values
    → Given (all_given (shapes_of d) (values_of values) (actions_view ss)) (values_of before) (values_of after) → result ≡ after
    → (r : ℕ) → values_of result r ≡ next (circuit_of d) (values_of values) r
edge_next d ss values before after result blocks same gives is r =
    ap (λ (xs : List ℕ). values_of xs r) is ∙ gives.each r
    ∙ ap (λ (xs : List ℕ). unwrap_or (all_given (shapes_of d) (values_of values) (actions_view ss) r) (values_of xs r)) same
    ∙ ap (λ (o : Option ℕ). unwrap_or o (values_of values r)) (given_blocks (shapes_of d) (values_of values) r ss)
    ∙ ap (λ (bs : List Action). unwrap_or (given_by (map (process_of (shapes_of d)) bs) (values_of values) r) (values_of values r)) (sym blocks)
