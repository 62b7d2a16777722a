-- Registers that are given their values one after the other, against the blocks that they are.
use Rattle.std.proofs.Common.{◌≡◌, ℕ, zero, suc, ◌+◌, ◌<◌, ◌≤◌, ◌^◌, Bool, true, false, not, List, [], ◌∷◌, ◌++◌, drop, map, Option, None, Some, length, get_or, set, refl, sym, ap, ◌∙◌, arith, subst, add-one}
use Rattle.std.specs.Prelude.{◌==◌, if◌then◌else◌, unwrap_or, IsTrue}
use Rattle.std.proofs.lemmas.Bool.{eqb-true}
use Rattle.std.proofs.lemmas.Nat.{pow_pos, mod_below}
use Rattle.verilog_tree.specs.declared.tree.Stmt.{Stmt}
use Rattle.verilog_tree.specs.Tree.{Action, Actions, Block, When, Either, Give, no_action, action, Design}
use Rattle.verilog_tree.specs.Meaning.{Shapes, Values, FitNames, assigned}
use Rattle.verilog_tree.specs.Names.{shapes_of}
use Rattle.verilog_tree.specs.Circuit.{later, given_by, next, put}
use Rattle.verilog_tree.specs.Cycle.{given, one_of, condition_holds, process_of, circuit_of}
use Rattle.verilog_tree.specs.View.{action_view}
use Rattle.verilog_tree.proofs.Parts.{and_parts}
use Rattle.clock_sim.specs.declared.registers.Register.{Register}
use Rattle.clock_sim.specs.declared.registers.Registers.{Registers}
use Rattle.clock_sim.specs.Simulated.{values_of, action_fits, blocks_fit, all_given, Given}
use Rattle.clock_sim.specs.Blocks.{AreFlat, AreRegisters, IsRegisterOf, given_each, registers_given, set_to, taken, targets_within}
use Rattle.clock_sim.proofs.Simulated.{values_set}
use Rattle.clock_sim.proofs.Staged.{unwrap_later}
use Rattle.clock_sim.proofs.Tables.{drop_one, drop_all}

-- ---- one register after the other

-- what is left to give leads from here to where all leads from the start
pub record EachGiven (gives : Register → ℕ) (all left : List Register) (before now : Values) : Type 0 where
  pub each : (register : ℕ) → unwrap_or (given_each gives left register) (now register) ≡ unwrap_or (given_each gives all register) (before register)

pub each_start : (gives : Register → ℕ) (all : List Register) (before : Values) → EachGiven gives all (drop 0 all) before before
each_start gives all before = record { each = λ r. refl }

pub each_turn : (gives : Register → ℕ) (all : List Register) (before : Values) (k : ℕ) (r : Register) (values : List ℕ) (bits : ℕ) → EachGiven gives all (drop k all) before (values_of values) → k < length all
    → r ≡ get_or all k r → r.target < length values → bits ≡ gives r → EachGiven gives all (drop (k + 1) all) before (values_of (set values r.target bits))
each_turn gives all before k r values bits so_far lt read inside is = record { each = λ n. turn n }
  where
    rest : List Register
    rest = drop (k + 1) all

    here : drop k all ≡ r ∷ drop (k + 1) all
    here = rw add-one (drop_one all k r lt read)

    given_here : (n : ℕ) → put (values_of values) r.target (gives r) n ≡ unwrap_or (set_to r.target (gives r) n) (values_of values n)
    given_here n = by (n == r.target)
      where
        by : (b : Bool) → (if b then gives r else values_of values n) ≡ unwrap_or (if b then Some (gives r) else None) (values_of values n)
        by true = refl
        by false = refl

    turn : (n : ℕ) → unwrap_or (given_each gives (drop (k + 1) all) n) (values_of (set values r.target bits) n) ≡ unwrap_or (given_each gives all n) (before n)
    turn n =
        ap (λ (v : Values). unwrap_or (given_each gives (drop (k + 1) all) n) (v n)) (values_set values r.target bits inside)
        ∙ ap (λ (x : ℕ). unwrap_or (given_each gives (drop (k + 1) all) n) (put (values_of values) r.target x n)) is
        ∙ ap (unwrap_or (given_each gives (drop (k + 1) all) n)) (given_here n)
        ∙ sym (unwrap_later (set_to r.target (gives r) n) (given_each gives (drop (k + 1) all) n) (values_of values n))
        ∙ ap (λ (rs : List Register). unwrap_or (given_each gives rs n) (values_of values n)) (sym here)
        ∙ so_far.each n

pub each_done : (gives : Register → ℕ) (all : List Register) (before now : Values) (k : ℕ) → length all ≤ k → EachGiven gives all (drop k all) before now → Given (given_each gives all) before now
each_done gives all before now k le so_far = record {
  each = λ n. ap (λ (rs : List Register). unwrap_or (given_each gives rs n) (now n)) (sym (drop_all all k le)) ∙ so_far.each n;
}

abbrev pub no_register : Register
no_register = record { target = 0; initial = 0; source = record { name = 0; half = 0; fill = 0 }; mask = 0 }

pub within_at : (count : ℕ) (rs : List Register) (k : ℕ) (r : Register) → targets_within count rs → k < length rs → (get_or rs k r).target < count
within_at count [] k r all lt = absurd (omega (arith, lt))
within_at count (s ∷ rs) zero r all lt = all.0
within_at count (s ∷ rs) (suc k) r all lt = within_at count rs k r all.1 (omega (arith, lt))

pub within_more : (count : ℕ) (rs : List Register) (r : Register) → targets_within count rs → r.target < count → targets_within count (rs ++ r ∷ [])
within_more count [] r all one = (one, tt)
within_more count (s ∷ rs) r all one = (all.0, within_more count rs r all.1 one)

-- ---- the blocks

pub block_fits : (shapes : Shapes) (count : ℕ) (ss : List Stmt) (k : ℕ) (s : Stmt) → IsTrue (blocks_fit shapes count (map action_view ss)) → k < length ss → s ≡ get_or ss k s → IsTrue (action_fits shapes count (action_view s))
block_fits shapes count [] k s fits lt is = absurd (omega (arith, lt))
block_fits shapes count (t ∷ ss) zero s fits lt is = subst (λ (u : Stmt). IsTrue (action_fits shapes count (action_view u))) (sym is) (and_parts _ _ fits).0
block_fits shapes count (t ∷ ss) (suc k) s fits lt is = block_fits shapes count ss k s (and_parts _ _ fits).1 (omega (arith, lt)) is

later_cases : (b c : Bool) (p q x y : Option ℕ) → later (one_of b p (one_of c q None)) (one_of b x (one_of c y None)) ≡ one_of b (later p x) (one_of c (later q y) None)
later_cases true c p q x y = refl
later_cases false true p q x y = refl
later_cases false false p q x y = refl

no_cases : (b c : Bool) → one_of {A = ℕ} b None (one_of c None None) ≡ None
no_cases true c = refl
no_cases false true = refl
no_cases false false = refl

pub registers_more : (shapes : Shapes) (reset enable : ℕ) (ss : List Stmt) (rs : List Register) (s : Stmt) (r : Register) → AreRegisters shapes reset enable ss rs → IsRegisterOf shapes reset enable (action_view s) r
    → AreRegisters shapes reset enable (ss ++ s ∷ []) (rs ++ r ∷ [])
registers_more shapes reset enable [] [] s r all one = (one, tt)
registers_more shapes reset enable [] (q ∷ rs) s r all one = absurd all
registers_more shapes reset enable (t ∷ ss) [] s r all one = absurd all
registers_more shapes reset enable (t ∷ ss) (q ∷ rs) s r all one = (all.0, registers_more shapes reset enable ss rs s r all.1 one)

pub registers_count : (shapes : Shapes) (reset enable : ℕ) (ss : List Stmt) (rs : List Register) → AreRegisters shapes reset enable ss rs → length rs ≡ length ss
registers_count shapes reset enable [] [] all = refl
registers_count shapes reset enable [] (q ∷ rs) all = absurd all
registers_count shapes reset enable (t ∷ ss) [] all = absurd all
registers_count shapes reset enable (t ∷ ss) (q ∷ rs) all = ap suc (registers_count shapes reset enable ss rs all.1)

module _ (shapes : Shapes) (v : Values) (names : FitNames shapes v) where
  flat_given : (reset enable : ℕ) (ss : List Stmt) (rs : List Register) → AreRegisters shapes reset enable ss rs → (n : ℕ)
      → given_by (map (process_of shapes) (map action_view ss)) v n
      ≡ one_of (not (v reset == 0)) (given_each (λ r. r.initial) rs n) (one_of (not (v enable == 0)) (given_each (taken v) rs n) None)
  flat_given reset enable [] [] all n = sym (no_cases (not (v reset == 0)) (not (v enable == 0)))
  flat_given reset enable [] (q ∷ rs) all n = absurd all
  flat_given reset enable (s ∷ ss) [] all n = absurd all
  flat_given reset enable (s ∷ ss) (r ∷ rs) all n =
      ap (λ (o : Option ℕ). later o (given_by (map (process_of shapes) (map action_view ss)) v n)) (all.0.each v n names)
      ∙ ap (later (one_of (not (v reset == 0)) (set_to r.target r.initial n) (one_of (not (v enable == 0)) (set_to r.target (taken v r) n) None))) (flat_given reset enable ss rs all.1 n)
      ∙ later_cases (not (v reset == 0)) (not (v enable == 0)) (set_to r.target r.initial n) (set_to r.target (taken v r) n)
      (given_each (λ r. r.initial) rs n) (given_each (taken v) rs n)

  -- ---- what is given fits

  abbrev Small : ℕ → Option ℕ → Type 0
  Small n o = (x : ℕ) → o ≡ Some x → x < 2 ^ shapes.width n

  small_none : (n : ℕ) → Small n None
  small_none n x is = absurd (cc)

  small_later : (n : ℕ) (o p : Option ℕ) → Small n o → Small n p → Small n (later o p)
  small_later n o None first second = first
  small_later n o (Some y) first second = second

  small_one : (n : ℕ) (b : Bool) (o p : Option ℕ) → Small n o → Small n p → Small n (one_of b o p)
  small_one n true o p first second = first
  small_one n false o p first second = second

  set_small : (target n y : ℕ) → y < 2 ^ shapes.width target → Small n (if n == target then Some y else None)
  set_small target n y lt = by (n == target) refl
    where
      by : (b : Bool) → (n == target) ≡ b → Small n (if b then Some y else None)
      by true e x is = let same : y ≡ x = cc in subst (λ (m : ℕ). x < 2 ^ shapes.width m) (sym (eqb-true n target e)) (subst (λ (z : ℕ). z < 2 ^ shapes.width target) same lt)
      by false e x is = absurd (cc)

  mutual
    given_small : (s : Action) (n : ℕ) → Small n (given shapes v s n)
    given_small (Block members) n = all_small members n
    given_small (When condition first) n = small_one n (condition_holds shapes v condition) (given shapes v first n) None (given_small first n) (small_none n)
    given_small (Either condition first second) n =
        small_one n (condition_holds shapes v condition) (given shapes v first n) (given shapes v second n) (given_small first n) (given_small second n)
    given_small (Give target e) n = set_small target n (assigned shapes v target e) (mod_below _ (2 ^ shapes.width target) (pow_pos (shapes.width target)))

    all_small : (ss : Actions) (n : ℕ) → Small n (all_given shapes v ss n)
    all_small no_action n = small_none n
    all_small (action first rest) n = small_later n (given shapes v first n) (all_given shapes v rest n) (given_small first n) (all_small rest n)

  blocks_small : (ss : List Stmt) (n : ℕ) → Small n (given_by (map (process_of shapes) (map action_view ss)) v n)
  blocks_small [] n = small_none n
  blocks_small (s ∷ ss) n = small_later n (given shapes v (action_view s) n) (given_by (map (process_of shapes) (map action_view ss)) v n) (given_small (action_view s) n) (blocks_small ss n)

  next_small : (ss : List Stmt) (n : ℕ) → unwrap_or (given_by (map (process_of shapes) (map action_view ss)) v n) (v n) < 2 ^ shapes.width n
  next_small ss n = by (given_by (map (process_of shapes) (map action_view ss)) v n) (blocks_small ss n)
    where
      by : (o : Option ℕ) → Small n o → unwrap_or o (v n) < 2 ^ shapes.width n
      by None small = names.each n
      by (Some x) small = small x refl

-- ---- the registers after the edge

module _ (d : Design) (ss : List Stmt) (rs : Registers) (count : ℕ) (values after : List ℕ) (blocks : d.blocks ≡ map action_view ss) (names : FitNames (shapes_of d) (values_of values))
    (flat : AreFlat (shapes_of d) count ss rs) (gives : Given (registers_given rs (values_of values)) (values_of values) (values_of after)) where
  pub advanced : (n : ℕ) → values_of after n ≡ next (circuit_of d) (values_of values) n
  advanced n =
      gives.each n
      ∙ ap (λ (o : Option ℕ). unwrap_or o (values_of values n)) (sym (flat_given (shapes_of d) (values_of values) names rs.reset rs.enable ss rs.each.items flat.all n))
      ∙ ap (λ (bs : List Action). unwrap_or (given_by (map (process_of (shapes_of d)) bs) (values_of values) n) (values_of values n)) (sym blocks)

  pub advanced_names : FitNames (shapes_of d) (values_of after)
  advanced_names = record {
    each = λ n.
        let is = gives.each n ∙ ap (λ (o : Option ℕ). unwrap_or o (values_of values n)) (sym (flat_given (shapes_of d) (values_of values) names rs.reset rs.enable ss rs.each.items flat.all n)) in
        subst (λ (x : ℕ). x < 2 ^ (shapes_of d).width n) (sym is) (next_small (shapes_of d) (values_of values) names ss n);
  }
