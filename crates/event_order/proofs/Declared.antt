-- In a module that passes the checks the declared names are different, and all registers to which blocks give values are among them.
use Rattle.std.proofs.Common.{◌≡◌, ℕ, zero, suc, Bool, true, false, not, ◌||◌, List, [], ◌∷◌, map, cond, Some, ◌⊎◌, inl, inr, slice_get, refl, sym, ap, ◌∙◌, arith, find, subst}
use Rattle.std.specs.Prelude.{◌==◌, nat_le, is_some}
use Rattle.std.proofs.lemmas.Bool.{eqb-true}
use Rattle.verilog_tree.specs.declared.tree.Signal.{Signal}
use Rattle.verilog_tree.specs.Tree.{Tree, Trees, Name, Bit, Part, Plain, Based, Cat, Not, Binary, Shift, Choice, none, more, Action, Actions, Block, When, Either, Give, no_action, action, Assignment, Design}
use Rattle.verilog_tree.specs.Meaning.{assigned}
use Rattle.verilog_tree.specs.Names.{shapes_of, declaration_in}
use Rattle.verilog_tree.specs.Circuit.{Process}
use Rattle.verilog_tree.specs.Cycle.{sets, any_sets, circuit_of, condition_holds}
use Rattle.verilog_tree.specs.Checks.{Use, Given, used_name, tree_uses, trees_uses, action_uses, actions_uses, blocks_uses, assigns_uses, uses, is_declared, with_declaration, in_text_order, declarations, Passes, filter_face}
use Rattle.verilog_tree.proofs.OneSettling.{gives_only, block_at}
use Rattle.module_laws.proofs.Passing.{none_fails, none_mapped}
use Rattle.module_laws.proofs.TextOrder.{Every, nothing_found, none_repeats, IsApart, AllApart}
use Rattle.event_order.specs.Drawn.{declared_names}
use Rattle.event_order.proofs.Moments.{same_some}
use Rattle.event_order.proofs.DrawnSteps.{NamesRegisters}

either : (a b : Bool) → (a || b) ≡ true → (a ≡ true) ⊎ (b ≡ true)
either true b e = inl refl
either false b e = inr e

-- ---- what holds of each use holds of what the blocks give

module _ (P : Use → Type 0) where
  mutual
    pub behind_tree : (e : Tree) (rest : List Use) → Every P (tree_uses e rest) → Every P rest
    behind_tree (Name n) rest all = all.1
    behind_tree (Bit n place) rest all = all.1
    behind_tree (Part n high low) rest all = all.1
    behind_tree (Plain x) rest all = all
    behind_tree (Based width signed bits) rest all = all
    behind_tree (Cat members) rest all = behind_trees members rest all
    behind_tree (Not a) rest all = behind_tree a rest all
    behind_tree (Binary op a b) rest all = behind_tree b rest (behind_tree a (tree_uses b rest) all)
    behind_tree (Shift op a amount) rest all = behind_tree a rest all
    behind_tree (Choice c a b) rest all = behind_tree b rest (behind_tree a (tree_uses b rest) (behind_tree c (tree_uses a (tree_uses b rest)) all))

    behind_trees : (es : Trees) (rest : List Use) → Every P (trees_uses es rest) → Every P rest
    behind_trees none rest all = all
    behind_trees (more first others) rest all = behind_trees others rest (behind_tree first (trees_uses others rest) all)

  mutual
    pub behind_action : (s : Action) (rest : List Use) → Every P (action_uses s rest) → Every P rest
    behind_action (Block members) rest all = behind_actions members rest all
    behind_action (When c first) rest all = behind_action first rest (behind_tree c (action_uses first rest) all)
    behind_action (Either c first second) rest all = behind_action second rest (behind_action first (action_uses second rest) (behind_tree c (action_uses first (action_uses second rest)) all))
    behind_action (Give target e) rest all = behind_tree e rest all.1

    behind_actions : (ss : Actions) (rest : List Use) → Every P (actions_uses ss rest) → Every P rest
    behind_actions no_action rest all = all
    behind_actions (action first others) rest all = behind_actions others rest (behind_action first (actions_uses others rest) all)

  mutual
    set_in : (s : Action) (rest : List Use) (register : ℕ) → Every P (action_uses s rest) → sets s register ≡ true → P (Given register)
    set_in (Block members) rest register all is = any_set_in members rest register all is
    set_in (When c first) rest register all is = set_in first rest register (behind_tree c (action_uses first rest) all) is
    set_in (Either c first second) rest register all is =
        let both = behind_tree c (action_uses first (action_uses second rest)) all in
        elim (either (sets first register) (sets second register) is) [
          | inl here ↦ set_in first (action_uses second rest) register both here
          | inr later ↦ set_in second rest register (behind_action first (action_uses second rest) both) later
        ]
    set_in (Give target e) rest register all is = moved (eqb-true register target is)
      where
        moved : register ≡ target → P (Given register)
        moved same = let Q : ℕ → Type 0 = λ n. P (Given n) in subst Q (sym same) all.0

    any_set_in : (ss : Actions) (rest : List Use) (register : ℕ) → Every P (actions_uses ss rest) → any_sets ss register ≡ true → P (Given register)
    any_set_in no_action rest register all is = absurd (grind arith)
    any_set_in (action first others) rest register all is =
        elim (either (sets first register) (any_sets others register) is) [
          | inl here ↦ set_in first (actions_uses others rest) register all here
          | inr later ↦ any_set_in others rest register (behind_action first (actions_uses others rest) all) later
        ]

  pub behind_assigns : (assigns : List Assignment) (rest : List Use) → Every P (assigns_uses assigns rest) → Every P rest
  behind_assigns [] rest all = all
  behind_assigns (a ∷ assigns) rest all = behind_assigns assigns rest (behind_tree a.value (assigns_uses assigns rest) all.1)

  block_sets : (blocks : List Action) (k register : ℕ) (s : Action) → Every P (blocks_uses blocks) → slice_get blocks k ≡ Some s → sets s register ≡ true → P (Given register)
  block_sets [] k register s all at is = absurd (grind arith)
  block_sets (t ∷ blocks) zero register s all at is = set_in t (blocks_uses blocks) register all (ap (λ (a : Action). sets a register) (same_some t s at) ∙ is)
  block_sets (t ∷ blocks) (suc k) register s all at is = block_sets blocks k register s (behind_action t (blocks_uses blocks) all) at is

-- ---- declared names

none_named : (ss : List Signal) (s : Signal) → Every (IsApart s) ss → (j : ℕ) → slice_get (map (λ (t : Signal). t.name) ss) j ≡ Some s.name → ⊥
none_named [] s apart j is = grind arith
none_named (t ∷ ss) s apart zero is = apart.0 (same_some t.name s.name is)
none_named (t ∷ ss) s apart (suc j) is = none_named ss s apart.1 j is

apart_places : (ss : List Signal) → AllApart ss → (i j n : ℕ) → slice_get (map (λ (s : Signal). s.name) ss) i ≡ Some n → slice_get (map (λ (s : Signal). s.name) ss) j ≡ Some n → i ≡ j
apart_places [] apart i j n at found = absurd (grind arith)
apart_places (s ∷ ss) apart zero zero n at found = refl
apart_places (s ∷ ss) apart zero (suc j) n at found = absurd (none_named ss s apart.0 j (found ∙ sym at))
apart_places (s ∷ ss) apart (suc i) zero n at found = absurd (none_named ss s apart.0 i (at ∙ sym found))
apart_places (s ∷ ss) apart (suc i) (suc j) n at found = ap suc (apart_places ss apart.1 i j n at found)

declared_place : (ss : List Signal) (n : ℕ) → is_some (declaration_in ss n) ≡ true → (i : ℕ) × (slice_get (map (λ (s : Signal). s.name) ss) i ≡ Some n)
declared_place [] n is = absurd (grind arith)
declared_place (s ∷ ss) n is = by (s.name == n) refl is (declared_place ss n)
  where
    by : (b : Bool) → (s.name == n) ≡ b → is_some (cond b (Some s) (declaration_in ss n)) ≡ true → (is_some (declaration_in ss n) ≡ true → (i : ℕ) × (slice_get (map (λ (s : Signal). s.name) ss) i ≡ Some n))
        → (i : ℕ) × (slice_get (map (λ (s : Signal). s.name) (s ∷ ss)) i ≡ Some n)
    by true e holds rest = (0, ap Some (eqb-true s.name n e))
    by false e holds rest = let found = rest holds in (suc found.0, found.1)

-- a declared name stands in text order too
abbrev Stands : List Signal → ℕ → Type 0
Stands ss n = (k : ℕ) × (slice_get (map (λ (s : Signal). s.name) ss) k ≡ Some n)

with_others : (s : Signal) (ts : List Signal) (n : ℕ) → (s.name ≡ n) ⊎ Stands ts n → Stands (with_declaration s ts) n
with_others s [] n (inl is) = (0, ap Some is)
with_others s [] n (inr (j, at)) = absurd (grind arith)
with_others s (t ∷ ts) n which = by (nat_le s.place t.place) (with_others s ts n) which
  where
    by : (b : Bool) → ((s.name ≡ n) ⊎ Stands ts n → Stands (with_declaration s ts) n) → (s.name ≡ n) ⊎ Stands (t ∷ ts) n → Stands (cond b (s ∷ t ∷ ts) (t ∷ with_declaration s ts)) n
    by true rest (inl is) = (0, ap Some is)
    by true rest (inr (j, at)) = (suc j, at)
    by false rest (inl is) = let found = rest (inl is) in (suc found.0, found.1)
    by false rest (inr (zero, at)) = (0, at)
    by false rest (inr (suc j, at)) = let found = rest (inr (j, at)) in (suc found.0, found.1)

in_order : (ss : List Signal) (n i : ℕ) → slice_get (map (λ (s : Signal). s.name) ss) i ≡ Some n → Stands (in_text_order ss) n
in_order [] n i at = absurd (grind arith)
in_order (s ∷ ss) n zero at = with_others s (in_text_order ss) n (inl (same_some s.name n at))
in_order (s ∷ ss) n (suc i) at = with_others s (in_text_order ss) n (inr (in_order ss n i at))

not_false : (b : Bool) → not b ≡ false → b ≡ true
not_false true is = refl
not_false false is = absurd (grind arith)

pub names_registers : (d : Design) → Passes d → NamesRegisters (circuit_of d) (declared_names d)
names_registers d passes =
    let fails = none_fails filter_face d passes.early in
    let declared = nothing_found (λ u. not (is_declared d (used_name u))) (uses d) (none_mapped used_name (find (λ u. not (is_declared d (used_name u))) (uses d)) fails.undeclares) in
    record {
      apart = apart_places (declarations d) (none_repeats [] (declarations d) fails.redeclares).0;
      covers = λ k p values register x at gives.
          let block = block_at d k p at in
          let is_set = gives_only (condition_holds (shapes_of d) values) (assigned (shapes_of d) values) register block.0 x (ap (λ (q : Process). q values register) block.2 ∙ gives) in
          let used = behind_assigns (λ u. not (is_declared d (used_name u)) ≡ false) d.assigns (blocks_uses d.blocks) declared in
          let place =
          declared_place d.signals register (not_false (is_declared d register)
          (block_sets (λ u. not (is_declared d (used_name u)) ≡ false) d.blocks k register block.0 used block.1 is_set)) in
          in_order d.signals register place.0 place.1;
    }
