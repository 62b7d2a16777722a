-- What the search for a loop asks of a module that passes the checks before.
use Rattle.std.proofs.Common.{◌≡◌, ℕ, zero, suc, Bool, true, false, not, cond, List, [], ◌∷◌, Option, None, Some, find, slice_get, refl, sym, ap, ◌∙◌, arith, subst}
use Rattle.std.specs.Prelude.{◌==◌, is_some}
use Rattle.std.proofs.lemmas.Bool.{eqb-true}
use Rattle.std.proofs.lemmas.Option.{slice_get_within}
use Rattle.verilog_tree.specs.declared.tree.Signal.{Signal}
use Rattle.verilog_tree.specs.Tree.{Tree, Trees, Name, Bit, Part, Plain, Based, Cat, Not, Binary, Shift, Choice, none, more, Assignment, Design}
use Rattle.verilog_tree.specs.Cycle.{IsDrivenOnce}
use Rattle.verilog_tree.specs.Checks.{Use, used_name, tree_uses, trees_uses, assigns_uses, blocks_uses, uses, is_declared, declarations, Face, early_fault}
use Rattle.module_laws.proofs.TextOrder.{Every, from_order, nothing_found}
use Rattle.module_laws.proofs.Passing.{none_fails, none_mapped}
use Rattle.module_laws.proofs.DrivenOnce.{driven_once}
use Rattle.loop_search.specs.Loops.{AreDeclared}

pub driven_of : (face : Face) (d : Design) → early_fault face d ≡ None → IsDrivenOnce d
driven_of face d early = driven_once d (none_fails face d early).drivers

-- ---- what holds of each use holds of those behind an expression

module _ (P : Use → Type 0) where
  mutual
    behind : (e : Tree) (rest : List Use) → Every P (tree_uses e rest) → Every P rest
    behind (Name n) rest all = all.1
    behind (Bit n place) rest all = all.1
    behind (Part n high low) rest all = all.1
    behind (Plain x) rest all = all
    behind (Based width signed bits) rest all = all
    behind (Cat members) rest all = all_behind members rest all
    behind (Not a) rest all = behind a rest all
    behind (Binary op a b) rest all = behind b rest (behind a (tree_uses b rest) all)
    behind (Shift op a amount) rest all = behind a rest all
    behind (Choice c a b) rest all = behind b rest (behind a (tree_uses b rest) (behind c (tree_uses a (tree_uses b rest)) all))

    all_behind : (es : Trees) (rest : List Use) → Every P (trees_uses es rest) → Every P rest
    all_behind none rest all = all
    all_behind (more first others) rest all = all_behind others rest (behind first (trees_uses others rest) all)

abbrev IsKnown : Design → Use → Type 0
IsKnown d u = not (is_declared d (used_name u)) ≡ false

known_targets : (d : Design) (assigns : List Assignment) (rest : List Use) → Every (IsKnown d) (assigns_uses assigns rest) → (k : ℕ) (a : Assignment) → slice_get assigns k ≡ Some a → not (is_declared d a.target) ≡ false
known_targets d [] rest all k a at = absurd (omega (arith, slice_get_within {A = Assignment} [] k a at))
known_targets d (b ∷ assigns) rest all zero a at = let same : b ≡ a = cc in subst (λ (x : Assignment). not (is_declared d x.target) ≡ false) same all.0
known_targets d (b ∷ assigns) rest all (suc k) a at = known_targets d assigns rest (behind (IsKnown d) b.value (assigns_uses assigns rest) all.1) k a at

-- ---- a declared name is declared in text order

found_at : (test : Signal → Bool) (ss : List Signal) (s : Signal) → find test ss ≡ Some s → (i : ℕ) × (slice_get ss i ≡ Some s) × (test s ≡ true)
found_at test [] s found = absurd (cc)
found_at test (t ∷ ss) s found = by (test t) refl found (found_at test ss s)
  where
    by : (b : Bool) → test t ≡ b → cond b (Some t) (find test ss) ≡ Some s → (find test ss ≡ Some s → (i : ℕ) × (slice_get ss i ≡ Some s) × (test s ≡ true))
        → (i : ℕ) × (slice_get (t ∷ ss) i ≡ Some s) × (test s ≡ true)
    by true e same rest = let is : t ≡ s = cc in (0, same, ap test (sym is) ∙ e)
    by false e same rest = let later = rest same in (suc later.0, later.1, later.2)

finds_none : (test : Signal → Bool) (ss : List Signal) → Every (λ s. test s ≡ false) ss → find test ss ≡ None
finds_none test [] all = refl
finds_none test (s ∷ ss) all = ap (λ (b : Bool). cond b (Some s) (find test ss)) all.0 ∙ finds_none test ss all.1

declared_at : (d : Design) (n : ℕ) → not (is_declared d n) ≡ false → (i : ℕ) × (s : Signal) × (slice_get (declarations d) i ≡ Some s) × (s.name ≡ n)
declared_at d n known = by (find (λ (s : Signal). s.name == n) (declarations d)) refl
  where
    by : (o : Option Signal) → find (λ (s : Signal). s.name == n) (declarations d) ≡ o → (i : ℕ) × (s : Signal) × (slice_get (declarations d) i ≡ Some s) × (s.name ≡ n)
    by (Some s) e = let found = found_at (λ (s : Signal). s.name == n) (declarations d) s e in (found.0, s, found.1, eqb-true s.name n found.2)
    by None e =
        let all = from_order (λ (s : Signal). (s.name == n) ≡ false) d.signals (nothing_found (λ (s : Signal). s.name == n) (declarations d) e) in
        let absent = ap (λ (o : Option Signal). not (is_some o)) (finds_none (λ (s : Signal). s.name == n) d.signals all) in
        absurd (cc)

pub declared_of : (face : Face) (d : Design) → early_fault face d ≡ None → AreDeclared d
declared_of face d early = record {
  each = λ k a at.
      declared_at d a.target (known_targets d d.assigns (blocks_uses d.blocks)
      (nothing_found (λ u. not (is_declared d (used_name u))) (uses d) (none_mapped used_name _ (none_fails face d early).undeclares)) k a at);
}
