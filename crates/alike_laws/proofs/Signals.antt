-- The declarations of modules that are alike.
use Rattle.std.proofs.Common.{◌≡◌, ℕ, zero, suc, Bool, true, false, cond, ◌||◌, List, [], ◌∷◌, find, Option, None, Some, refl, sym, ◌∙◌, ap, arith}
use Rattle.std.specs.Prelude.{◌==◌, nat_le, is_some, slice_get}
use Rattle.std.specs.List.{list_any}
use Rattle.std.proofs.lemmas.Bool.{eq-eqb, eqb-true}
use Rattle.std.proofs.lemmas.Option.{slice_get_within}
use Rattle.verilog_tree.specs.declared.tree.Signal.{Signal}
use Rattle.verilog_tree.specs.Alike.{SameName, IsAlikeSignal, IsAlike}
use Rattle.verilog_tree.specs.Checks.{with_declaration, in_text_order, declarations, redeclared}
use Rattle.verilog_tree.specs.Names.{declaration_in}
use Rattle.verilog_tree.specs.Renaming.{AreDistinct}
use Rattle.verilog_tree.specs.Tree.{Design}
use Rattle.module_laws.proofs.TextOrder.{Every, IsApart, AllApart, none_repeats, repeats_none, none_seen, apart_from, apart_to}
use Rattle.alike_laws.proofs.Matching.{one_there, one_back}

-- ---- lists by their places

module _ {A : Type 0} (P : A → Type 0) where
  every_at : (xs : List A) (k : ℕ) (x : A) → Every P xs → slice_get xs k ≡ Some x → P x
  every_at [] k x all at = absurd (omega (arith, slice_get_within {A = A} [] k x at))
  every_at (y ∷ xs) zero x all at = let e : y ≡ x = cc in subst_here e all.0
    where
      subst_here : y ≡ x → P y → P x
      subst_here e h = rw (sym e) h
  every_at (y ∷ xs) (suc k) x all at = every_at xs k x all.1 at

  every_of : (xs : List A) → ((k : ℕ) (x : A) → slice_get xs k ≡ Some x → P x) → Every P xs
  every_of [] each = tt
  every_of (x ∷ xs) each = (each 0 x refl, every_of xs (λ k y at. each (suc k) y at))

-- names that are apart stand at one place each
apart_places : (ss : List Signal) (i j : ℕ) (s t : Signal) → AllApart ss → slice_get ss i ≡ Some s → slice_get ss j ≡ Some t → s.name ≡ t.name → i ≡ j
apart_places [] i j s t all at_i at_j same = absurd (omega (arith, slice_get_within {A = Signal} [] i s at_i))
apart_places (x ∷ ss) zero zero s t all at_i at_j same = refl
apart_places (x ∷ ss) zero (suc j) s t all at_i at_j same = let e : x ≡ s = cc in absurd (every_at (IsApart x) ss j t all.0 at_j (sym same ∙ ap (λ (u : Signal). u.name) (sym e)))
apart_places (x ∷ ss) (suc i) zero s t all at_i at_j same = let e : x ≡ t = cc in absurd (every_at (IsApart x) ss i s all.0 at_i (same ∙ ap (λ (u : Signal). u.name) (sym e)))
apart_places (x ∷ ss) (suc i) (suc j) s t all at_i at_j same = ap suc (apart_places ss i j s t all.1 at_i at_j same)

places_apart : (ss : List Signal) → ((i j : ℕ) (s t : Signal) → slice_get ss i ≡ Some s → slice_get ss j ≡ Some t → s.name ≡ t.name → i ≡ j) → AllApart ss
places_apart [] one = tt
places_apart (x ∷ ss) one = (
  every_of (IsApart x) ss (λ k t at same. let e = one 0 (suc k) x t refl at (sym same) in omega (arith, e)),
  places_apart ss (λ i j s t at_i at_j same. let e = one (suc i) (suc j) s t at_i at_j same in omega (arith, e)),
)

-- ---- a test of any declaration

module _ (p : Signal → Bool) where
  found_any : (ss : List Signal) → is_some (find p ss) ≡ list_any p ss
  found_any [] = refl
  found_any (s ∷ ss) = by (p s) (found_any ss)
    where
      by : (b : Bool) → is_some (find p ss) ≡ list_any p ss → is_some (cond b (Some s) (find p ss)) ≡ (b || list_any p ss)
      by true rest = refl
      by false rest = rest

  swapped : (a b c : Bool) → (a || (b || c)) ≡ (b || (a || c))
  swapped true true c = refl
  swapped true false c = refl
  swapped false true c = refl
  swapped false false c = refl

  any_with : (s : Signal) (ts : List Signal) → list_any p (with_declaration s ts) ≡ (p s || list_any p ts)
  any_with s [] = refl
  any_with s (t ∷ ts) = by (nat_le s.place t.place) (any_with s ts)
    where
      by : (b : Bool) → list_any p (with_declaration s ts) ≡ (p s || list_any p ts) → list_any p (cond b (s ∷ t ∷ ts) (t ∷ with_declaration s ts)) ≡ (p s || (p t || list_any p ts))
      by true rest = refl
      by false rest = ap (λ (c : Bool). p t || c) rest ∙ swapped (p t) (p s) (list_any p ts)

  any_in_order : (ss : List Signal) → list_any p (in_text_order ss) ≡ list_any p ss
  any_in_order [] = refl
  any_in_order (s ∷ ss) = any_with s (in_text_order ss) ∙ ap (λ (b : Bool). p s || b) (any_in_order ss)

  pub any_at : (ss : List Signal) (k : ℕ) (s : Signal) → slice_get ss k ≡ Some s → p s ≡ true → list_any p ss ≡ true
  any_at [] k s at is = absurd (omega (arith, slice_get_within {A = Signal} [] k s at))
  any_at (x ∷ ss) zero s at is = let e : x ≡ s = cc in ap (λ (b : Bool). b || list_any p ss) (ap p e ∙ is)
  any_at (x ∷ ss) (suc k) s at is = or_true (p x) (list_any p ss) (any_at ss k s at is)
    where
      or_true : (a b : Bool) → b ≡ true → (a || b) ≡ true
      or_true true b e = refl
      or_true false b e = e

  pub any_there : (ss : List Signal) → list_any p ss ≡ true → (k : ℕ) × (s : Signal) × (slice_get ss k ≡ Some s) × (p s ≡ true)
  any_there [] is = absurd (cc)
  any_there (x ∷ ss) is = by (p x) refl is (any_there ss)
    where
      by : (b : Bool) → p x ≡ b → (b || list_any p ss) ≡ true → (list_any p ss ≡ true → (k : ℕ) × (s : Signal) × (slice_get ss k ≡ Some s) × (p s ≡ true)) → (k : ℕ) × (s : Signal) × (slice_get (x ∷ ss) k ≡ Some s) × (p s ≡ true)
      by true e h rest = (0, x, refl, e)
      by false e h rest = let r = rest h in (suc r.0, r.1, r.2, r.3)

both_ways : (a b : Bool) → (a ≡ true → b ≡ true) → (b ≡ true → a ≡ true) → a ≡ b
both_ways true b f g = sym (f refl)
both_ways false true f g = g refl
both_ways false false f g = refl

-- ---- the declaration of a name

declared_there : (ss : List Signal) (n : ℕ) (s : Signal) → declaration_in ss n ≡ Some s → (k : ℕ) × (slice_get ss k ≡ Some s) × (s.name ≡ n)
declared_there [] n s is = absurd (cc)
declared_there (x ∷ ss) n s is = by (x.name == n) refl is (declared_there ss n s)
  where
    by : (b : Bool) → (x.name == n) ≡ b → cond b (Some x) (declaration_in ss n) ≡ Some s → (declaration_in ss n ≡ Some s → (k : ℕ) × (slice_get ss k ≡ Some s) × (s.name ≡ n)) → (k : ℕ) × (slice_get (x ∷ ss) k ≡ Some s) × (s.name ≡ n)
    by true e h rest = let same : x ≡ s = cc in (0, h, ap (λ (u : Signal). u.name) (sym same) ∙ eqb-true x.name n e)
    by false e h rest = let r = rest h in (suc r.0, r.1, r.2)

declared_some : (ss : List Signal) (k n : ℕ) (s : Signal) → slice_get ss k ≡ Some s → s.name ≡ n → declaration_in ss n ≡ None → ⊥
declared_some [] k n s at named none = omega (arith, slice_get_within {A = Signal} [] k s at)
declared_some (x ∷ ss) zero n s at named none =
    let same : x ≡ s = cc in
    let e : (x.name == n) ≡ true = eq-eqb x.name n (ap (λ (u : Signal). u.name) same ∙ named) in
    let h = ap (λ (b : Bool). cond b (Some x) (declaration_in ss n)) e in
    cc
declared_some (x ∷ ss) (suc k) n s at named none = by (x.name == n) none (declared_some ss k n s at named)
  where
    by : (b : Bool) → cond b (Some x) (declaration_in ss n) ≡ None → (declaration_in ss n ≡ None → ⊥) → ⊥
    by true h rest = cc
    by false h rest = rest h

-- ---- modules that are alike

one_signal : (x y : Signal) → Some x ≡ Some y → x ≡ y
one_signal x y h = cc

-- two declarations that are alike, or none
abbrev pub AreDeclaredAlike : (ℕ → ℕ → Type 0) → Option Signal → Option Signal → Type 0
AreDeclaredAlike same None None = Unit {0}
AreDeclaredAlike same (Some s) (Some t) = IsAlikeSignal same s t
AreDeclaredAlike same _ _ = ⊥

module _ (d e : Design) (alike : IsAlike d e) (distinct_d : AreDistinct d.names) (distinct_e : AreDistinct e.names) where
  abbrev Same : ℕ → ℕ → Type 0
  Same = SameName d.names e.names

  -- a test that says the same of signals that are alike
  module _ (p q : Signal → Bool) (agree : (s t : Signal) → IsAlikeSignal Same s t → p s ≡ q t) where
    pub same_any : list_any p d.signals ≡ list_any q e.signals
    same_any = both_ways (list_any p d.signals) (list_any q e.signals)
        (λ is. let r = any_there p d.signals is in let a = alike.signals r.0 r.1 r.2 in any_at q e.signals (alike.there r.0) a.0 a.1 (sym (agree r.1 a.0 a.2) ∙ r.3))
        (λ is. let r = any_there q e.signals is in let a = alike.no_others r.0 r.1 r.2 in any_at p d.signals (alike.back r.0) a.0 a.1 (agree a.0 r.1 a.2 ∙ r.3))

    pub same_found : is_some (find p (declarations d)) ≡ is_some (find q (declarations e))
    same_found = found_any p (declarations d) ∙ any_in_order p d.signals ∙ same_any ∙ sym (any_in_order q e.signals) ∙ sym (found_any q (declarations e))

  pub apart_there : AllApart d.signals → AllApart e.signals
  apart_there all = places_apart e.signals (λ i j s t at_i at_j same.
      let a = alike.no_others i s at_i in
      let b = alike.no_others j t at_j in
      let named = one_back d.names e.names distinct_d distinct_e a.0.name b.0.name s.name a.2.name (b.2.name.0, b.2.name.1, ap (slice_get e.names) same ∙ b.2.name.2) in
      let one = apart_places d.signals (alike.back i) (alike.back j) a.0 b.0 all a.1 b.1 named in
      sym (alike.back_there i) ∙ ap alike.there one ∙ alike.back_there j)

  pub apart_back : AllApart e.signals → AllApart d.signals
  apart_back all = places_apart d.signals (λ i j s t at_i at_j same.
      let a = alike.signals i s at_i in
      let b = alike.signals j t at_j in
      let named = one_there d.names e.names distinct_d distinct_e s.name a.0.name b.0.name a.2.name (b.2.name.0, ap (slice_get d.names) same ∙ b.2.name.1, b.2.name.2) in
      let one = apart_places e.signals (alike.there i) (alike.there j) a.0 b.0 all a.1 b.1 named in
      sym (alike.there_back i) ∙ ap alike.back one ∙ alike.there_back j)

  none_both : {A B : Type 0} (a : Option A) (b : Option B) → (a ≡ None → b ≡ None) → (b ≡ None → a ≡ None) → is_some a ≡ is_some b
  none_both None None f g = refl
  none_both None (Some y) f g = absurd (let h = f refl in cc)
  none_both (Some x) None f g = absurd (let h = g refl in cc)
  none_both (Some x) (Some y) f g = refl

  pub redeclared_apart : (f : Design) → redeclared f ≡ None → AllApart f.signals
  redeclared_apart f is = apart_from f.signals ((none_repeats [] (declarations f) is).0)

  apart_redeclared : (f : Design) → AllApart f.signals → redeclared f ≡ None
  apart_redeclared f all = repeats_none [] (declarations f) (apart_to f.signals all) (none_seen (declarations f))

  pub same_redeclared : is_some (redeclared d) ≡ is_some (redeclared e)
  same_redeclared = none_both (redeclared d) (redeclared e)
      (λ is. apart_redeclared e (apart_there (redeclared_apart d is)))
      (λ is. apart_redeclared d (apart_back (redeclared_apart e is)))

  -- the declarations of names that are the same
  module _ (apart_d : AllApart d.signals) (apart_e : AllApart e.signals) (m n : ℕ) (same : Same m n) where
    pub declared_alike : AreDeclaredAlike Same (declaration_in d.signals m) (declaration_in e.signals n)
    declared_alike = by (declaration_in d.signals m) (declaration_in e.signals n) refl refl
      where
        by : (o r : Option Signal) → declaration_in d.signals m ≡ o → declaration_in e.signals n ≡ r → AreDeclaredAlike Same o r
        by None None is its = tt
        by None (Some t) is its =
            let r = declared_there e.signals n t its in
            let a = alike.no_others r.0 t r.1 in
            let named = one_back d.names e.names distinct_d distinct_e a.0.name m n (a.2.name.0, a.2.name.1, ap (slice_get e.names) (sym r.2) ∙ a.2.name.2) same in
            absurd (declared_some d.signals (alike.back r.0) m a.0 a.1 named is)
        by (Some s) None is its =
            let r = declared_there d.signals m s is in
            let a = alike.signals r.0 s r.1 in
            let named = one_there d.names e.names distinct_d distinct_e m a.0.name n (a.2.name.0, ap (slice_get d.names) (sym r.2) ∙ a.2.name.1, a.2.name.2) same in
            absurd (declared_some e.signals (alike.there r.0) n a.0 a.1 named its)
        by (Some s) (Some t) is its =
            let r = declared_there d.signals m s is in
            let u = declared_there e.signals n t its in
            let a = alike.signals r.0 s r.1 in
            let named = one_there d.names e.names distinct_d distinct_e m a.0.name n (a.2.name.0, ap (slice_get d.names) (sym r.2) ∙ a.2.name.1, a.2.name.2) same in
            let place = apart_places e.signals (alike.there r.0) u.0 a.0 t apart_e a.1 u.1 (named ∙ sym u.2) in
            let one : a.0 ≡ t = one_signal a.0 t (sym a.1 ∙ ap (slice_get e.signals) place ∙ u.1) in
            rw (sym one) a.2
