-- Every module passes the checks with the ports of a face or fails one of them: whether a name depends on itself is decided by taking one assignment
-- after the other, of which each is needed once at the most.
use Rattle.std.proofs.Common.{◌≡◌, ℕ, zero, suc, ◌<◌, Bool, true, false, ◌&&◌, ◌||◌, List, [], ◌∷◌, Option, None, Some, ◌⊎◌, inl, inr, slice_get, refl, sym, ap, ◌∙◌, arith, subst}
use Rattle.std.specs.Prelude.{◌==◌}
use Rattle.std.specs.List.{list_any}
use Rattle.std.proofs.lemmas.Bool.{eqb-true, eq-eqb}
use Rattle.verilog_tree.specs.declared.tree.Signal.{Signal}
use Rattle.verilog_tree.specs.declared.fault.ModuleFault.{ModuleFault}
use Rattle.verilog_tree.specs.declared.fault.ModuleFault.TheVariants.{CombLoop}
use Rattle.verilog_tree.specs.Tree.{Assignment, Design}
use Rattle.verilog_tree.specs.Names.{text_of}
use Rattle.verilog_tree.specs.Cycle.{reads}
use Rattle.verilog_tree.specs.Checks.{Face, declarations, early_fault, DependsBy, DependsOnItself, IsFirstLoop, PassesAs, FailsAs, Early, Loop}
use Rattle.verilog_tree.proofs.DependsOnReads.{or_left, or_right}
use Rattle.settle_order.specs.Placing.{reads_open}
use Rattle.settle_order.proofs.Opened.{same_some, reads_open_tells}
use Rattle.verilog_check.proofs.Passing.{declared_of}

and_both : (a b : Bool) → a ≡ true → b ≡ true → (a && b) ≡ true
and_both true b e f = f
and_both false b e f = e

both_of : (a b : Bool) → (a && b) ≡ true → (a ≡ true) × (b ≡ true)
both_of true b e = (refl, e)
both_of false b e = absurd (cc)

-- the second, where the first fails
or_other : (a b : Bool) → a ≡ false → (a || b) ≡ true → b ≡ true
or_other true b e f = absurd (cc)
or_other false b e f = f

clash : {A : Type 0} (b : Bool) → b ≡ true → b ≡ false → A
clash true e f = absurd (cc)
clash false e f = absurd (cc)

-- ---- dependence by the assignments of a list

-- by so many of these assignments one name depends on another
abbrev DependsIn : List Assignment → ℕ → ℕ → ℕ → Type 0
DependsIn assigns zero m n = m ≡ n
DependsIn assigns (suc k) m n = (i : ℕ) × (a : Assignment) × (slice_get assigns i ≡ Some a) × (a.target ≡ m) × (r : ℕ) × (reads a.value r ≡ true) × DependsIn assigns k r n

in_list : (d : Design) (k m n : ℕ) → DependsBy d k m n → DependsIn d.assigns k m n
in_list d zero m n is = is
in_list d (suc k) m n (i, a, at, target, r, read, rest) = (i, a, at, target, r, read, in_list d k r n rest)

in_design : (d : Design) (k m n : ℕ) → DependsIn d.assigns k m n → DependsBy d k m n
in_design d zero m n is = is
in_design d (suc k) m n (i, a, at, target, r, read, rest) = (i, a, at, target, r, read, in_design d k r n rest)

one_more : (a : Assignment) (rest : List Assignment) (k m n : ℕ) → DependsIn rest k m n → DependsIn (a ∷ rest) k m n
one_more a rest zero m n is = is
one_more a rest (suc k) m n (i, b, at, target, r, read, more) = (suc i, b, at, target, r, read, one_more a rest k r n more)

joined : (all : List Assignment) (j k m x n : ℕ) → DependsIn all j m x → DependsIn all k x n → (l : ℕ) × DependsIn all l m n
joined all zero k m x n is more = (k, subst (λ (y : ℕ). DependsIn all k y n) (sym is) more)
joined all (suc j) k m x n (i, b, at, target, r, read, first) more =
    let after = joined all j k r x n first more in
    (suc after.0, (i, b, at, target, r, read, after.1))

-- ---- whether a name is another or depends on it, the first assignment once at the most

abbrev reaches : List Assignment → ℕ → ℕ → Bool
reaches [] m n = m == n
reaches (a ∷ rest) m n = reaches rest m n || (reaches rest m a.target && reads_open (λ r. reaches rest r n) a.value)

reaches_itself : (all : List Assignment) (n : ℕ) → reaches all n n ≡ true
reaches_itself [] n = eq-eqb n n refl
reaches_itself (a ∷ rest) n = or_left (reaches rest n n) _ (reaches_itself rest n)

-- what is reached depends
depends : (all : List Assignment) (m n : ℕ) → reaches all m n ≡ true → (k : ℕ) × DependsIn all k m n
depends [] m n is = (0, eqb-true m n is)
depends (a ∷ rest) m n is = by (reaches rest m n) refl (depends rest)
  where
    by : (b : Bool) → reaches rest m n ≡ b → ((m n : ℕ) → reaches rest m n ≡ true → (k : ℕ) × DependsIn rest k m n) → (k : ℕ) × DependsIn (a ∷ rest) k m n
    by true e smaller = let found = smaller m n e in (found.0, one_more a rest found.0 m n found.1)
    by false e smaller =
        let parts = both_of (reaches rest m a.target) (reads_open (λ r. reaches rest r n) a.value) (or_other (reaches rest m n) _ e is) in
        let first = smaller m a.target parts.0 in
        let read = (reads_open_tells (λ r. reaches rest r n) a.value).some parts.1 in
        let last = smaller read.0 n read.2 in
        joined (a ∷ rest) first.0 (suc last.0) m a.target n (one_more a rest first.0 m a.target first.1) (0, a, refl, refl, read.0, read.1, one_more a rest last.0 read.0 n last.1)

-- an expression that reads a name with a mark reads a marked name
opened_by : (marked : ℕ → Bool) (a : Assignment) (r : ℕ) → reads a.value r ≡ true → marked r ≡ true → reads_open marked a.value ≡ true
opened_by marked a r read mark = by (reads_open marked a.value) refl
  where
    by : (b : Bool) → reads_open marked a.value ≡ b → reads_open marked a.value ≡ true
    by true e = e
    by false e = clash (marked r) mark ((reads_open_tells marked a.value).none e r read)

-- what depends is reached
module _ (a : Assignment) (rest : List Assignment) (smaller : (k m n : ℕ) → DependsIn rest k m n → reaches rest m n ≡ true) where
  -- by the first assignment
  by_first : (m n r : ℕ) → a.target ≡ m → reads a.value r ≡ true → reaches (a ∷ rest) r n ≡ true → reaches (a ∷ rest) m n ≡ true
  by_first m n r target read reached = or_right (reaches rest m n) _ (and_both (reaches rest m a.target) _ here (opened (reaches rest r n) refl))
    where
      here : reaches rest m a.target ≡ true
      here = subst (λ (x : ℕ). reaches rest x a.target ≡ true) target (reaches_itself rest a.target)

      opened : (b : Bool) → reaches rest r n ≡ b → reads_open (λ s. reaches rest s n) a.value ≡ true
      opened true e = opened_by (λ s. reaches rest s n) a r read e
      opened false e = (both_of (reaches rest r a.target) _ (or_other (reaches rest r n) _ e reached)).1

  -- by another one
  by_other : (m n r i : ℕ) (b : Assignment) → slice_get rest i ≡ Some b → b.target ≡ m → reads b.value r ≡ true → reaches (a ∷ rest) r n ≡ true → reaches (a ∷ rest) m n ≡ true
  by_other m n r i b at target read reached = by (reaches rest r n) refl
    where
      from : (x : ℕ) → reaches rest r x ≡ true → reaches rest m x ≡ true
      from x e = let found = depends rest r x e in smaller (suc found.0) m x (i, b, at, target, r, read, found.1)

      by : (t : Bool) → reaches rest r n ≡ t → reaches (a ∷ rest) m n ≡ true
      by true e = or_left (reaches rest m n) _ (from n e)
      by false e =
          let parts = both_of (reaches rest r a.target) (reads_open (λ s. reaches rest s n) a.value) (or_other (reaches rest r n) _ e reached) in
          or_right (reaches rest m n) _ (and_both (reaches rest m a.target) _ (from a.target parts.0) parts.1)

  one_step : (m n r i : ℕ) (b : Assignment) → slice_get (a ∷ rest) i ≡ Some b → b.target ≡ m → reads b.value r ≡ true → reaches (a ∷ rest) r n ≡ true → reaches (a ∷ rest) m n ≡ true
  one_step m n r zero b at target read reached =
      let same : a ≡ b = same_some a b at in
      by_first m n r (ap (λ (x : Assignment). x.target) same ∙ target) (ap (λ (x : Assignment). reads x.value r) same ∙ read) reached
  one_step m n r (suc i) b at target read reached = by_other m n r i b at target read reached

  all_steps : (k m n : ℕ) → DependsIn (a ∷ rest) k m n → reaches (a ∷ rest) m n ≡ true
  all_steps zero m n is = subst (λ (x : ℕ). reaches (a ∷ rest) m x ≡ true) is (reaches_itself (a ∷ rest) m)
  all_steps (suc k) m n (i, b, at, target, r, read, more) = one_step m n r i b at target read (all_steps k r n more)

reached : (all : List Assignment) (k m n : ℕ) → DependsIn all k m n → reaches all m n ≡ true
reached [] zero m n is = eq-eqb m n is
reached [] (suc k) m n (i, a, at, target, r, read, more) = absurd (cc)
reached (a ∷ rest) k m n is = all_steps a rest (reached rest) k m n is

-- ---- whether a name depends on itself

any_at : {A : Type 0} (test : A → Bool) (xs : List A) (i : ℕ) (x : A) → slice_get xs i ≡ Some x → test x ≡ true → list_any test xs ≡ true
any_at test [] i x at is = absurd (cc)
any_at test (y ∷ ys) zero x at is = or_left (test y) _ (ap test (same_some y x at) ∙ is)
any_at test (y ∷ ys) (suc i) x at is = or_right (test y) _ (any_at test ys i x at is)

some_at : {A : Type 0} (test : A → Bool) (xs : List A) → list_any test xs ≡ true → (i : ℕ) × (x : A) × (slice_get xs i ≡ Some x) × (test x ≡ true)
some_at test [] is = absurd (cc)
some_at {A} test (y ∷ ys) is = by (test y) refl (some_at test ys)
  where
    by : (b : Bool) → test y ≡ b → (list_any test ys ≡ true → (i : ℕ) × (x : A) × (slice_get ys i ≡ Some x) × (test x ≡ true)) → (i : ℕ) × (x : A) × (slice_get (y ∷ ys) i ≡ Some x) × (test x ≡ true)
    by true e rest = (0, y, refl, e)
    by false e rest = let found = rest (or_other (test y) _ e is) in (suc found.0, found.1, found.2, found.3)

-- an assignment to the name reads one that reaches it
abbrev leads_back : Design → ℕ → Assignment → Bool
leads_back d n a = a.target == n && reads_open (λ r. reaches d.assigns r n) a.value

abbrev loops : Design → ℕ → Bool
loops d n = list_any (leads_back d n) d.assigns

depends_on_itself : (d : Design) (n : ℕ) → loops d n ≡ true → DependsOnItself d n
depends_on_itself d n is =
    let found = some_at (leads_back d n) d.assigns is in
    let parts = both_of (found.1.target == n) (reads_open (λ r. reaches d.assigns r n) found.1.value) found.3 in
    let read = (reads_open_tells (λ r. reaches d.assigns r n) found.1.value).some parts.1 in
    let back = depends d.assigns read.0 n read.2 in
    (back.0, (found.0, found.1, found.2, eqb-true found.1.target n parts.0, read.0, read.1, in_design d back.0 read.0 n back.1))

is_loop : (d : Design) (n : ℕ) → DependsOnItself d n → loops d n ≡ true
is_loop d n (k, (i, a, at, target, r, read, rest)) =
    any_at (leads_back d n) d.assigns i a at
    (and_both (a.target == n) _ (eq-eqb a.target n target) (opened_by (λ s. reaches d.assigns s n) a r read (reached d.assigns k r n (in_list d k r n rest))))

-- ---- the first of some declarations

record First (test : Signal → Bool) (ss : List Signal) : Type 0 where
  place : ℕ
  signal : Signal
  there : slice_get ss place ≡ Some signal
  passes : test signal ≡ true
  before : (k : ℕ) (s : Signal) → k < place → slice_get ss k ≡ Some s → test s ≡ false

abbrev NonePasses : (Signal → Bool) → List Signal → Type 0
NonePasses test ss = (k : ℕ) (s : Signal) → slice_get ss k ≡ Some s → test s ≡ false

first_of : (test : Signal → Bool) (ss : List Signal) → First test ss ⊎ NonePasses test ss
first_of test [] = inr (λ k s at. absurd (cc))
first_of test (s ∷ ss) = by (test s) refl (first_of test ss)
  where
    later : test s ≡ false → (f : First test ss) → (k : ℕ) (t : Signal) → k < suc f.place → slice_get (s ∷ ss) k ≡ Some t → test t ≡ false
    later e f zero t lt at = ap test (sym (same_some s t at)) ∙ e
    later e f (suc k) t lt at = f.before k t (omega (arith, lt)) at

    nowhere : test s ≡ false → NonePasses test ss → NonePasses test (s ∷ ss)
    nowhere e none zero t at = ap test (sym (same_some s t at)) ∙ e
    nowhere e none (suc k) t at = none k t at

    by : (b : Bool) → test s ≡ b → First test ss ⊎ NonePasses test ss → First test (s ∷ ss) ⊎ NonePasses test (s ∷ ss)
    by true e rest = inl (record { place = 0; signal = s; there = refl; passes = e; before = λ k t lt at. absurd (omega (arith, lt)) })
    by false e (inl f) = inl (record { place = suc f.place; signal = f.signal; there = f.there; passes = f.passes; before = later e f })
    by false e (inr none) = inr (nowhere e none)

-- ---- the whole

pub total : (face : Face) (d : Design) → PassesAs face d ⊎ ((fault : ModuleFault) × FailsAs face d fault)
total face d = by (early_fault face d) refl (first_of (λ (s : Signal). loops d s.name) (declarations d))
  where
    free : early_fault face d ≡ None → NonePasses (λ (s : Signal). loops d s.name) (declarations d) → (n : ℕ) → DependsOnItself d n → ⊥
    free e none n (k, (i, a, at, target, r, read, rest)) =
        let declared = (declared_of face d e).each i a at in
        clash (loops d n) (is_loop d n (k, (i, a, at, target, r, read, rest))) (ap (loops d) (sym (declared.3 ∙ target)) ∙ none declared.0 declared.1 declared.2)

    by : (o : Option ModuleFault) → early_fault face d ≡ o → First (λ (s : Signal). loops d s.name) (declarations d) ⊎ NonePasses (λ (s : Signal). loops d s.name) (declarations d)
        → PassesAs face d ⊎ ((fault : ModuleFault) × FailsAs face d fault)
    by (Some fault) e search = inr (fault, Early e)
    by None e (inl f) =
        let first : IsFirstLoop d (f.signal).name = record {
          place = f.place;
          signal = f.signal;
          there = f.there;
          name = refl;
          loops = depends_on_itself d (f.signal).name f.passes;
          first = λ k s lt at itself. clash (loops d s.name) (is_loop d s.name itself) (f.before k s lt at);
        } in
        inr (CombLoop (text_of d (f.signal).name), Loop e ((f.signal).name, first, refl))
    by None e (inr none) = inl (record { early = e; free = free e none })
