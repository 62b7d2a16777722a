-- The first check that fails is the same in modules that are alike.
use Rattle.std.proofs.lemmas.Bool.{eqb-true}
use Rattle.std.proofs.lemmas.Option.{slice_get_within}
use Rattle.std.proofs.Common.{◌≡◌, ℕ, zero, suc, ◌||◌, Bool, true, false, cond, List, [], ◌∷◌, Option, None, Some, ◌⊎◌, inl, inr, refl, sym, ◌∙◌, ap, subst, arith}
use Rattle.std.specs.Prelude.{◌==◌, is_some, slice_get}
use Rattle.std.specs.Option.{option_map}
use Rattle.verilog_tree.specs.declared.fault.ModuleFault.{ModuleFault}
use Rattle.verilog_tree.specs.declared.fault.ModuleFault.TheVariants.{Redeclared, Undeclared, PortShape, WrongKind, WidthOver, BadSelect, ManyDrivers, NoDriver, CombLoop, Memory}
use Rattle.verilog_tree.specs.Alike.{SameName, IsAlikeTree, AreAlikeTrees, AreAlikeAssigns, IsAlike}
use Rattle.verilog_tree.specs.Checks.{or_else, undeclared, wrong_port, wrong_kind, width_over, bad_select, many_drivers, no_driver, redeclared, named, early_fault, DependsBy, DependsOnItself, IsLoopFault, Face, PassesAs, FailsAs, Early, Loop}
use Rattle.verilog_tree.specs.Cycle.{reads, any_reads}
use Rattle.verilog_tree.specs.Names.{text_of}
use Rattle.verilog_tree.specs.Renaming.{AreDistinct}
use Rattle.verilog_tree.specs.Tree.{Tree, Trees, Name, Bit, Part, Plain, Based, Cat, Not, Binary, Shift, Choice, none, more, Assignment, Design}
use Rattle.module_laws.proofs.Passing.{NoneFails, none_fails, early_none}
use Rattle.verilog_check.proofs.OneAnswer.{excluded}
use Rattle.verilog_check.proofs.Totality.{total}
use Rattle.alike_laws.specs.Laws.{check_number, HaveSameChecks}
use Rattle.alike_laws.proofs.Matching.{one_there, one_back, same_equal}
use Rattle.alike_laws.proofs.Trees.{same_reads}
use Rattle.alike_laws.proofs.Signals.{redeclared_apart, same_redeclared}
use Rattle.alike_laws.proofs.SameChecks.{same_ports, same_many, same_undriven, same_undeclared, same_kinds, same_widths, same_selects}

-- ---- the number of the first check

-- one check before the others
first : {A : Type 0} (o : Option A) (k : A → ModuleFault) (number : ℕ) → ((a : A) → check_number (k a) ≡ number) → (rest : Option ModuleFault) (n : ℕ) → ((f : ModuleFault) → rest ≡ Some f → check_number f ≡ n)
    → (f : ModuleFault) → or_else (option_map k o) rest ≡ Some f → check_number f ≡ cond (is_some o) number n
first None k number numbered rest n others f is = others f is
first (Some a) k number numbered rest n others f is = let e : k a ≡ f = cc in ap check_number (sym e) ∙ numbered a

abbrev number_by : Bool → Bool → Bool → Bool → Bool → Bool → Bool → ℕ
number_by u p k w b m n = cond u 2 (cond p 3 (cond k 4 (cond w 5 (cond b 6 (cond m 7 (cond n 8 0))))))

abbrev later_number : Face → Design → ℕ
later_number face d =
    number_by (is_some (undeclared d)) (is_some (wrong_port face d)) (is_some (wrong_kind d)) (is_some (width_over d)) (is_some (bad_select d)) (is_some (many_drivers d)) (is_some (no_driver d))

abbrev early_number : Face → Design → ℕ
early_number face d = cond (is_some (redeclared d)) 1 (later_number face d)

last : (d : Design) (f : ModuleFault) → named d NoDriver (no_driver d) ≡ Some f → check_number f ≡ cond (is_some (no_driver d)) 8 0
last d f is = by (no_driver d) is
  where
    by : (o : Option ℕ) → option_map (λ k. NoDriver (text_of d k)) o ≡ Some f → check_number f ≡ cond (is_some o) 8 0
    by None h = absurd (cc)
    by (Some k) h = let e : NoDriver (text_of d k) ≡ f = cc in ap check_number (sym e)

numbered : (face : Face) (d : Design) (f : ModuleFault) → early_fault face d ≡ Some f → check_number f ≡ early_number face d
numbered face d f is =
    first (redeclared d) (λ k. Redeclared (text_of d k)) 1 (λ k. refl) _ _ (
    first (undeclared d) (λ k. Undeclared (text_of d k)) 2 (λ k. refl) _ _ (
    first (wrong_port face d) PortShape 3 (λ k. refl) _ _ (
    first (wrong_kind d) (λ k. WrongKind (text_of d k)) 4 (λ k. refl) _ _ (
    first (width_over d) WidthOver 5 (λ k. refl) _ _ (
    first (bad_select d) (λ k. BadSelect (text_of d k)) 6 (λ k. refl) _ _ (
    first (many_drivers d) (λ k. ManyDrivers (text_of d k)) 7 (λ k. refl) _ _ (last d))))))) f is

none_is : {A : Type 0} (o : Option A) → is_some o ≡ false → o ≡ None
none_is None e = refl
none_is (Some a) e = absurd (cc)

is_none : {A : Type 0} (o : Option A) → o ≡ None → is_some o ≡ false
is_none None e = refl
is_none (Some a) e = absurd (cc)

-- ---- dependence by assignments

one_assignment : (x y : Assignment) → Some x ≡ Some y → x ≡ y
one_assignment x y h = cc

one_or : {R : Type 0} (a b : Bool) → (a || b) ≡ true → (a ≡ true → R) → (b ≡ true → R) → R
one_or true b e f g = f refl
one_or false b e f g = g e

module _ (same : ℕ → ℕ → Type 0) where
  -- an expression that reads a name has a partner that reads the name's partner
  mutual
    read_there : (e f : Tree) (k : ℕ) → IsAlikeTree same e f → reads e k ≡ true → (l : ℕ) × same k l
    read_there (Name m) f k (n, is, h) r = (n, subst (λ (j : ℕ). same j n) (sym (eqb-true k m r)) h)
    read_there (Bit m place) f k (n, is, h) r = (n, subst (λ (j : ℕ). same j n) (sym (eqb-true k m r)) h)
    read_there (Part m high low) f k (n, is, h) r = (n, subst (λ (j : ℕ). same j n) (sym (eqb-true k m r)) h)
    read_there (Plain x) f k is r = absurd (cc)
    read_there (Based width signed bits) f k is r = absurd (cc)
    read_there (Cat members) f k (others, is, h) r = any_read_there members others k h r
    read_there (Not a) f k (b, is, h) r = read_there a b k h r
    read_there (Binary op a b) f k (x, y, is, p, q) r = one_or (reads a k) (reads b k) r (λ s. read_there a x k p s) (λ s. read_there b y k q s)
    read_there (Shift op a amount) f k (b, is, h) r = read_there a b k h r
    read_there (Choice c a b) f k (z, x, y, is, o, p, q) r =
        one_or (reads c k) (reads a k || reads b k) r (λ s. read_there c z k o s) (λ t. one_or (reads a k) (reads b k) t (λ s. read_there a x k p s) (λ s. read_there b y k q s))

    any_read_there : (es fs : Trees) (k : ℕ) → AreAlikeTrees same es fs → any_reads es k ≡ true → (l : ℕ) × same k l
    any_read_there none fs k is r = absurd (cc)
    any_read_there (more e es) fs k (f, rest, is, p, q) r = one_or (reads e k) (any_reads es k) r (λ s. read_there e f k p s) (λ s. any_read_there es rest k q s)

  -- and the other way
  mutual
    read_back : (e f : Tree) (l : ℕ) → IsAlikeTree same e f → reads f l ≡ true → (k : ℕ) × same k l
    read_back (Name m) f l (n, is, h) r = (m, subst (same m) (sym (eqb-true l n (ap (λ (g : Tree). reads g l) (sym is) ∙ r))) h)
    read_back (Bit m place) f l (n, is, h) r = (m, subst (same m) (sym (eqb-true l n (ap (λ (g : Tree). reads g l) (sym is) ∙ r))) h)
    read_back (Part m high low) f l (n, is, h) r = (m, subst (same m) (sym (eqb-true l n (ap (λ (g : Tree). reads g l) (sym is) ∙ r))) h)
    read_back (Plain x) f l is r = absurd (let e = ap (λ (g : Tree). reads g l) (sym is) ∙ r in cc)
    read_back (Based width signed bits) f l is r = absurd (let e = ap (λ (g : Tree). reads g l) (sym is) ∙ r in cc)
    read_back (Cat members) f l (others, is, h) r = any_read_back members others l h (ap (λ (g : Tree). reads g l) (sym is) ∙ r)
    read_back (Not a) f l (b, is, h) r = read_back a b l h (ap (λ (g : Tree). reads g l) (sym is) ∙ r)
    read_back (Binary op a b) f l (x, y, is, p, q) r =
        one_or (reads x l) (reads y l) (ap (λ (g : Tree). reads g l) (sym is) ∙ r) (λ s. read_back a x l p s) (λ s. read_back b y l q s)
    read_back (Shift op a amount) f l (b, is, h) r = read_back a b l h (ap (λ (g : Tree). reads g l) (sym is) ∙ r)
    read_back (Choice c a b) f l (z, x, y, is, o, p, q) r =
        one_or (reads z l) (reads x l || reads y l) (ap (λ (g : Tree). reads g l) (sym is) ∙ r) (λ s. read_back c z l o s)
        (λ t. one_or (reads x l) (reads y l) t (λ s. read_back a x l p s) (λ s. read_back b y l q s))

    any_read_back : (es fs : Trees) (l : ℕ) → AreAlikeTrees same es fs → any_reads fs l ≡ true → (k : ℕ) × same k l
    any_read_back none fs l is r = absurd (let e = ap (λ (gs : Trees). any_reads gs l) (sym is) ∙ r in cc)
    any_read_back (more e es) fs l (f, rest, is, p, q) r =
        one_or (reads f l) (any_reads rest l) (ap (λ (gs : Trees). any_reads gs l) (sym is) ∙ r) (λ s. read_back e f l p s) (λ s. any_read_back es rest l q s)

  -- assignments of one place
  pub assign_there : (as' bs : List Assignment) (i : ℕ) (a : Assignment) → AreAlikeAssigns same as' bs → slice_get as' i ≡ Some a → (b : Assignment) × (slice_get bs i ≡ Some b) × same a.target b.target × IsAlikeTree same a.value b.value
  assign_there [] bs i a is at = absurd (omega (arith, slice_get_within {A = Assignment} [] i a at))
  assign_there (x ∷ as') bs zero a (b, rest, is, h, p, q) at =
      let e : x ≡ a = cc in (b, ap (λ (gs : List Assignment). slice_get gs 0) is, ap_same e h, ap_tree e p)
    where
      ap_same : x ≡ a → same x.target b.target → same a.target b.target
      ap_same e h = subst (λ (c : Assignment). same c.target b.target) e h

      ap_tree : x ≡ a → IsAlikeTree same x.value b.value → IsAlikeTree same a.value b.value
      ap_tree e h = subst (λ (c : Assignment). IsAlikeTree same c.value b.value) e h
  assign_there (x ∷ as') bs (suc i) a (b, rest, is, h, p, q) at =
      let r = assign_there as' rest i a q at in (r.0, ap (λ (gs : List Assignment). slice_get gs (suc i)) is ∙ r.1, r.2, r.3)

  pub assign_back : (as' bs : List Assignment) (i : ℕ) (b : Assignment) → AreAlikeAssigns same as' bs → slice_get bs i ≡ Some b → (a : Assignment) × (slice_get as' i ≡ Some a) × same a.target b.target × IsAlikeTree same a.value b.value
  assign_back [] bs i b is at = absurd (omega (arith, slice_get_within {A = Assignment} [] i b (ap (λ (gs : List Assignment). slice_get gs i) (sym is) ∙ at)))
  assign_back (x ∷ as') bs zero b (c, rest, is, h, p, q) at =
      let e : c ≡ b = one_assignment c b (ap (λ (gs : List Assignment). slice_get gs 0) (sym is) ∙ at) in
      (x, refl, subst (λ (y : Assignment). same x.target y.target) e h, subst (λ (y : Assignment). IsAlikeTree same x.value y.value) e p)
  assign_back (x ∷ as') bs (suc i) b (c, rest, is, h, p, q) at =
      let r = assign_back as' rest i b q (ap (λ (gs : List Assignment). slice_get gs (suc i)) (sym is) ∙ at) in r

-- dependence goes over to another module, where each assignment has a partner
module _ (R : ℕ → ℕ → Type 0) (x y : Design) (one : (m n other : ℕ) → R m n → R m other → n ≡ other)
    (partner : (i : ℕ) (a : Assignment) → slice_get x.assigns i ≡ Some a → (b : Assignment) × (slice_get y.assigns i ≡ Some b) × R a.target b.target × ((r : ℕ) → reads a.value r ≡ true → (s : ℕ) × R r s × (reads b.value s ≡ true))) where
  depends_over : (k m n m' : ℕ) → DependsBy x k m n → R m m' → (n' : ℕ) × R n n' × DependsBy y k m' n'
  depends_over zero m n m' is r = (m', subst (λ (j : ℕ). R j m') is r, refl)
  depends_over (suc k) m n m' (i, a, at, target, s, read, rest) r =
      let b = partner i a at in
      let t = b.3 s read in
      let more' = depends_over k s n t.0 rest t.1 in
      (more'.0, more'.1, (i, b.0, b.1, one m b.0.target m' (subst (λ (j : ℕ). R j b.0.target) target b.2) r, t.0, t.2, more'.2))

  pub itself_over : (n : ℕ) → DependsOnItself x n → (n' : ℕ) × DependsOnItself y n'
  itself_over n (k, (i, a, at, target, s, read, rest)) =
      let b = partner i a at in
      let from = subst (λ (j : ℕ). R j b.0.target) target b.2 in
      let over = depends_over (suc k) n n b.0.target (i, a, at, target, s, read, rest) from in
      let back : over.0 ≡ b.0.target = one n over.0 b.0.target over.1 from in
      (b.0.target, (k, subst (DependsBy y (suc k) b.0.target) back over.2))

-- ---- the whole

module _ (d e : Design) (alike : IsAlike d e) (distinct_d : AreDistinct d.names) (distinct_e : AreDistinct e.names) where
  abbrev Same : ℕ → ℕ → Type 0
  Same = SameName d.names e.names

  equal : (m n k l : ℕ) → Same m n → Same k l → (m == k) ≡ (n == l)
  equal = same_equal d.names e.names distinct_d distinct_e

  loop_there : (n : ℕ) → DependsOnItself d n → (n' : ℕ) × DependsOnItself e n'
  loop_there = itself_over Same d e (one_there d.names e.names distinct_d distinct_e)
      (λ i a at.
      let b = assign_there Same d.assigns e.assigns i a alike.assigns at in (
        b.0,
        b.1,
        b.2,
        λ r read.
            let s = read_there Same a.value b.0.value r b.3 read in
            (s.0, s.1, sym (same_reads Same equal r s.0 s.1 a.value b.0.value b.3) ∙ read),
      ))

  loop_back : (n : ℕ) → DependsOnItself e n → (n' : ℕ) × DependsOnItself d n'
  loop_back = itself_over (λ m n. Same n m) e d (λ m n other p q. one_back d.names e.names distinct_d distinct_e n other m p q)
      (λ i b at.
      let a = assign_back Same d.assigns e.assigns i b alike.assigns at in (
        a.0,
        a.1,
        a.2,
        λ r read.
            let s = read_back Same a.0.value b.value r a.3 read in
            (s.0, s.1, same_reads Same equal s.0 r s.1 a.0.value b.value a.3 ∙ read),
      ))

  loop_number : (f : Design) (fault : ModuleFault) → IsLoopFault f fault → check_number fault ≡ 9
  loop_number f (CombLoop name) is = refl
  loop_number f (Redeclared name) is = absurd is
  loop_number f (Undeclared name) is = absurd is
  loop_number f (PortShape name) is = absurd is
  loop_number f (WrongKind name) is = absurd is
  loop_number f (WidthOver name) is = absurd is
  loop_number f (BadSelect name) is = absurd is
  loop_number f (ManyDrivers name) is = absurd is
  loop_number f (NoDriver name) is = absurd is
  loop_number f Memory is = absurd is

  -- ---- with the ports of a face

  module _ (face : Face) where
    same_number : early_number face d ≡ early_number face e
    same_number = by (is_some (redeclared d)) (is_some (redeclared e)) refl refl (same_redeclared d e alike distinct_d distinct_e)
      where
        rest : redeclared d ≡ None → redeclared e ≡ None → later_number face d ≡ later_number face e
        rest none_d none_e =
            let apart_d = redeclared_apart d e alike distinct_d distinct_e d none_d in
            let apart_e = redeclared_apart d e alike distinct_d distinct_e e none_e in
            λ i. number_by (same_undeclared d e alike distinct_d distinct_e apart_d apart_e i) (same_ports d e alike distinct_d distinct_e face i) (same_kinds d e alike distinct_d distinct_e apart_d apart_e i)
            (same_widths d e alike distinct_d distinct_e apart_d apart_e i) (same_selects d e alike distinct_d distinct_e apart_d apart_e i) (same_many d e alike distinct_d distinct_e i) (same_undriven d e alike distinct_d distinct_e i)

        by : (a b : Bool) → is_some (redeclared d) ≡ a → is_some (redeclared e) ≡ b → is_some (redeclared d) ≡ is_some (redeclared e) → early_number face d ≡ early_number face e
        by true true p q same = ap (λ (c : Bool). cond c 1 (later_number face d)) p ∙ sym (ap (λ (c : Bool). cond c 1 (later_number face e)) q)
        by false false p q same =
            ap (λ (c : Bool). cond c 1 (later_number face d)) p ∙ rest (none_is (redeclared d) p) (none_is (redeclared e) q) ∙ sym (ap (λ (c : Bool). cond c 1 (later_number face e)) q)
        by true false p q same = absurd (cc)
        by false true p q same = absurd (cc)

    none_there : NoneFails face d → NoneFails face e
    none_there n =
        let none_e = none_is (redeclared e) (sym (same_redeclared d e alike distinct_d distinct_e) ∙ is_none (redeclared d) n.redeclares) in
        let apart_d = redeclared_apart d e alike distinct_d distinct_e d n.redeclares in
        let apart_e = redeclared_apart d e alike distinct_d distinct_e e none_e in
        record {
          redeclares = none_e;
          undeclares = none_is (undeclared e) (sym (same_undeclared d e alike distinct_d distinct_e apart_d apart_e) ∙ is_none (undeclared d) n.undeclares);
          ports = none_is (wrong_port face e) (sym (same_ports d e alike distinct_d distinct_e face) ∙ is_none (wrong_port face d) n.ports);
          kinds = none_is (wrong_kind e) (sym (same_kinds d e alike distinct_d distinct_e apart_d apart_e) ∙ is_none (wrong_kind d) n.kinds);
          widths = none_is (width_over e) (sym (same_widths d e alike distinct_d distinct_e apart_d apart_e) ∙ is_none (width_over d) n.widths);
          selects = none_is (bad_select e) (sym (same_selects d e alike distinct_d distinct_e apart_d apart_e) ∙ is_none (bad_select d) n.selects);
          drivers = none_is (many_drivers e) (sym (same_many d e alike distinct_d distinct_e) ∙ is_none (many_drivers d) n.drivers);
          driven = none_is (no_driver e) (sym (same_undriven d e alike distinct_d distinct_e) ∙ is_none (no_driver d) n.driven);
        }

    none_back : NoneFails face e → NoneFails face d
    none_back n =
        let none_d = none_is (redeclared d) (same_redeclared d e alike distinct_d distinct_e ∙ is_none (redeclared e) n.redeclares) in
        let apart_d = redeclared_apart d e alike distinct_d distinct_e d none_d in
        let apart_e = redeclared_apart d e alike distinct_d distinct_e e n.redeclares in
        record {
          redeclares = none_d;
          undeclares = none_is (undeclared d) (same_undeclared d e alike distinct_d distinct_e apart_d apart_e ∙ is_none (undeclared e) n.undeclares);
          ports = none_is (wrong_port face d) (same_ports d e alike distinct_d distinct_e face ∙ is_none (wrong_port face e) n.ports);
          kinds = none_is (wrong_kind d) (same_kinds d e alike distinct_d distinct_e apart_d apart_e ∙ is_none (wrong_kind e) n.kinds);
          widths = none_is (width_over d) (same_widths d e alike distinct_d distinct_e apart_d apart_e ∙ is_none (width_over e) n.widths);
          selects = none_is (bad_select d) (same_selects d e alike distinct_d distinct_e apart_d apart_e ∙ is_none (bad_select e) n.selects);
          drivers = none_is (many_drivers d) (same_many d e alike distinct_d distinct_e ∙ is_none (many_drivers e) n.drivers);
          driven = none_is (no_driver d) (same_undriven d e alike distinct_d distinct_e ∙ is_none (no_driver e) n.driven);
        }

    same_fails : (fault other : ModuleFault) → FailsAs face d fault → FailsAs face e other → check_number fault ≡ check_number other
    same_fails fault other (Early p) (Early q) = numbered face d fault p ∙ same_number ∙ sym (numbered face e other q)
    same_fails fault other (Loop p u) (Loop q v) = loop_number d fault u ∙ sym (loop_number e other v)
    same_fails fault other (Early p) (Loop q v) = absurd (let h = early_none face d (none_back (none_fails face e q)) in cc)
    same_fails fault other (Loop p u) (Early q) = absurd (let h = early_none face e (none_there (none_fails face d p)) in cc)

    passes_there : PassesAs face d → PassesAs face e
    passes_there passes = record { early = early_none face e (none_there (none_fails face d passes.early)); free = λ n loop. let b = loop_back n loop in passes.free b.0 b.1 }

    passes_back : PassesAs face e → PassesAs face d
    passes_back passes = record { early = early_none face d (none_back (none_fails face e passes.early)); free = λ n loop. let b = loop_there n loop in passes.free b.0 b.1 }

    fails_there : (fault : ModuleFault) → FailsAs face d fault → (other : ModuleFault) × FailsAs face e other × (check_number other ≡ check_number fault)
    fails_there fault fails = by (total face e)
      where
        by : PassesAs face e ⊎ ((other : ModuleFault) × FailsAs face e other) → (other : ModuleFault) × FailsAs face e other × (check_number other ≡ check_number fault)
        by (inl passes) = absurd (excluded d fault (passes_back passes) fails)
        by (inr (other, its)) = (other, its, sym (same_fails fault other fails its))

    fails_back : (other : ModuleFault) → FailsAs face e other → (fault : ModuleFault) × FailsAs face d fault × (check_number fault ≡ check_number other)
    fails_back other fails = by (total face d)
      where
        by : PassesAs face d ⊎ ((fault : ModuleFault) × FailsAs face d fault) → (fault : ModuleFault) × FailsAs face d fault × (check_number fault ≡ check_number other)
        by (inl passes) = absurd (excluded e other (passes_there passes) fails)
        by (inr (fault, its)) = (fault, its, same_fails fault other its fails)

    pub same_checks : HaveSameChecks face d e
    same_checks = record {
      there = passes_there;
      back = passes_back;
      fails_there = fails_there;
      fails_back = fails_back;
      same = same_fails;
    }
