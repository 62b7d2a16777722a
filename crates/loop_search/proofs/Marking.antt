-- The marking of the names that depend on a name, turn by turn.
use Rattle.std.proofs.Common.{◌≡◌, ℕ, zero, suc, ◌+◌, ◌-◌, ◌<◌, ◌≤◌, Bool, true, false, List, [], ◌∷◌, ◌++◌, Some, length, take, drop, set, slice_get, refl, sym, ap, ◌∙◌, arith, subst, MatchBool, ◌⊎◌, inl, inr}
use Rattle.std.specs.Prelude.{◌==◌, if◌then◌else◌, replicate}
use Rattle.std.proofs.lemmas.Bool.{eqb-true, eqb-false}
use Rattle.std.proofs.lemmas.List.{append-nil, length-set, take_all}
use Rattle.std.proofs.lemmas.Option.{slice_get_within}
use Rattle.verilog_tree.specs.Tree.{Assignment, Design}
use Rattle.verilog_tree.specs.Cycle.{reads}
use Rattle.verilog_tree.specs.Checks.{DependsBy, DependsOnItself}
use Rattle.settle_order.specs.Placing.{reads_open, opened_of, count_open}
use Rattle.settle_order.proofs.Opened.{same_some, flags_set, reads_open_tells}
use Rattle.loop_search.specs.Dependents.{AreDependents, AreAllDependents, ReadsItself}

not_both : (b : Bool) → b ≡ true → b ≡ false → ⊥
not_both b t f = cc

before_last : (j k : ℕ) → j < k + 1 → (j ≡ k → ⊥) → j < k
before_last j k lt apart = omega (arith, lt, apart)

pub more_open : (flags : List Bool) (n : ℕ) → n < length flags → opened_of flags n ≡ false → count_open (set flags n true) ≡ count_open flags + 1
more_open [] n lt is = absurd (omega (arith, lt))
more_open (true ∷ flags) zero lt is = absurd (cc)
more_open (false ∷ flags) zero lt is = omega arith
more_open (b ∷ flags) (suc n) lt is = let rest = more_open flags n (omega (arith, lt)) is in omega (arith, rest)

pub open_at_most : (flags : List Bool) → count_open flags ≤ length flags
open_at_most [] = omega arith
open_at_most (true ∷ flags) = let rest = open_at_most flags in omega (arith, rest)
open_at_most (false ∷ flags) = let rest = open_at_most flags in omega (arith, rest)

-- what doesn't hold of any element before this one, nor of it
pub none_more : {A : Type 0} (xs : List A) (P : A → Type 0) (place : ℕ) (x : A) → slice_get xs place ≡ Some x → ((k : ℕ) (y : A) → k < place → slice_get xs k ≡ Some y → P y → ⊥) → (P x → ⊥)
    → (k : ℕ) (y : A) → k < place + 1 → slice_get xs k ≡ Some y → P y → ⊥
none_more xs P place x here before not_here k y lt at is = by (k == place) refl
  where
    by : (t : Bool) → (k == place) ≡ t → ⊥
    by false e = before k y (before_last k place lt (eqb-false k place e)) at is
    by true e = not_here (subst P (sym (same_some x y (sym here ∙ ap (slice_get xs) (sym (eqb-true k place e)) ∙ at))) is)

-- what holds of each element before this one, and of it
pub each_more : {A : Type 0} (xs : List A) (P : A → Type 0) (place : ℕ) (x : A) → slice_get xs place ≡ Some x → ((k : ℕ) (y : A) → k < place → slice_get xs k ≡ Some y → P y) → P x
    → (k : ℕ) (y : A) → k < place + 1 → slice_get xs k ≡ Some y → P y
each_more xs P place x here before holds k y lt at = by (k == place) refl
  where
    by : (t : Bool) → (k == place) ≡ t → P y
    by false e = before k y (before_last k place lt (eqb-false k place e)) at
    by true e = subst P (same_some x y (sym here ∙ ap (slice_get xs) (sym (eqb-true k place e)) ∙ at)) holds

-- fewer flags are left after a pass that set one
pub fewer_left : (old new : List Bool) (more : Bool) → length new ≡ length old → (more ≡ true → count_open old < count_open new)
    → (if more then (length new - count_open new) + 1 else 0) < (length old - count_open old) + 1
fewer_left old new false same more = omega arith
fewer_left old new true same more = omega (arith, same, more refl, open_at_most new)

none_set : (count m : ℕ) → opened_of (replicate count false) m ≡ false
none_set zero m = refl
none_set (suc count) zero = refl
none_set (suc count) (suc m) = none_set count m

-- one flag is set
pub one_set : (flags : List Bool) (count name : ℕ) → flags ≡ replicate count false → name < length flags → (m : ℕ) → opened_of (set flags name true) m ≡ true → m ≡ name
one_set flags count name none within m is = by (m == name) refl (sym (flags_set flags name true m within) ∙ is)
  where
    by : (t : Bool) → (m == name) ≡ t → (if t then true else opened_of flags m) ≡ true → m ≡ name
    by true e set_here = eqb-true m name e
    by false e set_here = absurd (not_both (opened_of flags m) set_here (ap (λ (fs : List Bool). opened_of fs m) none ∙ none_set count m))

module _ (d : Design) where
  pub depends_more : (m n r k : ℕ) (i : ℕ) (a : Assignment) → slice_get d.assigns i ≡ Some a → a.target ≡ m → reads a.value r ≡ true → DependsBy d k r n → DependsBy d (suc k) m n
  depends_more m n r k i a at target read rest = (i, a, at, target, r, read, rest)

  pub record IsMarking (initial flags : List Bool) (progress : Bool) (place : ℕ) : Type 0 where
    pub size : length flags ≡ length initial
    pub dependents : AreDependents d (opened_of initial) (opened_of flags)
    pub more : count_open initial + (if progress then 1 else 0) ≤ count_open flags
    pub all : progress ≡ false → (k : ℕ) (a : Assignment) → k < place → slice_get d.assigns k ≡ Some a → reads_open (opened_of flags) a.value ≡ true → opened_of flags a.target ≡ true

  pub none_marked : (flags : List Bool) → IsMarking flags flags false 0
  none_marked flags = record {
    size = refl;
    dependents = record { kept = λ m is. is; depend = λ m is. (m, is, 0, refl) };
    more = omega arith;
    all = λ none k a lt. absurd (omega (arith, lt));
  }

  module _ (initial flags : List Bool) (progress : Bool) (place : ℕ) (a : Assignment) (h : IsMarking initial flags progress place) (here : slice_get d.assigns place ≡ Some a) where
    pub marks : a.target < length flags → opened_of flags a.target ≡ false → reads_open (opened_of flags) a.value ≡ true → IsMarking initial (set flags a.target true) true (place + 1)
    marks within shut reading = record {
      size = length-set flags a.target true ∙ h.size;
      dependents = record { kept = λ m is. kept m (m == a.target) refl (h.dependents.kept m is); depend = λ m is. depend m (m == a.target) refl (sym (flags_set flags a.target true m within) ∙ is) };
      more = let one = more_open flags a.target within shut in more progress h.more one;
      all = λ none. absurd (cc);
    }
      where
        kept : (m : ℕ) (t : Bool) → (m == a.target) ≡ t → opened_of flags m ≡ true → opened_of (set flags a.target true) m ≡ true
        kept m t e is = flags_set flags a.target true m within ∙ ap (λ (u : Bool). if u then true else opened_of flags m) e ∙ by t
          where
            by : (t : Bool) → (if t then true else opened_of flags m) ≡ true
            by true = refl
            by false = is

        depend : (m : ℕ) (t : Bool) → (m == a.target) ≡ t → (if m == a.target then true else opened_of flags m) ≡ true → (n : ℕ) × (opened_of initial n ≡ true) × (k : ℕ) × DependsBy d k m n
        depend m true e is =
            let read = (reads_open_tells (opened_of flags) a.value).some reading in
            let rest = h.dependents.depend read.0 read.2 in
            (rest.0, rest.1, suc rest.2, depends_more m rest.0 read.0 rest.2 place a here (sym (eqb-true m a.target e)) read.1 rest.3)
        depend m false e is = h.dependents.depend m (sym (ap (λ (u : Bool). if u then true else opened_of flags m) e) ∙ is)

        more : (b : Bool) → count_open initial + (if b then 1 else 0) ≤ count_open flags → count_open (set flags a.target true) ≡ count_open flags + 1 → count_open initial + 1 ≤ count_open (set flags a.target true)
        more true le one = omega (arith, le, one)
        more false le one = omega (arith, le, one)

    pub passes : (opened_of flags a.target ≡ true) ⊎ (reads_open (opened_of flags) a.value ≡ false) → IsMarking initial flags progress (place + 1)
    passes skip = record {
      size = h.size;
      dependents = h.dependents;
      more = h.more;
      all = λ none k b lt at reading. all none k b lt at reading (k == place) refl;
    }
      where
        all : progress ≡ false → (k : ℕ) (b : Assignment) → k < place + 1 → slice_get d.assigns k ≡ Some b → reads_open (opened_of flags) b.value ≡ true → (t : Bool) → (k == place) ≡ t → opened_of flags b.target ≡ true
        all none k b lt at reading false e = h.all none k b (before_last k place lt (eqb-false k place e)) at reading
        all none k b lt at reading true e = by skip
          where
            same : a ≡ b
            same = same_some a b (sym here ∙ ap (slice_get d.assigns) (sym (eqb-true k place e)) ∙ at)

            by : (opened_of flags a.target ≡ true) ⊎ (reads_open (opened_of flags) a.value ≡ false) → opened_of flags b.target ≡ true
            by (inl is) = ap (λ (x : Assignment). opened_of flags x.target) (sym same) ∙ is
            by (inr shut) = absurd (not_both (reads_open (opened_of flags) b.value) reading (ap (λ (x : Assignment). reads_open (opened_of flags) x.value) (sym same) ∙ shut))

  pub marked_moved : (initial f g : List Bool) (p r : Bool) (place : ℕ) → IsMarking initial f p place → g ≡ f → r ≡ p → IsMarking initial g r place
  marked_moved initial f g p r place h flags progress =
      subst (λ (x : List Bool). IsMarking initial x r place) (sym flags) (subst (λ (x : Bool). IsMarking initial f x place) (sym progress) h)

  pub all_of : (initial flags : List Bool) (progress : Bool) (place : ℕ) → IsMarking initial flags progress place → length d.assigns ≤ place → progress ≡ false → AreAllDependents d (opened_of flags)
  all_of initial flags progress place h le none k a at reading = h.all none k a (omega (arith, le, slice_get_within d.assigns k a at)) at reading

  -- ---- from the marks

  -- the marked names are those that are or depend on this one
  pub record AreOf (name : ℕ) (marked : ℕ → Bool) : Type 0 where
    pub itself : marked name ≡ true
    pub depend : (m : ℕ) → marked m ≡ true → (k : ℕ) × DependsBy d k m name

  joined : (k j m n r : ℕ) → DependsBy d k m n → DependsBy d j n r → DependsBy d (k + j) m r
  joined zero j m n r first rest =
      let none : j ≡ 0 + j = omega arith in
      subst (λ (x : ℕ). DependsBy d x m r) none (subst (λ (x : ℕ). DependsBy d j x r) (sym first) rest)
  joined (suc k) j m n r (i, a, at, target, q, read, others) rest =
      let one : suc (k + j) ≡ suc k + j = omega arith in
      subst (λ (x : ℕ). DependsBy d x m r) one (depends_more m r q (k + j) i a at target read (joined k j q n r others rest))

  pub dependents_then : (before mid now : ℕ → Bool) → AreDependents d before mid → AreDependents d mid now → AreDependents d before now
  dependents_then before mid now first more = record {
    kept = λ m is. more.kept m (first.kept m is);
    depend = λ m is.
        let last = more.depend m is in
        let rest = first.depend last.0 last.1 in
        (rest.0, rest.1, last.2 + rest.2, joined last.2 rest.2 m last.0 rest.0 last.3 rest.3);
  }

  pub same_dependents : (marked : ℕ → Bool) → AreDependents d marked marked
  same_dependents marked = record { kept = λ m is. is; depend = λ m is. (m, is, 0, refl) }

  pub of_one : (name : ℕ) (before now : ℕ → Bool) → before name ≡ true → ((m : ℕ) → before m ≡ true → m ≡ name) → AreDependents d before now → AreOf name now
  of_one name before now is_set one more = record {
    itself = more.kept name is_set;
    depend = λ m is.
        let found = more.depend m is in
        (found.2, subst (λ (x : ℕ). DependsBy d found.2 m x) (one found.0 found.1) found.3);
  }

  pub reached : (name : ℕ) (marked : ℕ → Bool) → AreOf name marked → AreAllDependents d marked → (k m : ℕ) → DependsBy d k m name → marked m ≡ true
  reached name marked h all zero m same = ap marked same ∙ h.itself
  reached name marked h all (suc k) m (i, a, at, target, r, read, rest) =
      ap marked (sym target) ∙ all i a at (reads_marked marked a r read (reached name marked h all k r rest))
    where
      reads_marked : (marked : ℕ → Bool) (a : Assignment) (r : ℕ) → reads a.value r ≡ true → marked r ≡ true → reads_open marked a.value ≡ true
      reads_marked marked a r read is = by (reads_open marked a.value) refl
        where
          by : (t : Bool) → reads_open marked a.value ≡ t → t ≡ true
          by true e = refl
          by false e = absurd (not_both (marked r) is ((reads_open_tells marked a.value).none e r read))

  pub loops : (name : ℕ) (marked : ℕ → Bool) → AreOf name marked → ReadsItself d name marked → DependsOnItself d name
  loops name marked h (i, a, at, target, reading) =
      let read = (reads_open_tells marked a.value).some reading in
      let rest = h.depend read.0 read.2 in
      (rest.0, depends_more name name read.0 rest.0 i a at target read.1 rest.1)

  pub reads_back : (name : ℕ) (marked : ℕ → Bool) → AreOf name marked → AreAllDependents d marked → DependsOnItself d name → ReadsItself d name marked
  reads_back name marked h all (k, (i, a, at, target, r, read, rest)) = (i, a, at, target, by (reads_open marked a.value) refl)
    where
      by : (t : Bool) → reads_open marked a.value ≡ t → t ≡ true
      by true e = refl
      by false e = absurd (not_both (marked r) (reached name marked h all k r rest) ((reads_open_tells marked a.value).none e r read))

  pub whether_loops : (name : ℕ) (marked : ℕ → Bool) → AreOf name marked → AreAllDependents d marked → (b : Bool) → MatchBool b (ReadsItself d name marked) (ReadsItself d name marked → ⊥)
      → MatchBool b (DependsOnItself d name) (DependsOnItself d name → ⊥)
  whether_loops name marked h all true is = loops name marked h is
  whether_loops name marked h all false is = λ itself. is (reads_back name marked h all itself)

-- flags that are written back into a vector as long
pub put_back : (size : ℕ) (new old : List Bool) → length old ≤ length new → length new ≤ size → take size (new ++ drop (length new) old) ≡ new
put_back size new old small fits =
    ap (λ (xs : List Bool). take size (new ++ xs)) (none_left old (length new) small) ∙ ap (take size) (append-nil new) ∙ take_all size new fits
  where
    none_left : (xs : List Bool) (k : ℕ) → length xs ≤ k → drop k xs ≡ []
    none_left [] zero le = refl
    none_left [] (suc k) le = refl
    none_left (x ∷ xs) zero le = absurd (omega (arith, le))
    none_left (x ∷ xs) (suc k) le = none_left xs k (omega (arith, le))
