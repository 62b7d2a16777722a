-- A circuit without a combinational loop has exactly one settling of each content.
use Rattle.std.proofs.Common.{◌≡◌, ℕ, zero, suc, ◌<◌, Bool, true, false, List, [], ◌∷◌, Some, ◌⊎◌, inl, inr, slice_get, refl, sym, ap, ◌∙◌, arith}
use Rattle.std.specs.Prelude.{◌==◌}
use Rattle.std.proofs.lemmas.Bool.{eqb-true, eqb-false}
use Rattle.verilog_tree.specs.Meaning.{Values}
use Rattle.verilog_tree.specs.Circuit.{Driver, Circuit, IsSource, IsSettled, IsSettling, IsSound, IsLevelled, HasNoLoop}

-- the assignment that drives a name
abbrev pub Drives : List Driver → ℕ → Type 0
Drives ds n = (k : ℕ) × (d : Driver) × (slice_get ds k ≡ Some d) × (d.target ≡ n)

abbrev pub Undriven : List Driver → ℕ → Type 0
Undriven ds n = (k : ℕ) (d : Driver) → slice_get ds k ≡ Some d → d.target ≡ n → ⊥

same_driver : (d e : Driver) → Some d ≡ Some e → d ≡ e
same_driver d e same = cc

-- a name is driven or it is not
pub driven_or_not : (ds : List Driver) (n : ℕ) → Drives ds n ⊎ Undriven ds n
driven_or_not [] n = inr (λ k d at is. cc)
driven_or_not (d ∷ ds) n = head (d.target == n) refl (driven_or_not ds n)
  where
    head : (b : Bool) → (d.target == n) ≡ b → Drives ds n ⊎ Undriven ds n → Drives (d ∷ ds) n ⊎ Undriven (d ∷ ds) n
    head true e rest = inl (0, d, refl, eqb-true _ _ e)
    head false e (inl found) = inl (suc found.0, found.1, found.2, found.3)
    head false e (inr none) = inr other
      where
        other : Undriven (d ∷ ds) n
        other zero x at is = eqb-false _ _ e (ap (λ (y : Driver). y.target) (same_driver d x at) ∙ is)
        other (suc k) x at is = none k x at is

module _ (c : Circuit) (sound : IsSound c) (level : ℕ → ℕ) (levelled : IsLevelled c level) where
  -- ---- at most one
  below : (v w : Values) → ((n : ℕ) → IsSource c n → v n ≡ w n) → IsSettled c v → IsSettled c w → (bound n : ℕ) → level n < bound → v n ≡ w n
  below v w same sv sw zero n lt = absurd (omega arith)
  below v w same sv sw (suc bound) n lt = by (driven_or_not c.drivers n) (λ m le. below v w same sv sw bound m le)
    where
      by : Drives c.drivers n ⊎ Undriven c.drivers n → ((m : ℕ) → level m < bound → v m ≡ w m) → v n ≡ w n
      by (inr source) lower = same n source
      by (inl (k, d, at, is)) lower =
          sym (ap v is) ∙ sv k d at
          ∙ sound.depends k d at v w (λ m reads. lower m (omega (arith, levelled k d at m reads, ap level is)))
          ∙ sym (sw k d at) ∙ ap w is

  pub one_settling : (content v w : Values) → IsSettling c content v → IsSettling c content w → (n : ℕ) → v n ≡ w n
  one_settling content v w sv sw n = below v w (λ m source. sv.sources m source ∙ sym (sw.sources m source)) sv.settled sw.settled (suc (level n)) n (omega arith)

  -- ---- at least one
  abbrev pick : (n : ℕ) → Drives c.drivers n ⊎ Undriven c.drivers n → Values → ℕ → ℕ
  pick n (inl (k, d, at, is)) before x = d.value before
  pick n (inr source) before x = x

  -- the values after so many rounds, in each of which all assignments are evaluated at once
  rounds : Values → ℕ → Values
  rounds content zero = content
  rounds content (suc k) = λ n. pick n (driven_or_not c.drivers n) (rounds content k) (content n)

  pick-same : (n x : ℕ) (s : Drives c.drivers n ⊎ Undriven c.drivers n) (v w : Values) → ((m : ℕ) → level m < level n → v m ≡ w m) → pick n s v x ≡ pick n s w x
  pick-same n x (inr source) v w same = refl
  pick-same n x (inl (k, d, at, is)) v w same = sound.depends k d at v w (λ m reads. same m (omega (arith, levelled k d at m reads, ap level is)))

  -- a round past its level gives a name nothing new
  stable : (content : Values) (i j n : ℕ) → level n < i → level n < j → rounds content i n ≡ rounds content j n
  unfolding rounds
  stable content zero j n lt le = absurd (omega arith)
  stable content (suc i) zero n lt le = absurd (omega arith)
  stable content (suc i) (suc j) n lt le =
      pick-same n (content n) (driven_or_not c.drivers n) (rounds content i) (rounds content j) (λ m less. stable content i j m (omega (arith, less)) (omega (arith, less)))

  pub settling : Values → Values
  settling content n = rounds content (suc (level n)) n

  pub is_settling : (content : Values) → IsSettling c content (settling content)
  unfolding settling rounds
  is_settling content = record {
    sources = λ n source. source_kept n source (driven_or_not c.drivers n);
    settled = λ k d at. value_kept k d at (driven_or_not c.drivers d.target);
  }
    where
      source_kept : (n : ℕ) → IsSource c n → (s : Drives c.drivers n ⊎ Undriven c.drivers n) → pick n s (rounds content (level n)) (content n) ≡ content n
      source_kept n source (inl (k, d, at, is)) = absurd (source k d at is)
      source_kept n source (inr none) = refl

      value_kept : (k : ℕ) (d : Driver) → slice_get c.drivers k ≡ Some d → (s : Drives c.drivers d.target ⊎ Undriven c.drivers d.target)
          → pick d.target s (rounds content (level d.target)) (content d.target) ≡ d.value (settling content)
      value_kept k d at (inr none) = absurd (none k d at refl)
      value_kept k d at (inl (i, e, found, is)) =
          let place : i ≡ k = sound.one_driver i k e d found at is in
          let same : e ≡ d = same_driver e d (sym found ∙ ap (slice_get c.drivers) place ∙ at) in
          ap (λ (x : Driver). x.value (rounds content (level d.target))) same
          ∙ sound.depends k d at (rounds content (level d.target)) (settling content)
          (λ m reads. stable content (level d.target) (suc (level m)) m (levelled k d at m reads) (omega arith))

-- each content has exactly one settling
pub exactly_one : (c : Circuit) → IsSound c → HasNoLoop c → (content : Values)
    → (v : Values) × IsSettling c content v × ((w : Values) → IsSettling c content w → (n : ℕ) → w n ≡ v n)
exactly_one c sound (level, levelled) content =
    let v = settling c sound level levelled content in
    let is = is_settling c sound level levelled content in
    (v, is, λ w sw n. one_settling c sound level levelled content w v sw is n)
