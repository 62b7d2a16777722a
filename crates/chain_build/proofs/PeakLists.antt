-- The peaks of registers, and the sums that they are of.
use Rattle.std.proofs.Common.{◌≡◌, ◌∙◌, ℕ, zero, suc, ◌+◌, ◌≤◌, refl, sym, ap, subst, arith, Bool, true, false, cond, if◌then◌else◌, nat_eq, List, [], ◌∷◌, ◌++◌, length, map, Option, Some, None, slice_get, inl, inr}
use Rattle.std.proofs.lemmas.Option.{slice_get-map}
use Rattle.std.specs.Option.{option_map}
use Rattle.net_graph.specs.declared.cell.Cell.{Cell}
use Rattle.pipeline_balance.specs.Numbered.{name_of}
use Rattle.fir_pieces.proofs.WidthsLemmas.{slice_get-append_right}
use Rattle.stage_law.specs.Least.{named_peak}
use Rattle.stage_law.specs.Registers.{HeldSum, StageRegister, Telling, NamedPeak, bits_for, bits_of, needing, needs_high, peak_at, peak_of, peaks_of}
use Rattle.stage_law.specs.declared.stage.Peak.{Peak}
use Rattle.chain_build.specs.declared.extremes.LinearPeak.{LinearPeak}
use Rattle.chain_build.specs.Peaks.{AreKept}
use Rattle.chain_build.proofs.RegistersSoFar.{parted}

-- ---- the sum that needs a register's width

pub needing-bits : (range : Telling) (bits : ℕ) (sums : List HeldSum) (s : HeldSum) → needing range bits sums ≡ Some s → bits_for (range s.form s.class) ≡ bits
needing-bits range bits [] s is = absurd (cc)
needing-bits range bits (h ∷ sums) s is = by (nat_eq (bits_for (range h.form h.class)) bits) refl is (needing-bits range bits sums s)
  where
    by : (b : Bool) → nat_eq (bits_for (range h.form h.class)) bits ≡ b → cond b (Some h) (needing range bits sums) ≡ Some s → (needing range bits sums ≡ Some s → bits_for (range s.form s.class) ≡ bits) → bits_for (range s.form s.class) ≡ bits
    by true same e rest = let own : h ≡ s = cc in subst (λ (z : HeldSum). bits_for (range z.form z.class) ≡ bits) own (grind (arith, same))
    by false same e rest = rest e

pub bits-some : (range : Telling) (sums : List HeldSum) → 1 ≤ bits_of range sums
bits-some range [] = omega arith
bits-some range (s ∷ sums) = let rest = bits-some range sums in omega (arith, rest)

-- the sum of a register that needs its width, where one bit is too few
abbrev pub needed_of : Telling → StageRegister → Option HeldSum
needed_of range r = let bits = bits_of range r.sums in if nat_eq bits 1 then None else needing range bits r.sums

pub needed-more : (range : Telling) (r : StageRegister) (s : HeldSum) → needed_of range r ≡ Some s → (2 ≤ bits_of range r.sums) × (bits_for (range s.form s.class) ≡ bits_of range r.sums)
needed-more range r s is = by (nat_eq (bits_of range r.sums) 1) refl is
  where
    by : (b : Bool) → nat_eq (bits_of range r.sums) 1 ≡ b → cond b None (needing range (bits_of range r.sums) r.sums) ≡ Some s → (2 ≤ bits_of range r.sums) × (bits_for (range s.form s.class) ≡ bits_of range r.sums)
    by true same e = absurd (cc)
    by false same e = (let some = bits-some range r.sums in grind (arith, same, some), needing-bits range (bits_of range r.sums) r.sums s e)

-- ---- the peaks of a list

abbrev pub peak_for : Telling → ℕ → StageRegister → HeldSum → NamedPeak
peak_for range group r s = record { name = Some (name_of group r.kind r.number); sum = s; high = needs_high (range s.form s.class) (bits_of range r.sums) }

one-each : (range : Telling) (group : ℕ) (r : StageRegister) (s : HeldSum) → needed_of range r ≡ Some s → peak_of range group r ≡ peak_for range group r s ∷ []
one-each range group r s is = by (nat_eq (bits_of range r.sums) 1) (needing range (bits_of range r.sums) r.sums) is
  where
    by : (b : Bool) (o : Option HeldSum) → cond b None o ≡ Some s → cond b [] (peak_at range (name_of group r.kind r.number) (bits_of range r.sums) o) ≡ peak_for range group r s ∷ []
    by true o e = absurd (cc)
    by false None e = absurd (cc)
    by false (Some t) e = let same : t ≡ s = cc in ap (λ (z : HeldSum). peak_for range group r z ∷ []) same

one-none : (range : Telling) (group : ℕ) (r : StageRegister) → needed_of range r ≡ None → peak_of range group r ≡ []
one-none range group r is = by (nat_eq (bits_of range r.sums) 1) (needing range (bits_of range r.sums) r.sums) is
  where
    by : (b : Bool) (o : Option HeldSum) → cond b None o ≡ None → cond b [] (peak_at range (name_of group r.kind r.number) (bits_of range r.sums) o) ≡ []
    by true o e = refl
    by false None e = refl
    by false (Some t) e = absurd (cc)

pub record IsListedPeak (range : Telling) (group : ℕ) (registers : List StageRegister) (r : StageRegister) (s : HeldSum) : Type 0 where
  pub place : ℕ
  pub there : slice_get (peaks_of range group registers) place ≡ Some (peak_for range group r s)

pub listed-each : (range : Telling) (group : ℕ) (registers : List StageRegister) (i : ℕ) (r : StageRegister) (s : HeldSum) → slice_get registers i ≡ Some r → needed_of range r ≡ Some s → IsListedPeak range group registers r s
listed-each range group [] i r s there needed = absurd (cc)
listed-each range group (q ∷ registers) zero r s there needed =
    let same : q ≡ r = cc in
    let first = one-each range group q s (ap (needed_of range) same ∙ needed) in
    record {
      place = 0;
      there = ap (λ (ps : List NamedPeak). slice_get (ps ++ peaks_of range group registers) 0) first ∙ ap (λ (z : StageRegister). Some (peak_for range group z s)) same;
    }
listed-each range group (q ∷ registers) (suc i) r s there needed =
    let rest = listed-each range group registers i r s there needed in
    record { place = length (peak_of range group q) + rest.place; there = slice_get-append_right (peak_of range group q) (peaks_of range group registers) rest.place ∙ rest.there }

pub record IsPeakOfListed (range : Telling) (group : ℕ) (registers : List StageRegister) (peak : NamedPeak) : Type 0 where
  pub place : ℕ
  pub r : StageRegister
  pub s : HeldSum
  pub there : slice_get registers place ≡ Some r
  pub needed : needed_of range r ≡ Some s
  pub is : peak_for range group r s ≡ peak

pub listed-only : (range : Telling) (group : ℕ) (registers : List StageRegister) (j : ℕ) (peak : NamedPeak) → slice_get (peaks_of range group registers) j ≡ Some peak → IsPeakOfListed range group registers peak
listed-only range group [] j peak is = absurd (cc)
listed-only range group (q ∷ registers) j peak is = elim (parted (peak_of range group q) (peaks_of range group registers) j peak is) [
  | inl here ↦ own (needed_of range q) refl here
  | inr later ↦ let rest = listed-only range group registers later.0 peak later.1 in record { place = suc rest.place; r = rest.r; s = rest.s; there = rest.there; needed = rest.needed; is = rest.is }
]
  where
    at_first : (k : ℕ) (x : NamedPeak) → slice_get (x ∷ []) k ≡ Some peak → x ≡ peak
    at_first zero x e = cc
    at_first (suc k) x e = absurd (cc)

    own : (o : Option HeldSum) → needed_of range q ≡ o → slice_get (peak_of range group q) j ≡ Some peak → IsPeakOfListed range group (q ∷ registers) peak
    own None e here = absurd (let none : slice_get [] j ≡ Some peak = ap (λ (ps : List NamedPeak). slice_get ps j) (sym (one-none range group q e)) ∙ here in cc)
    own (Some s) e here = record { place = 0; r = q; s = s; there = refl; needed = e; is = at_first j (peak_for range group q s) (ap (λ (ps : List NamedPeak). slice_get ps j) (sym (one-each range group q s e)) ∙ here) }

-- ---- what is kept, peak by peak

pub record IsKeptAt (is : Peak → LinearPeak → Type 0) (kept : List LinearPeak) (place : ℕ) (peak : Peak) : Type 0 where
  pub own : LinearPeak
  pub there : slice_get kept place ≡ Some own
  pub holds : is peak own

pub kept-each : (is : Peak → LinearPeak → Type 0) (peaks : List Peak) (kept : List LinearPeak) (j : ℕ) (peak : Peak) → AreKept is peaks kept → slice_get peaks j ≡ Some peak → IsKeptAt is kept j peak
kept-each is [] kept j peak h there = absurd (cc)
kept-each is (p ∷ peaks) [] j peak h there = absurd h
kept-each is (p ∷ peaks) (k ∷ kept) zero peak h there = let same : p ≡ peak = cc in record { own = k; there = refl; holds = subst (λ (z : Peak). is z k) same h.0 }
kept-each is (p ∷ peaks) (k ∷ kept) (suc j) peak h there = let rest = kept-each is peaks kept j peak h.1 there in record { own = rest.own; there = rest.there; holds = rest.holds }

pub record IsOfPeak (is : Peak → LinearPeak → Type 0) (peaks : List Peak) (place : ℕ) (own : LinearPeak) : Type 0 where
  pub peak : Peak
  pub there : slice_get peaks place ≡ Some peak
  pub holds : is peak own

pub kept-only : (is : Peak → LinearPeak → Type 0) (peaks : List Peak) (kept : List LinearPeak) (j : ℕ) (own : LinearPeak) → AreKept is peaks kept → slice_get kept j ≡ Some own → IsOfPeak is peaks j own
kept-only is peaks [] j own h there = absurd (cc)
kept-only is [] (k ∷ kept) j own h there = absurd h
kept-only is (p ∷ peaks) (k ∷ kept) zero own h there = let same : k ≡ own = cc in record { peak = p; there = refl; holds = subst (λ (z : LinearPeak). is p z) same h.0 }
kept-only is (p ∷ peaks) (k ∷ kept) (suc j) own h there = let rest = kept-only is peaks kept j own h.1 there in record { peak = rest.peak; there = rest.there; holds = rest.holds }

pub kept-push : (is : Peak → LinearPeak → Type 0) (peaks : List Peak) (kept : List LinearPeak) (peak : Peak) (own : LinearPeak) → AreKept is peaks kept → is peak own → AreKept is (peaks ++ peak ∷ []) (kept ++ own ∷ [])
kept-push is [] [] peak own h k = (k, tt)
kept-push is [] (x ∷ kept) peak own h k = absurd h
kept-push is (p ∷ peaks) [] peak own h k = absurd h
kept-push is (p ∷ peaks) (x ∷ kept) peak own h k = (h.0, kept-push is peaks kept peak own h.1 k)

pub kept-weaker : (P Q : Peak → LinearPeak → Type 0) (peaks : List Peak) (kept : List LinearPeak) → ((j : ℕ) (p : Peak) (k : LinearPeak) → slice_get peaks j ≡ Some p → P p k → Q p k) → AreKept P peaks kept → AreKept Q peaks kept
kept-weaker P Q [] [] f h = tt
kept-weaker P Q [] (k ∷ kept) f h = absurd h
kept-weaker P Q (p ∷ peaks) [] f h = absurd h
kept-weaker P Q (p ∷ peaks) (k ∷ kept) f h = (f 0 p k refl h.0, kept-weaker P Q peaks kept (λ j. f (suc j)) h.1)

-- a peak of the list, as it is named
pub named-there : (cells : List Cell) (peaks : List Peak) (j : ℕ) (peak : Peak) → slice_get peaks j ≡ Some peak → slice_get (map (named_peak cells) peaks) j ≡ Some (named_peak cells peak)
named-there cells peaks j peak there = slice_get-map (named_peak cells) peaks j ∙ ap (option_map (named_peak cells)) there
