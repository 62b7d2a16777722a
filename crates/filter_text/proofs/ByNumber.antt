-- A list of what is told of registers, written one by one.
use Rattle.std.proofs.Common.{◌≡◌, ◌⊎◌, inl, inr, ℕ, zero, suc, ◌+◌, ◌<◌, ◌≤◌, List, length, get_or, set, replicate, Option, None, Some, slice_get, refl, sym, ◌∙◌, ap, arith}
use Rattle.std.proofs.lemmas.Bool.{cases_lt, cases_eq}
use Rattle.std.proofs.lemmas.List.{length-set}
use Rattle.std.proofs.lemmas.Option.{slice_get_within, slice_get-get_or}
use Rattle.net_graph.proofs.Lists.{slice_get-set_same, slice_get-set_other}
use Rattle.chain_build.specs.declared.extremes.RegisterExtreme.{RegisterExtreme}
use Rattle.filter_text.specs.Extremes.{IsToldOf, TellsByNumber}

-- what is told of the first so many registers is written
pub record AreWritten (told : List RegisterExtreme) (names count : ℕ) (extremes : List (Option RegisterExtreme)) : Type 0 where
  pub many : length extremes ≡ names
  pub each : (j : ℕ) (t : RegisterExtreme) → j < count → slice_get told j ≡ Some t → (e : RegisterExtreme) × (slice_get extremes (t.register.place + 6) ≡ Some (Some e))
  pub only : (number : ℕ) (e : RegisterExtreme) → slice_get extremes number ≡ Some (Some e) → IsToldOf told number e

-- ---- at first

abbrev nothing : Option RegisterExtreme
nothing = None

none_there : (names number : ℕ) (e : RegisterExtreme) → slice_get (replicate names nothing) number ≡ Some (Some e) → ⊥
none_there zero number e is = cc
none_there (suc names) zero e is = cc
none_there (suc names) (suc number) e is = none_there names number e is

as_many : {A : Type 0} (x : A) (count : ℕ) → length (replicate count x) ≡ count
as_many x zero = refl
as_many x (suc count) = ap suc (as_many x count)

pub written_first : (told : List RegisterExtreme) (names : ℕ) → AreWritten told names 0 (replicate names None)
written_first told names = record {
  many = as_many nothing names;
  each = λ j t less at. absurd (omega arith);
  only = λ number e is. absurd (none_there names number e is);
}

-- ---- one more

one_told : (j : ℕ) (t u : RegisterExtreme) (told : List RegisterExtreme) → slice_get told j ≡ Some t → slice_get told j ≡ Some u → t ≡ u
one_told j t u told first second = cc

one_extreme : (x y : RegisterExtreme) → Some (Some x) ≡ Some (Some y) → x ≡ y
one_extreme x y e = cc

module _ (told : List RegisterExtreme) (names count : ℕ) (extremes : List (Option RegisterExtreme)) (next : RegisterExtreme) (there : slice_get told count ≡ Some next) (inside : next.register.place + 6 < names) (so_far : AreWritten told names count extremes) where
  abbrev here : ℕ
  here = next.register.place + 6

  abbrev extreme : RegisterExtreme
  extreme = next

  abbrev after : List (Option RegisterExtreme)
  after = set extremes here (Some extreme)

  here_is : slice_get after here ≡ Some (Some extreme)
  here_is = slice_get-set_same extremes here (Some extreme) (omega (arith, inside, so_far.many))

  -- a number has still something, where it had
  still : (number : ℕ) (e : RegisterExtreme) → slice_get extremes number ≡ Some (Some e) → (f : RegisterExtreme) × (slice_get after number ≡ Some (Some f))
  still number e is = by (cases_eq number here)
    where
      by : (number ≡ here) ⊎ (number ≡ here → ⊥) → (f : RegisterExtreme) × (slice_get after number ≡ Some (Some f))
      by (inl same) = (extreme, ap (slice_get after) same ∙ here_is)
      by (inr other) = (e, slice_get-set_other extremes here number (Some extreme) other ∙ is)

  each_next : (j : ℕ) (t : RegisterExtreme) → j < count + 1 → slice_get told j ≡ Some t → (e : RegisterExtreme) × (slice_get after (t.register.place + 6) ≡ Some (Some e))
  each_next j t less at = by (cases_lt j count)
    where
      by : (j < count) ⊎ (count ≤ j) → (e : RegisterExtreme) × (slice_get after (t.register.place + 6) ≡ Some (Some e))
      by (inl earlier) = let its = so_far.each j t earlier at in still (t.register.place + 6) its.0 its.1
      by (inr last) =
          let same : j ≡ count = omega (arith, less, last) in
          let one : next ≡ t = one_told count next t told there (ap (slice_get told) (sym same) ∙ at) in
          (extreme, ap (λ (u : RegisterExtreme). slice_get after (u.register.place + 6)) (sym one) ∙ here_is)

  only_next : (number : ℕ) (e : RegisterExtreme) → slice_get after number ≡ Some (Some e) → IsToldOf told number e
  only_next number e is = by (cases_eq number here)
    where
      by : (number ≡ here) ⊎ (number ≡ here → ⊥) → IsToldOf told number e
      by (inl same) =
          let one : extreme ≡ e = one_extreme extreme e (sym here_is ∙ ap (slice_get after) (sym same) ∙ is) in
          record { j = count; there = there ∙ ap (λ (x : RegisterExtreme). Some x) one; own = sym (ap (λ (x : RegisterExtreme). x.register.place + 6) one) ∙ sym same }
      by (inr other) = so_far.only number e (sym (slice_get-set_other extremes here number (Some extreme) other) ∙ is)

  pub written_next : AreWritten told names (count + 1) after
  written_next = record { many = length-set extremes here (Some extreme) ∙ so_far.many; each = each_next; only = only_next }

-- the element that a turn reads
pub written_turn : (told : List RegisterExtreme) (names count : ℕ) (extremes : List (Option RegisterExtreme)) (blank : RegisterExtreme) → ((j : ℕ) (t : RegisterExtreme) → slice_get told j ≡ Some t → t.register.place + 6 < names)
    → count < length told → AreWritten told names count extremes
    → AreWritten told names (count + 1) (set extremes ((get_or told count blank).register.place + 6) (Some (get_or told count blank)))
written_turn told names count extremes blank inside less so_far =
    let there = slice_get-get_or told count blank less in
    written_next told names count extremes (get_or told count blank) there (inside count (get_or told count blank) there) so_far

-- ---- all

pub all_written : (told : List RegisterExtreme) (names count : ℕ) (extremes : List (Option RegisterExtreme)) → length told ≤ count → AreWritten told names count extremes → TellsByNumber told extremes
all_written told names count extremes all w = record {
  each = λ j t at. w.each j t (let less = slice_get_within told j t at in omega (arith, less, all)) at;
  only = w.only;
}
