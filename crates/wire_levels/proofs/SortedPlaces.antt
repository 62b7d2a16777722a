-- Assignments that are sorted by their levels, as places.
use Rattle.std.proofs.Common.{◌≡◌, ◌∙◌, ℕ, zero, suc, ◌+◌, ◌<◌, ◌≤◌, List, [], ◌∷◌, Some, length, map, get_or, slice_get, refl, sym, ap, arith, subst, inl, inr, ◌⊎◌}
use Rattle.std.specs.Prelude.{◌==◌, if◌then◌else◌, sum_by, All}
use Rattle.std.specs.Option.{option_map}
use Rattle.std.specs.List.{Contains}
use Rattle.std.specs.List.Sorted.{IsPermutation, IsNonDecreasingBy}
use Rattle.std.proofs.lemmas.Bool.{cases_eq, cases_lt, eq-eqb, ne_eqb}
use Rattle.std.proofs.lemmas.List.{length-map}
use Rattle.std.proofs.lemmas.List.Sorted.{All-permutation, Contains-permutation, sum_by-IsPermutation}
use Rattle.std.proofs.lemmas.List.Sums.{sum_by-cons}
use Rattle.std.proofs.lemmas.Option.{slice_get-map, slice_get-get_or, slice_get_within, get_or_from_slice_get}
use Rattle.verilog_tree.specs.declared.tree.Assign.{Assign}
use Rattle.verilog_tree.specs.declared.tree.Module.{Module}
use Rattle.verilog_tree.specs.Tree.{Assignment, Design}
use Rattle.verilog_tree.specs.View.{assignment_view, design_view}
use Rattle.verilog_tree.proofs.OneSettling.{mapped}
use Rattle.settle_order.proofs.Opened.{same_some}
use Rattle.wire_levels.specs.declared.order.Levelled.{Levelled}
use Rattle.wire_levels.specs.Levels.{IsByLevel}
use Rattle.wire_levels.specs.Placed.{levelled_from}

from_zero : (k : ℕ) → 0 + k ≡ k
from_zero k = omega arith

-- ---- what the list before the sort says

-- an entry is an assignment of the list and its level
record IsOf (all : List Assign) (level : ℕ → ℕ) (l : Levelled) : Type 0 where
  assign : Assign
  at : slice_get all l.place ≡ Some assign
  is : l.level ≡ level assign.target

are_of : (all : List Assign) (level : ℕ → ℕ) (s : ℕ) (rest : List Assign) → ((k : ℕ) (a : Assign) → slice_get rest k ≡ Some a → slice_get all (s + k) ≡ Some a)
    → All (λ l. IsOf all level l) (levelled_from level s rest)
are_of all level s [] inside k x lt = absurd (omega arith)
are_of all level s (a ∷ rest) inside zero x lt =
    let place : s ≡ s + 0 = omega arith in
    record { assign = a; at = ap (slice_get all) place ∙ inside 0 a refl; is = refl }
are_of all level s (a ∷ rest) inside (suc k) x lt = are_of all level (suc s) rest further k x (omega (arith, lt))
  where
    further : (j : ℕ) (b : Assign) → slice_get rest j ≡ Some b → slice_get all (suc s + j) ≡ Some b
    further j b at = let place : suc s + j ≡ s + suc j = omega arith in ap (slice_get all) place ∙ inside (suc j) b at

entry_at : (level : ℕ → ℕ) (s k : ℕ) (rest : List Assign) (a : Assign) → slice_get rest k ≡ Some a → slice_get (levelled_from level s rest) k ≡ Some (record { level = level a.target; place = s + k })
entry_at level s k [] a at = absurd (grind arith)
entry_at level s zero (b ∷ rest) a at =
    let same : b ≡ a = same_some b a at in
    let place : s ≡ s + 0 = omega arith in
    ap (λ (x : Assign). Some (let l : Levelled = record { level = level x.target; place = s } in l)) same ∙ ap (λ (p : ℕ). Some (let l : Levelled = record { level = level a.target; place = p } in l)) place
entry_at level s (suc k) (b ∷ rest) a at =
    let place : suc s + k ≡ s + suc k = omega arith in
    entry_at level (suc s) k rest a at ∙ ap (λ (p : ℕ). Some (let l : Levelled = record { level = level a.target; place = p } in l)) place

-- ---- no place stands twice

abbrev is_place : ℕ → Levelled → ℕ
is_place k l = if l.place == k then 1 else 0

is_there : (k : ℕ) (l : Levelled) → l.place ≡ k → is_place k l ≡ 1
is_there k l e = ap (λ b. if b then 1 else 0) (eq-eqb l.place k e)

not_there : (k : ℕ) (l : Levelled) → (l.place ≡ k → ⊥) → is_place k l ≡ 0
not_there k l apart = ap (λ b. if b then 1 else 0) (ne_eqb l.place k apart)

none_before : (level : ℕ → ℕ) (k s : ℕ) (rest : List Assign) → k < s → sum_by (is_place k) (levelled_from level s rest) ≡ 0
none_before level k s [] lt = refl
none_before level k s (a ∷ rest) lt =
    let first : Levelled = record { level = level a.target; place = s } in
    let here : is_place k first ≡ 0 = not_there k first (λ same. absurd (omega (arith, lt, same))) in
    let others = none_before level k (suc s) rest (omega (arith, lt)) in
    omega (arith, sum_by-cons (is_place k) first (levelled_from level (suc s) rest), here, others)

first_or_other : (level : ℕ → ℕ) (k s : ℕ) (a : Assign) (rest : List Assign) → (s ≡ k) ⊎ (s ≡ k → ⊥) → sum_by (is_place k) (levelled_from level (suc s) rest) ≤ 1
    → sum_by (is_place k) (levelled_from level s (a ∷ rest)) ≤ 1
first_or_other level k s a rest (inl same) few =
    let first : Levelled = record { level = level a.target; place = s } in
    let here : is_place k first ≡ 1 = is_there k first same in
    omega (arith, sum_by-cons (is_place k) first (levelled_from level (suc s) rest), here, none_before level k (suc s) rest (omega (arith, same)))
first_or_other level k s a rest (inr apart) few =
    let first : Levelled = record { level = level a.target; place = s } in
    let here : is_place k first ≡ 0 = not_there k first apart in
    omega (arith, sum_by-cons (is_place k) first (levelled_from level (suc s) rest), here, few)

once_at_most : (level : ℕ → ℕ) (k s : ℕ) (all : List Assign) → sum_by (is_place k) (levelled_from level s all) ≤ 1
once_at_most level k s [] = omega arith
once_at_most level k s (a ∷ rest) = first_or_other level k s a rest (cases_eq s k) (once_at_most level k (suc s) rest)

counted : (f : Levelled → ℕ) (xs : List Levelled) (j : ℕ) (y : Levelled) → slice_get xs j ≡ Some y → f y ≡ 1 → 1 ≤ sum_by f xs
counted f [] j y at one = absurd (grind arith)
counted f (x ∷ xs) zero y at one = let same : f x ≡ 1 = ap f (same_some x y at) ∙ one in omega (arith, sum_by-cons f x xs, same)
counted f (x ∷ xs) (suc j) y at one = omega (arith, sum_by-cons f x xs, counted f xs j y at one)

counted_twice : (f : Levelled → ℕ) (xs : List Levelled) (i j : ℕ) (x y : Levelled) → i < j → slice_get xs i ≡ Some x → slice_get xs j ≡ Some y → f x ≡ 1 → f y ≡ 1 → 2 ≤ sum_by f xs
counted_twice f [] i j x y lt at also one other = absurd (grind arith)
counted_twice f (z ∷ xs) i zero x y lt at also one other = absurd (omega (arith, lt))
counted_twice f (z ∷ xs) zero (suc j) x y lt at also one other =
    let same : f z ≡ 1 = ap f (same_some z x at) ∙ one in omega (arith, sum_by-cons f z xs, same, counted f xs j y also other)
counted_twice f (z ∷ xs) (suc i) (suc j) x y lt at also one other = omega (arith, sum_by-cons f z xs, counted_twice f xs i j x y (omega (arith, lt)) at also one other)

-- ---- after the sort

module _ (m : Module) (level : ℕ → ℕ) (sorted : List Levelled) (moved : IsPermutation (levelled_from level 0 m.assigns.items) sorted) (ascending : IsNonDecreasingBy (λ (l : Levelled). l.level) sorted) where
  abbrev made : List Levelled
  made = levelled_from level 0 m.assigns.items

  abbrev order : List ℕ
  order = map (λ (l : Levelled). l.place) sorted

  each : All (λ l. IsOf m.assigns.items level l) sorted
  each = All-permutation (λ l. IsOf m.assigns.items level l) made sorted moved (are_of m.assigns.items level 0 m.assigns.items (λ k a at. ap (slice_get m.assigns.items) (from_zero k) ∙ at))

  entry : (i : ℕ) (l : Levelled) → slice_get sorted i ≡ Some l → IsOf m.assigns.items level l
  entry i l at = subst (λ (x : Levelled). IsOf m.assigns.items level x) (get_or_from_slice_get sorted i l l at) (each i l (slice_get_within sorted i l at))

  placed : (i k : ℕ) → slice_get order i ≡ Some k → (l : Levelled) × (slice_get sorted i ≡ Some l) × (l.place ≡ k)
  placed i k at = mapped (λ (l : Levelled). l.place) sorted i k at

  apart : (i j k : ℕ) → i < j → slice_get order i ≡ Some k → slice_get order j ≡ Some k → ⊥
  apart i j k lt found also =
      let a = placed i k found in
      let b = placed j k also in
      let twice = counted_twice (is_place k) sorted i j a.0 b.0 lt a.1 b.1 (is_there k a.0 a.2) (is_there k b.0 b.2) in
      omega (arith, twice, sum_by-IsPermutation (is_place k) made sorted moved, once_at_most level k 0 m.assigns.items)

  once : (i j k : ℕ) → slice_get order i ≡ Some k → slice_get order j ≡ Some k → i ≡ j
  once i j k found also = by (cases_eq i j)
    where
      either : (i ≡ j → ⊥) → (i < j) ⊎ (j ≤ i) → i ≡ j
      either differ (inl lt) = absurd (apart i j k lt found also)
      either differ (inr le) = absurd (apart j i k (let other : j ≡ i → ⊥ = λ same. differ (sym same) in omega (arith, le, other)) also found)

      by : (i ≡ j) ⊎ (i ≡ j → ⊥) → i ≡ j
      by (inl same) = same
      by (inr differ) = either differ (cases_lt i j)

  -- the level of the assignment at a place
  levelled_at : (k : ℕ) (l : Levelled) (a : Assignment) → IsOf m.assigns.items level l → l.place ≡ k → slice_get (design_view m).assigns k ≡ Some a → l.level ≡ level a.target
  levelled_at k l a is here at =
      let raw = mapped assignment_view m.assigns.items k a at in
      let same : is.assign ≡ raw.0 = same_some is.assign raw.0 (sym is.at ∙ ap (slice_get m.assigns.items) here ∙ raw.1) in
      is.is ∙ ap (λ (b : Assign). level b.target) same ∙ ap (λ (b : Assignment). level b.target) raw.2

  pub sorted_by_level : IsByLevel (design_view m) level order
  sorted_by_level = record {
    within = λ i d lt.
        let l = placed i (get_or order i d) (slice_get-get_or order i d lt) in
        let is = entry i l.0 l.1 in
        let inside = slice_get_within m.assigns.items (l.0).place is.assign is.at in
        let many = length-map m.assigns.items assignment_view in
        omega (arith, inside, many, l.2);
    once = once;
    covers = λ k a at.
        let raw = mapped assignment_view m.assigns.items k a at in
        let l : Levelled = record { level = level (raw.0).target; place = 0 + k } in
        let there = entry_at level 0 k m.assigns.items raw.0 raw.1 in
        let before : Contains made l = (k, slice_get_within made k l there, get_or_from_slice_get made k l l there) in
        let found = Contains-permutation made sorted l moved before in
        (found.0, slice_get-map (λ (x : Levelled). x.place) sorted found.0 ∙ ap (λ o. option_map (λ (x : Levelled). x.place) o) (slice_get-get_or sorted found.0 l found.1 ∙ ap Some found.2) ∙ ap Some (from_zero k));
    rises = λ i j k n a b le found also at_a at_b.
        let x = placed i k found in
        let y = placed j n also in
        let low = levelled_at k x.0 a (entry i x.0 x.1) x.2 at_a in
        let high = levelled_at n y.0 b (entry j y.0 y.1) y.2 at_b in
        let first = get_or_from_slice_get sorted i x.0 x.0 x.1 in
        let second = get_or_from_slice_get sorted j y.0 x.0 y.1 in
        let up = ascending i j x.0 le (slice_get_within sorted j y.0 y.1) in
        omega (arith, up, low, high, ap (λ (l : Levelled). l.level) first, ap (λ (l : Levelled). l.level) second);
  }
