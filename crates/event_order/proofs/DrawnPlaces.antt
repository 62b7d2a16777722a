-- Steps that are drawn one after the other: each may come next, and in the end all that have to come were taken.
use Rattle.std.proofs.Common.{◌≡◌, ℕ, zero, suc, ◌+◌, ◌<◌, ◌≤◌, ◌%◌, Bool, true, false, not, ◌&&◌, ◌||◌, List, [], ◌∷◌, ◌++◌, ◌⊎◌, inl, inr, refl, sym, ap, ◌∙◌, arith}
use Rattle.std.specs.Prelude.{◌==◌}
use Rattle.std.proofs.Math.Nat.{mod-lt}
use Rattle.std.proofs.lemmas.Bool.{eqb-true, eq-eqb, ne_eqb}
use Rattle.std.proofs.lemmas.List.Folds.{list_any-append}
use Rattle.draws.specs.Draw.{drawn}
use Rattle.event_order.specs.Drawn.{state_after, how_many, Kind, drawn_place, drawn_places, is_taken}
use Rattle.event_order.proofs.Counting.{count-same, count-one, count-more, count-none, count-empty, some_or_none, HasNumber, place-found}

-- ---- what was taken

taken_more : (taken : List ℕ) (p k : ℕ) (b : Bool) → (p == k) ≡ b → is_taken (taken ++ p ∷ []) k ≡ (is_taken taken k || b)
taken_more taken p k b is = list_any-append (λ j. j == k) taken (p ∷ []) ∙ ap (λ (x : Bool). is_taken taken k || x) (ap (λ (x : Bool). x || false) is ∙ plain b)
  where
    plain : (x : Bool) → (x || false) ≡ x
    plain true = refl
    plain false = refl

or_true : (a : Bool) → (a || true) ≡ true
or_true true = refl
or_true false = refl

or_false : (a : Bool) → (a || false) ≡ a
or_false true = refl
or_false false = refl

pub taken-new : (taken : List ℕ) (p : ℕ) → is_taken (taken ++ p ∷ []) p ≡ true
taken-new taken p = taken_more taken p p true (eq-eqb p p refl) ∙ or_true (is_taken taken p)

pub taken-other : (taken : List ℕ) (p k : ℕ) → (k ≡ p → ⊥) → is_taken (taken ++ p ∷ []) k ≡ is_taken taken k
taken-other taken p k apart = taken_more taken p k false (ne_eqb p k (λ e. apart (sym e))) ∙ or_false (is_taken taken k)

pub taken-kept : (taken : List ℕ) (p k : ℕ) → is_taken taken k ≡ true → is_taken (taken ++ p ∷ []) k ≡ true
taken-kept taken p k is = taken_more taken p k (p == k) refl ∙ ap (λ (b : Bool). b || (p == k)) is

pub taken-either : (taken : List ℕ) (p k : ℕ) → is_taken (taken ++ p ∷ []) k ≡ true → (is_taken taken k ≡ true) ⊎ (k ≡ p)
taken-either taken p k is = by (p == k) refl
  where
    by : (b : Bool) → (p == k) ≡ b → (is_taken taken k ≡ true) ⊎ (k ≡ p)
    by true e = inr (sym (eqb-true p k e))
    by false e = inl (sym (taken_more taken p k false e ∙ or_false (is_taken taken k)) ∙ is)

-- ---- one draw

pub one-drawn : (kind : Kind) (taken : List ℕ) (state : ℕ) → 0 < how_many (kind.may taken) kind.count
    → HasNumber (kind.may taken) kind.count (drawn state % how_many (kind.may taken) kind.count) (drawn_place kind taken state)
one-drawn kind taken state some = place-found (kind.may taken) kind.count (drawn state % how_many (kind.may taken) kind.count) (mod-lt (drawn state) some)

-- ---- all draws

-- whether a step that has to come was not taken
abbrev is_left : (ℕ → Bool) → List ℕ → ℕ → Bool
is_left due taken k = not (is_taken taken k) && due k

-- the steps that may come next are some of those that are left, and at least one as long as one is left
pub record Proceeds (kind : Kind) (due : ℕ → Bool) : Type 0 where
  pub only : (taken : List ℕ) (k : ℕ) → kind.may taken k ≡ true → (is_taken taken k ≡ false) × (due k ≡ true)
  pub goes : (taken : List ℕ) (k : ℕ) → k < kind.count → is_taken taken k ≡ false → due k ≡ true → (j : ℕ) × (j < kind.count) × (kind.may taken j ≡ true)

left_parts : (taken : List ℕ) (due : ℕ → Bool) (k : ℕ) → is_left due taken k ≡ true → (is_taken taken k ≡ false) × (due k ≡ true)
left_parts taken due k is = by (is_taken taken k) refl is
  where
    by : (b : Bool) → is_taken taken k ≡ b → (not b && due k) ≡ true → (is_taken taken k ≡ false) × (due k ≡ true)
    by true e holds = absurd (grind arith)
    by false e holds = (e, holds)

module _ (kind : Kind) (due : ℕ → Bool) (proceeds : Proceeds kind due) where
  abbrev Left : List ℕ → ℕ
  Left taken = how_many (is_left due taken) kind.count

  pub some_may : (taken : List ℕ) → 0 < Left taken → 0 < how_many (kind.may taken) kind.count
  some_may taken some = by (some_or_none (is_left due taken) kind.count)
    where
      by : ((k : ℕ) × (k < kind.count) × (is_left due taken k ≡ true)) ⊎ ((k : ℕ) → k < kind.count → is_left due taken k ≡ false) → 0 < how_many (kind.may taken) kind.count
      by (inl (k, lt, is)) =
          let parts = left_parts taken due k is in
          let next = proceeds.goes taken k lt parts.0 parts.1 in
          let more = count-more (kind.may taken) kind.count next.0 next.1 next.2 in
          omega (arith, more)
      by (inr none) = absurd (let e = count-empty (is_left due taken) kind.count none in omega (arith, e, some))

  one_less : (taken : List ℕ) (p : ℕ) → p < kind.count → kind.may taken p ≡ true → Left (taken ++ p ∷ []) + 1 ≡ Left taken
  one_less taken p lt may =
      let parts = proceeds.only taken p may in
      count-one (is_left due (taken ++ p ∷ [])) (is_left due taken) kind.count p lt
      (ap (λ (b : Bool). not b && due p) (taken-new taken p))
      (ap (λ (b : Bool). not b && due p) parts.0 ∙ parts.1)
      (λ k below apart. ap (λ (b : Bool). not b && due k) (taken-other taken p k apart))

  -- of those that have to come so many are left
  pub left_after : (state draws : ℕ) → draws ≤ how_many due kind.count → Left (drawn_places kind state draws) + draws ≡ how_many due kind.count
  left_after state zero le = let same = count-same (is_left due []) due kind.count (λ k lt. refl) in omega (arith, same)
  left_after state (suc draws) le =
      let taken = drawn_places kind state draws in
      let before = left_after state draws (omega (arith, le)) in
      let found = one-drawn kind taken (state_after state draws) (some_may taken (omega (arith, before, le))) in
      let less = one_less taken (drawn_place kind taken (state_after state draws)) found.inside found.passes in
      omega (arith, before, less)

  -- each that is drawn may come next
  pub drawn_next : (state draws : ℕ) → draws < how_many due kind.count
      → HasNumber (kind.may (drawn_places kind state draws)) kind.count
      (drawn (state_after state draws) % how_many (kind.may (drawn_places kind state draws)) kind.count)
      (drawn_place kind (drawn_places kind state draws) (state_after state draws))
  drawn_next state draws lt =
      let before = left_after state draws (omega (arith, lt)) in
      one-drawn kind (drawn_places kind state draws) (state_after state draws) (some_may (drawn_places kind state draws) (omega (arith, before, lt)))

  -- in the end all that have to come were taken
  pub all_taken : (state k : ℕ) → k < kind.count → due k ≡ true → is_taken (drawn_places kind state (how_many due kind.count)) k ≡ true
  all_taken state k lt is =
      let before = left_after state (how_many due kind.count) (omega arith) in
      by (is_taken (drawn_places kind state (how_many due kind.count)) k) refl
      (count-none (is_left due (drawn_places kind state (how_many due kind.count))) kind.count (omega (arith, before)) k lt)
    where
      by : (b : Bool) → is_taken (drawn_places kind state (how_many due kind.count)) k ≡ b → is_left due (drawn_places kind state (how_many due kind.count)) k ≡ false
          → is_taken (drawn_places kind state (how_many due kind.count)) k ≡ true
      by true e none = e
      by false e none = absurd (clash (sym (ap (λ (b : Bool). not b && due k) e ∙ is) ∙ none))
        where
          clash : true ≡ false → ⊥
          clash same = grind arith
