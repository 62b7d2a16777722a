-- How many places pass a test, and which of them has a number.
use Rattle.std.proofs.Common.{◌≡◌, ℕ, zero, suc, ◌+◌, ◌<◌, ◌≤◌, Bool, true, false, ◌&&◌, ◌⊎◌, inl, inr, refl, sym, ap, ◌∙◌, arith}
use Rattle.std.specs.Prelude.{◌==◌, if◌then◌else◌}
use Rattle.std.proofs.lemmas.Bool.{eqb-true, eqb-false}
use Rattle.event_order.specs.Drawn.{how_many, place_of}

both_true : (a b : Bool) → (a && b) ≡ true → (a ≡ true) × (b ≡ true)
both_true true b is = (refl, is)
both_true false b is = absurd (grind arith)

pub below_suc : (k n : ℕ) → k < suc n → (k < n) ⊎ (k ≡ n)
below_suc k n lt = by (k == n) refl
  where
    by : (b : Bool) → (k == n) ≡ b → (k < n) ⊎ (k ≡ n)
    by true e = inr (eqb-true k n e)
    by false e = let apart = eqb-false k n e in inl (omega (arith, lt, apart))

pub count_step : (t : ℕ → Bool) (n : ℕ) (b : Bool) → t n ≡ b → how_many t (suc n) ≡ how_many t n + (if b then 1 else 0)
count_step t n b is = ap (λ (x : Bool). how_many t n + (if x then 1 else 0)) is

pub count-most : (t : ℕ → Bool) (n : ℕ) → how_many t n ≤ n
count-most t zero = omega arith
count-most t (suc n) = by (t n) refl (count-most t n)
  where
    by : (b : Bool) → t n ≡ b → how_many t n ≤ n → how_many t (suc n) ≤ suc n
    by true is before = let e = count_step t n true is in omega (arith, e, before)
    by false is before = let e = count_step t n false is in omega (arith, e, before)

pub count-same : (s t : ℕ → Bool) (n : ℕ) → ((k : ℕ) → k < n → s k ≡ t k) → how_many s n ≡ how_many t n
count-same s t zero same = refl
count-same s t (suc n) same =
    ap (λ (x : ℕ). x + (if s n then 1 else 0)) (count-same s t n (λ k lt. same k (omega (arith, lt))))
    ∙ ap (λ (b : Bool). how_many t n + (if b then 1 else 0)) (same n (omega arith))

-- one place fewer passes
pub count-one : (s t : ℕ → Bool) (n p : ℕ) → p < n → s p ≡ false → t p ≡ true → ((k : ℕ) → k < n → (k ≡ p → ⊥) → s k ≡ t k) → how_many s n + 1 ≡ how_many t n
count-one s t zero p lt no_more was others = absurd (omega (arith, lt))
count-one s t (suc n) p lt no_more was others = by (below_suc p n lt) (λ less. count-one s t n p less no_more was (λ k below apart. others k (omega (arith, below)) apart))
  where
    by : (p < n) ⊎ (p ≡ n) → (p < n → how_many s n + 1 ≡ how_many t n) → how_many s (suc n) + 1 ≡ how_many t (suc n)
    by (inl less) rest =
        let before = rest less in
        let here = count_step s n (t n) (others n (omega arith) (λ e. omega (arith, less, e))) in
        let there = count_step t n (t n) refl in
        omega (arith, before, here, there)
    by (inr last) rest =
        let before = count-same s t n (λ k below. others k (omega (arith, below)) (λ e. omega (arith, below, e, last))) in
        let here = count_step s n false (ap s (sym last) ∙ no_more) in
        let there = count_step t n true (ap t (sym last) ∙ was) in
        omega (arith, before, here, there)

-- a place that passes is counted
pub count-more : (t : ℕ → Bool) (n k : ℕ) → k < n → t k ≡ true → how_many t k < how_many t n
count-more t zero k lt is = absurd (omega (arith, lt))
count-more t (suc n) k lt is = by (below_suc k n lt) (λ less. count-more t n k less is)
  where
    grows : (b : Bool) → t n ≡ b → how_many t n ≤ how_many t (suc n)
    grows true is_so = let e = count_step t n true is_so in omega (arith, e)
    grows false is_so = let e = count_step t n false is_so in omega (arith, e)

    by : (k < n) ⊎ (k ≡ n) → (k < n → how_many t k < how_many t n) → how_many t k < how_many t (suc n)
    by (inl less) rest = let before = rest less in let more = grows (t n) refl in omega (arith, before, more)
    by (inr last) rest =
        let e = count_step t n true (ap t (sym last) ∙ is) in
        let same = ap (how_many t) last in
        omega (arith, e, same)

pub count-none : (t : ℕ → Bool) (n : ℕ) → how_many t n ≡ 0 → (k : ℕ) → k < n → t k ≡ false
count-none t n is k lt = by (t k) refl
  where
    by : (b : Bool) → t k ≡ b → t k ≡ false
    by true e = absurd (let more = count-more t n k lt e in omega (arith, more, is))
    by false e = e

pub count-all : (t : ℕ → Bool) (n : ℕ) → ((k : ℕ) → k < n → t k ≡ true) → how_many t n ≡ n
count-all t zero all = refl
count-all t (suc n) all =
    let e = count_step t n true (all n (omega arith)) in
    let before = count-all t n (λ k lt. all k (omega (arith, lt))) in
    omega (arith, e, before)

pub count-empty : (t : ℕ → Bool) (n : ℕ) → ((k : ℕ) → k < n → t k ≡ false) → how_many t n ≡ 0
count-empty t zero none = refl
count-empty t (suc n) none =
    let e = count_step t n false (none n (omega arith)) in
    let before = count-empty t n (λ k lt. none k (omega (arith, lt))) in
    omega (arith, e, before)

-- some place passes, or none
pub some_or_none : (t : ℕ → Bool) (n : ℕ) → ((k : ℕ) × (k < n) × (t k ≡ true)) ⊎ ((k : ℕ) → k < n → t k ≡ false)
some_or_none t zero = inr (λ k lt. absurd (omega (arith, lt)))
some_or_none t (suc n) = by (t n) refl (some_or_none t n)
  where
    by : (b : Bool) → t n ≡ b → ((k : ℕ) × (k < n) × (t k ≡ true)) ⊎ ((k : ℕ) → k < n → t k ≡ false)
        → ((k : ℕ) × (k < suc n) × (t k ≡ true)) ⊎ ((k : ℕ) → k < suc n → t k ≡ false)
    by true is rest = inl (n, omega arith, is)
    by false is (inl (k, lt, so)) = inl (k, omega (arith, lt), so)
    by false is (inr none) = inr (λ k lt. last k (below_suc k n lt))
      where
        last : (k : ℕ) → (k < n) ⊎ (k ≡ n) → t k ≡ false
        last k (inl less) = none k less
        last k (inr same) = ap t same ∙ is

-- the place of a number passes, and has that number
pub record HasNumber (t : ℕ → Bool) (n number k : ℕ) : Type 0 where
  pub inside : k < n
  pub passes : t k ≡ true
  pub number_is : how_many t k ≡ number

pub place-found : (t : ℕ → Bool) (n number : ℕ) → number < how_many t n → HasNumber t n number (place_of t n number)
place-found t zero number lt = absurd (omega (arith, lt))
place-found t (suc n) number lt = by (t n && how_many t n == number) refl (place-found t n number)
  where
    not_here : (b : Bool) → t n ≡ b → (t n && how_many t n == number) ≡ false → number < how_many t n
    not_here true is fails =
        let e = count_step t n true is in
        let apart = eqb-false (how_many t n) number (sym (ap (λ (x : Bool). x && how_many t n == number) is) ∙ fails) in
        omega (arith, lt, e, apart)
    not_here false is fails = let e = count_step t n false is in omega (arith, lt, e)

    by : (b : Bool) → (t n && how_many t n == number) ≡ b → (number < how_many t n → HasNumber t n number (place_of t n number))
        → HasNumber t (suc n) number (if b then n else place_of t n number)
    by true is rest =
        let parts = both_true (t n) (how_many t n == number) is in
        record { inside = omega arith; passes = parts.0; number_is = eqb-true (how_many t n) number parts.1 }
    by false is rest =
        let found = rest (not_here (t n) refl is) in
        record { inside = omega (arith, found.inside); passes = found.passes; number_is = found.number_is }

unequal : (a b : ℕ) → (a ≡ b → ⊥) → (a < b) ⊎ (b < a)
unequal zero zero apart = absurd (apart refl)
unequal zero (suc b) apart = inl (omega arith)
unequal (suc a) zero apart = inr (omega arith)
unequal (suc a) (suc b) apart = by (unequal a b (λ e. apart (ap suc e)))
  where
    by : (a < b) ⊎ (b < a) → (suc a < suc b) ⊎ (suc b < suc a)
    by (inl less) = inl (omega (arith, less))
    by (inr more) = inr (omega (arith, more))

-- and it is the only one
pub place-only : (t : ℕ → Bool) (n number k : ℕ) → HasNumber t n number k → place_of t n number ≡ k
place-only t n number k has =
    let more = count-more t n k has.inside has.passes in
    let found = place-found t n number (omega (arith, more, has.number_is)) in
    by (place_of t n number) found
  where
    apart : (j : ℕ) → HasNumber t n number j → (j < k) ⊎ (k < j) → ⊥
    apart j found (inl less) = let up = count-more t k j less found.passes in omega (arith, up, found.number_is, has.number_is)
    apart j found (inr more) = let up = count-more t j k more has.passes in omega (arith, up, found.number_is, has.number_is)

    by : (j : ℕ) → HasNumber t n number j → j ≡ k
    by j found = either (j == k) refl
      where
        either : (b : Bool) → (j == k) ≡ b → j ≡ k
        either true e = eqb-true j k e
        either false e = absurd (apart j found (unequal j k (eqb-false j k e)))

-- tests that agree have the same place of a number
pub place-same : (s t : ℕ → Bool) (n number : ℕ) → ((k : ℕ) → k < n → s k ≡ t k) → place_of s n number ≡ place_of t n number
place-same s t zero number same = refl
place-same s t (suc n) number same =
    ap (λ (x : ℕ). if s n && how_many s n == number then n else x) (place-same s t n number (λ k lt. same k (omega (arith, lt))))
    ∙ ap (λ (b : Bool). if b && how_many s n == number then n else place_of t n number) (same n (omega arith))
    ∙ ap (λ (x : ℕ). if t n && x == number then n else place_of t n number) (count-same s t n (λ k lt. same k (omega (arith, lt))))
