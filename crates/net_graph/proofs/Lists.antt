-- Elements of lists that grow or are written, by `slice_get`.
use Rattle.std.proofs.Common.{◌≡◌, ◌≢◌, ℕ, zero, suc, ◌<◌, List, [], ◌∷◌, ◌++◌, length, refl, ap, arith, Some, slice_get, set, ◌⊎◌, inl, inr}

pub slice_get-append_left : {X : Type 0} (xs ys : List X) (k : ℕ) (x : X) → slice_get xs k ≡ Some x → slice_get (xs ++ ys) k ≡ Some x
slice_get-append_left [] ys k x e = absurd (cc)
slice_get-append_left (y ∷ xs) ys zero x e = e
slice_get-append_left (y ∷ xs) ys (suc k) x e = slice_get-append_left xs ys k x e

pub slice_get_push : {X : Type 0} (xs : List X) (y : X) (k : ℕ) → k ≡ length xs → slice_get (xs ++ y ∷ []) k ≡ Some y
slice_get_push [] y zero e = refl
slice_get_push [] y (suc k) e = absurd (omega arith)
slice_get_push (x ∷ xs) y zero e = absurd (omega arith)
slice_get_push (x ∷ xs) y (suc k) e = slice_get_push xs y k (omega arith)

-- an element of a list with one more is one of the list, or the last
pub slice_get_push_cases : {X : Type 0} (xs : List X) (y : X) (k : ℕ) (x : X) → slice_get (xs ++ y ∷ []) k ≡ Some x → (slice_get xs k ≡ Some x) ⊎ ((k ≡ length xs) × (x ≡ y))
slice_get_push_cases [] y zero x e = inr (refl, cc)
slice_get_push_cases [] y (suc k) x e = absurd (cc)
slice_get_push_cases (z ∷ xs) y zero x e = inl e
slice_get_push_cases (z ∷ xs) y (suc k) x e =
    elim (slice_get_push_cases xs y k x e) [ inl h ↦ inl h | inr h ↦ inr (ap suc h.0, h.1) ]

-- the element that is written, and the others
pub slice_get-set_same : {X : Type 0} (xs : List X) (i : ℕ) (y : X) → i < length xs → slice_get (set xs i y) i ≡ Some y
slice_get-set_same [] i y h = absurd (omega arith)
slice_get-set_same (x ∷ xs) zero y h = refl
slice_get-set_same (x ∷ xs) (suc i) y h = slice_get-set_same xs i y (omega arith)

pub slice_get-set_other : {X : Type 0} (xs : List X) (i k : ℕ) (y : X) → k ≢ i → slice_get (set xs i y) k ≡ slice_get xs k
slice_get-set_other [] i k y h = refl
slice_get-set_other (x ∷ xs) zero zero y h = absurd (h refl)
slice_get-set_other (x ∷ xs) zero (suc k) y h = refl
slice_get-set_other (x ∷ xs) (suc i) zero y h = refl
slice_get-set_other (x ∷ xs) (suc i) (suc k) y h = slice_get-set_other xs i k y (λ e. h (ap suc e))

-- the last element is written
pub set_push : {X : Type 0} (xs : List X) (i : ℕ) (x y : X) → i ≡ length xs → set (xs ++ x ∷ []) i y ≡ xs ++ y ∷ []
set_push [] zero x y e = refl
set_push [] (suc i) x y e = absurd (omega arith)
set_push (z ∷ xs) zero x y e = absurd (omega arith)
set_push (z ∷ xs) (suc i) x y e = ap (λ (ys : List _). z ∷ ys) (set_push xs i x y (omega arith))
