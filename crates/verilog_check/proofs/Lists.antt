-- Loops over lists: what is left, and searches for a first element.
use Rattle.std.proofs.Common.{◌≡◌, ℕ, zero, suc, ◌+◌, ◌<◌, ◌≤◌, Bool, true, false, cond, List, [], ◌∷◌, length, get_or, drop, refl, sym, ap, add-one, arith}

pub drop_all : {A : Type 0} (xs : List A) (k : ℕ) → length xs ≤ k → drop k xs ≡ []
drop_all [] zero le = refl
drop_all [] (suc k) le = refl
drop_all (x ∷ xs) zero le = absurd (omega (arith, le))
drop_all (x ∷ xs) (suc k) le = drop_all xs k (omega (arith, le))

drop_suc : {A : Type 0} (xs : List A) (k : ℕ) (x : A) → k < length xs → x ≡ get_or xs k x → drop k xs ≡ x ∷ drop (suc k) xs
drop_suc [] k x lt is = absurd (omega (arith, lt))
drop_suc (y ∷ xs) zero x lt is = ap (λ z. z ∷ xs) (sym is)
drop_suc (y ∷ xs) (suc k) x lt is = drop_suc xs k x (omega (arith, lt)) is

-- the element of a turn, and those behind it
pub drop_next : {A : Type 0} (xs : List A) (k : ℕ) (x : A) → k < length xs → x ≡ get_or xs k x → drop k xs ≡ x ∷ drop (k + 1) xs
drop_next xs k x lt is = rw add-one (drop_suc xs k x lt is)

pub if_true : {A : Type 0} (b : Bool) (x y : A) → b ≡ true → cond b x y ≡ x
if_true true x y e = refl
if_true false x y e = absurd (cc)

pub if_false : {A : Type 0} (b : Bool) (x y : A) → b ≡ false → cond b x y ≡ y
if_false true x y e = absurd (cc)
if_false false x y e = refl

-- an element doesn't depend on what a look-up past the end gives
pub item_is : {A : Type 0} (xs : List A) (k : ℕ) (d : A) → k < length xs → get_or xs k d ≡ get_or xs k (get_or xs k d)
item_is [] k d lt = absurd (omega (arith, lt))
item_is (x ∷ xs) zero d lt = refl
item_is (x ∷ xs) (suc k) d lt = item_is xs k d (omega (arith, lt))
