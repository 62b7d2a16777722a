-- A list without its zeros at the end, from the end; sums of lists, place by place.
use Rattle.std.proofs.Common.{◌≡◌, ℕ, zero, suc, ◌+◌, ◌-◌, ◌<◌, ◌≤◌, max, List, [], ◌∷◌, ◌++◌, length, take, get_or, refl, sym, ◌∙◌, ap, arith, ℤ, pos, negsuc, ◌+ℤ◌, ◌-ℤ◌}
use Rattle.std.proofs.lemmas.Int.{ints}
use Rattle.std.proofs.lemmas.List.{take_more}
use Rattle.mr_values.specs.Sequence.{samples, ones}
use Rattle.running_sums.specs.Weights.{added, behind}
use Rattle.running_sums.specs.Sums.{IsWithin, AreWithin}
use Rattle.running_sums.specs.Rows.{places, onto, trimmed, full, CoversWithin}
use Rattle.running_sums.proofs.MovingLemmas.{samples-added, samples-behind}
use Rattle.running_sums.proofs.RowLemmas.{places-list, moves_within}
use Rattle.running_sums.proofs.CoverLemmas.{length-added, length-behind_some}

trimmed-zero : (xs : List ℤ) → trimmed (xs ++ pos 0 ∷ []) ≡ trimmed xs
trimmed-zero [] = refl
trimmed-zero (x ∷ xs) = ap (onto x) (trimmed-zero xs)

onto-none : (z : ℤ) → (z ≡ pos 0 → ⊥) → onto z [] ≡ z ∷ []
onto-none (pos zero) h = absurd (h refl)
onto-none (pos (suc n)) h = refl
onto-none (negsuc n) h = refl

onto-some : (x z : ℤ) (xs : List ℤ) → onto x (xs ++ z ∷ []) ≡ x ∷ (xs ++ z ∷ [])
onto-some x z [] = refl
onto-some x z (y ∷ ys) = refl

trimmed-some : (xs : List ℤ) (z : ℤ) → (z ≡ pos 0 → ⊥) → trimmed (xs ++ z ∷ []) ≡ xs ++ z ∷ []
trimmed-some [] z h = onto-none z h
trimmed-some (x ∷ xs) z h = ap (onto x) (trimmed-some xs z h) ∙ onto-some x z xs

taken : (row : List ℤ) (end : ℕ) → 0 < end → end ≤ length row → take end row ≡ take (end - 1) row ++ get_or row (end - 1) (pos 0) ∷ []
taken row end some within =
    let e : end ≡ end - 1 + 1 = omega arith in
    ap (λ (n : ℕ). take n row) e ∙ take_more row (end - 1) (pos 0) (omega arith)

-- a zero at the end goes
pub zero_goes : (row : List ℤ) (end : ℕ) → 0 < end → end ≤ length row → get_or row (end - 1) (pos 0) ≡ pos 0 → trimmed (take end row) ≡ trimmed (take (end - 1) row)
zero_goes row end some within is =
    ap trimmed (taken row end some within ∙ ap (λ (z : ℤ). take (end - 1) row ++ z ∷ []) is) ∙ trimmed-zero (take (end - 1) row)

-- and anything else stays
pub rest_stays : (row : List ℤ) (end : ℕ) → 0 < end → end ≤ length row → (get_or row (end - 1) (pos 0) ≡ pos 0 → ⊥) → take end row ≡ trimmed (take end row)
rest_stays row end some within ne =
    let e = taken row end some within in
    e ∙ sym (trimmed-some (take (end - 1) row) (get_or row (end - 1) (pos 0)) ne) ∙ ap trimmed (sym e)

-- ---- sums, place by place

pub added_at : (delay : ℕ) (w sum : List ℤ) (k : ℕ) → samples w (pos k -ℤ pos delay) +ℤ samples sum (pos k -ℤ pos 0) ≡ samples (added (behind delay w) sum) (pos k)
added_at delay w sum k =
    let index : pos k -ℤ pos 0 ≡ pos k = omega (arith, ints) in
    let same = ap (samples sum) index in
    omega (arith, ints, same, samples-added (behind delay w) sum (pos k), samples-behind delay w (pos k))

pub length-added_none : (delay : ℕ) (w sum : List ℤ) → length w ≡ 0 → length (added (behind delay w) sum) ≡ length sum
length-added_none delay [] sum e = refl
length-added_none delay (x ∷ xs) sum e = absurd (omega (arith, e))

pub length-added_some : (delay : ℕ) (w sum : List ℤ) → 1 ≤ length w → length (added (behind delay w) sum) ≡ max (length sum) (length w + delay)
length-added_some delay [] sum some = absurd (omega (arith, some))
length-added_some delay (x ∷ xs) sum some = omega (arith, length-added (behind delay (x ∷ xs)) sum, length-behind_some delay x xs)

pub places_all : (w : List ℤ) (total : ℕ) → length w ≡ total → places total (λ k. samples w (pos k)) ≡ w
places_all w total e = ap (λ (n : ℕ). places n (λ k. samples w (pos k))) (sym e) ∙ places-list w

-- ---- room for covers

pub ones-within : (n : ℕ) → AreWithin 1 (ones n)
ones-within n = record { each = at n }
  where
    at : (n : ℕ) (z : ℤ) → IsWithin 1 (samples (ones n) z)
    at zero (pos k) = record { low = omega (arith, ints); high = omega (arith, ints) }
    at (suc n) (pos zero) = record { low = omega (arith, ints); high = omega (arith, ints) }
    at (suc n) (pos (suc k)) = at n (pos k)
    at n (negsuc k) = record { low = omega (arith, ints); high = omega (arith, ints) }

pub covers_within : CoversWithin
covers_within f count n ordered some few =
    moves_within (full f) count 1 n (record { each = λ m k. ordered.each m k }) some (λ m. ones-within (length (f m).weights)) (omega (arith, few))

-- what one step of the loop reads
pub added_parts : (delay : ℕ) (w others : List ℤ) (k : ℕ) (first second : ℤ) → first ≡ samples w (pos k -ℤ pos delay) → second ≡ samples others (pos k -ℤ pos 0)
    → first +ℤ second ≡ samples (added (behind delay w) others) (pos k)
added_parts delay w others k first second f s = omega (arith, ints, f, s, added_at delay w others k)
