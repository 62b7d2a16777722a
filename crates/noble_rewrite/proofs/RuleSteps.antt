-- The loops over taps.
use Rattle.std.proofs.Common.{◌≡◌, ◌∙◌, ℕ, zero, suc, ◌+◌, ◌-◌, ◌%◌, ◌<◌, ◌⊎◌, inl, inr, Bool, true, ◌&&◌, ◌||◌, eqb, List, [], ◌∷◌, ◌++◌, length, drop, get_or, ℤ, pos, arith, refl, sym, ap, subst, append_assoc, add-one, drop-cons}
use Rattle.std.proofs.lemmas.Bool.{eq-eqb}
use Rattle.std.specs.Ordering.{int_eq}
use Rattle.mr_values.specs.Sequence.{phase}
use Rattle.noble_rewrite.specs.Rules.{is_zero_off}

or_true : (b : Bool) → (b || true) ≡ true
or_true b = grind arith

int_eq-zero : int_eq (pos 0) (pos 0) ≡ true
int_eq-zero = refl

test_passes : (index factor : ℕ) (c : ℤ) → (index % factor ≡ 0) ⊎ (c ≡ pos 0) → (eqb (index % factor) 0 || int_eq c (pos 0)) ≡ true
test_passes index factor c (inl e) = rw (eq-eqb (index % factor) 0 e) refl
test_passes index factor c (inr e) = rw (e, int_eq-zero) (or_true (eqb (index % factor) 0))

-- one more tap that passes
pub zero_off-more : (factor index : ℕ) (taps : List ℤ) (d : ℤ) (whole : Bool) → index < length taps → (index % factor ≡ 0) ⊎ (get_or taps index d ≡ pos 0)
    → is_zero_off factor index (drop index taps) ≡ whole → is_zero_off factor (index + 1) (drop (index + 1) taps) ≡ whole
zero_off-more factor index taps d whole h passes all =
    let test = test_passes index factor (get_or taps index d) passes in
    let split : is_zero_off factor index (drop index taps) ≡ is_zero_off factor (suc index) (drop (suc index) taps) = ap (is_zero_off factor index) (drop-cons taps index d h) ∙ ap (λ (b : Bool). b && is_zero_off factor (suc index) (drop (suc index) taps)) test in
    rw add-one (sym split ∙ all)

-- a tap that is kept
pub thin-taken : (kept kept' taps all : List ℤ) (factor index wait wait' : ℕ) (d : ℤ) → index < length taps → wait ≡ 0 → wait' ≡ factor - 1 → kept' ≡ kept ++ get_or taps index d ∷ []
    → kept ++ phase factor wait (drop index taps) ≡ all → kept' ++ phase factor wait' (drop (index + 1) taps) ≡ all
thin-taken kept kept' taps all factor index wait wait' d h now next taken whole =
    let split : kept ++ phase factor 0 (drop index taps) ≡ kept ++ get_or taps index d ∷ phase factor (factor - 1) (drop (suc index) taps) = ap (λ (xs : List ℤ). kept ++ phase factor 0 xs) (drop-cons taps index d h) in
    let here : kept ++ phase factor 0 (drop index taps) ≡ all = subst (λ (w : ℕ). kept ++ phase factor w (drop index taps) ≡ all) now whole in
    rw (add-one, next, taken, append_assoc kept (get_or taps index d ∷ []) (phase factor (factor - 1) (drop (suc index) taps))) (sym split ∙ here)

-- a tap that is left out
pub thin-skipped : (kept kept' taps all : List ℤ) (factor index wait wait' : ℕ) → index < length taps → (wait ≡ 0 → ⊥) → wait' ≡ wait - 1 → kept' ≡ kept
    → kept ++ phase factor wait (drop index taps) ≡ all → kept' ++ phase factor wait' (drop (index + 1) taps) ≡ all
thin-skipped kept kept' taps all factor index zero wait' h some next same whole = absurd (some refl)
thin-skipped kept kept' taps all factor index (suc wait) wait' h some next same whole =
    let less : wait' ≡ wait = omega arith in
    let split : kept ++ phase factor (suc wait) (drop index taps) ≡ kept ++ phase factor wait (drop (suc index) taps) = ap (λ (xs : List ℤ). kept ++ phase factor (suc wait) xs) (drop-cons taps index (pos 0) h) in
    rw (add-one, less, same) (sym split ∙ whole)
