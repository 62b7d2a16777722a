-- A step of the tests of taps that are read backwards, and of taps that are 0.
use Rattle.std.proofs.Common.{◌≡◌, ◌∙◌, ℕ, ◌+◌, ◌-◌, ◌<◌, ◌≤◌, ◌%◌, refl, sym, ap, arith, List, [], length, drop, get_or, map, reverse, drop-cons, add-one, ℤ, pos, neg_ℤ, Bool, true, false}
use Rattle.std.specs.Prelude.{◌&&◌, ◌||◌, ◌==◌, ◌≢◌}
use Rattle.std.proofs.lemmas.Int.{ints}
use Rattle.std.proofs.lemmas.List.{get_or-reverse, length-reverse, get_or-map, length-map, drop_all}
use Rattle.plan_check.specs.Forms.{same_number, same_numbers, is_zero_between}

pub same_number_yes : (a b : ℤ) → a ≡ b → same_number a b ≡ true
same_number_yes a b e = rw e (grind (arith, ints))

pub same_number_no : (a b : ℤ) → a ≢ b → same_number a b ≡ false
same_number_no a b ne = grind (arith, ints)

same_numbers-step : (xs ys : List ℤ) (i : ℕ) → i < length xs → i < length ys → same_numbers (drop i xs) (drop i ys) ≡ (same_number (get_or xs i (pos 0)) (get_or ys i (pos 0)) && same_numbers (drop (i + 1) xs) (drop (i + 1) ys))
same_numbers-step xs ys i h k = rw (add-one, drop-cons xs i (pos 0), drop-cons ys i (pos 0)) refl

abbrev pub SymmetricFrom : List ℤ → ℕ → Bool
SymmetricFrom taps i = same_numbers (drop i taps) (drop i (reverse taps))

abbrev pub AntisymmetricFrom : List ℤ → ℕ → Bool
AntisymmetricFrom taps i = same_numbers (drop i taps) (drop i (map neg_ℤ (reverse taps)))

symmetric-step : (taps : List ℤ) (i : ℕ) → i < length taps → SymmetricFrom taps i ≡ (same_number (get_or taps i (pos 0)) (get_or taps (length taps - 1 - i) (pos 0)) && SymmetricFrom taps (i + 1))
symmetric-step taps i h =
    let other : i < length (reverse taps) = omega (arith, length-reverse taps) in
    same_numbers-step taps (reverse taps) i h other
    ∙ ap (λ z. same_number (get_or taps i (pos 0)) z && SymmetricFrom taps (i + 1)) (get_or-reverse taps i (pos 0) h)

antisymmetric-step : (taps : List ℤ) (i : ℕ) → i < length taps → AntisymmetricFrom taps i ≡ (same_number (get_or taps i (pos 0)) (neg_ℤ (get_or taps (length taps - 1 - i) (pos 0))) && AntisymmetricFrom taps (i + 1))
antisymmetric-step taps i h =
    let back : i < length (reverse taps) = omega (arith, length-reverse taps) in
    let other : i < length (map neg_ℤ (reverse taps)) = omega (arith, length-map (reverse taps) neg_ℤ, length-reverse taps) in
    same_numbers-step taps (map neg_ℤ (reverse taps)) i h other
    ∙ ap (λ z. same_number (get_or taps i (pos 0)) z && AntisymmetricFrom taps (i + 1))
    (get_or-map neg_ℤ (reverse taps) i (pos 0) (pos 0) back ∙ ap neg_ℤ (get_or-reverse taps i (pos 0) h))

-- the same, as a loop's step
pub symmetric_more : (taps : List ℤ) (i : ℕ) (whole : Bool) → i < length taps → get_or taps i (pos 0) ≡ get_or taps (length taps - 1 - i) (pos 0) → SymmetricFrom taps i ≡ whole → SymmetricFrom taps (i + 1) ≡ whole
symmetric_more taps i whole h e so_far =
    sym (symmetric-step taps i h ∙ ap (λ b. b && SymmetricFrom taps (i + 1)) (same_number_yes _ _ e)) ∙ so_far

pub symmetric_fails : (taps : List ℤ) (i : ℕ) (whole : Bool) → i < length taps → get_or taps i (pos 0) ≢ get_or taps (length taps - 1 - i) (pos 0) → SymmetricFrom taps i ≡ whole → false ≡ whole
symmetric_fails taps i whole h ne so_far =
    sym (symmetric-step taps i h ∙ ap (λ b. b && SymmetricFrom taps (i + 1)) (same_number_no _ _ ne)) ∙ so_far

pub symmetric_all : (taps : List ℤ) (i : ℕ) (whole : Bool) → length taps ≤ i → SymmetricFrom taps i ≡ whole → true ≡ whole
symmetric_all taps i whole h so_far =
    let left = drop_all i taps h in
    let right = drop_all i (reverse taps) (omega (arith, length-reverse taps)) in
    sym (ap (λ xs. same_numbers xs (drop i (reverse taps))) left ∙ ap (same_numbers []) right) ∙ so_far

pub antisymmetric_more : (taps : List ℤ) (i : ℕ) (whole : Bool) → i < length taps → get_or taps i (pos 0) ≡ neg_ℤ (get_or taps (length taps - 1 - i) (pos 0)) → AntisymmetricFrom taps i ≡ whole → AntisymmetricFrom taps (i + 1) ≡ whole
antisymmetric_more taps i whole h e so_far =
    sym (antisymmetric-step taps i h ∙ ap (λ b. b && AntisymmetricFrom taps (i + 1)) (same_number_yes _ _ e)) ∙ so_far

pub antisymmetric_fails : (taps : List ℤ) (i : ℕ) (whole : Bool) → i < length taps → get_or taps i (pos 0) ≢ neg_ℤ (get_or taps (length taps - 1 - i) (pos 0)) → AntisymmetricFrom taps i ≡ whole → false ≡ whole
antisymmetric_fails taps i whole h ne so_far =
    sym (antisymmetric-step taps i h ∙ ap (λ b. b && AntisymmetricFrom taps (i + 1)) (same_number_no _ _ ne)) ∙ so_far

pub antisymmetric_all : (taps : List ℤ) (i : ℕ) (whole : Bool) → length taps ≤ i → AntisymmetricFrom taps i ≡ whole → true ≡ whole
antisymmetric_all taps i whole h so_far =
    let left = drop_all i taps h in
    let right = drop_all i (map neg_ℤ (reverse taps)) (omega (arith, length-map (reverse taps) neg_ℤ, length-reverse taps)) in
    sym (ap (λ xs. same_numbers xs (drop i (map neg_ℤ (reverse taps)))) left ∙ ap (same_numbers []) right) ∙ so_far

-- ---- zeros

zero_step : (centre i : ℕ) (taps : List ℤ) → i < length taps → is_zero_between centre i (drop i taps) ≡ ((i % 2 == 0 || i == centre || same_number (get_or taps i (pos 0)) (pos 0)) && is_zero_between centre (i + 1) (drop (i + 1) taps))
zero_step centre i taps h = rw (add-one, drop-cons taps i (pos 0)) refl

pub zero_more : (centre i : ℕ) (taps : List ℤ) (whole : Bool) → i < length taps → (i % 2 == 0 || i == centre || same_number (get_or taps i (pos 0)) (pos 0)) ≡ true → is_zero_between centre i (drop i taps) ≡ whole → is_zero_between centre (i + 1) (drop (i + 1) taps) ≡ whole
zero_more centre i taps whole h e so_far =
    sym (zero_step centre i taps h ∙ ap (λ b. b && is_zero_between centre (i + 1) (drop (i + 1) taps)) e) ∙ so_far

pub zero_fails : (centre i : ℕ) (taps : List ℤ) (whole : Bool) → i < length taps → (i % 2 == 0 || i == centre || same_number (get_or taps i (pos 0)) (pos 0)) ≡ false → is_zero_between centre i (drop i taps) ≡ whole → false ≡ whole
zero_fails centre i taps whole h e so_far =
    sym (zero_step centre i taps h ∙ ap (λ b. b && is_zero_between centre (i + 1) (drop (i + 1) taps)) e) ∙ so_far

pub zero_all : (centre i : ℕ) (taps : List ℤ) (whole : Bool) → length taps ≤ i → is_zero_between centre i (drop i taps) ≡ whole → true ≡ whole
zero_all centre i taps whole h so_far = sym (ap (is_zero_between centre i) (drop_all i taps h)) ∙ so_far
