-- Sums over the first whole numbers, folded in the middle.
use Rattle.std.proofs.Common.{◌≡◌, ℕ, zero, suc, ◌+◌, ◌-◌, ◌<◌, List, [], ◌∷◌, length, refl, sym, ◌∙◌, ap, arith, ℤ, pos, ◌+ℤ◌, ◌*ℤ◌}
use Rattle.std.proofs.lemmas.Int.{ints}
use Rattle.mr_values.specs.Sequence.{weighted_sum}
use Rattle.symmetric_fir.specs.Pairs.{tap}

-- the sum of the first n
abbrev pub sum_to : (ℕ → ℤ) → ℕ → ℤ
sum_to g zero = pos 0
sum_to g (suc n) = sum_to g n +ℤ g n

pub sum_to-same : (n : ℕ) (f g : ℕ → ℤ) → ((i : ℕ) → i < n → f i ≡ g i) → sum_to f n ≡ sum_to g n
sum_to-same zero f g h = refl
sum_to-same (suc n) f g h = ap (λ (z : ℤ). z +ℤ f n) (sum_to-same n f g (λ i less. h i (omega arith))) ∙ ap (λ (z : ℤ). sum_to g n +ℤ z) (h n (omega arith))

pub sum_to-front : (g : ℕ → ℤ) (n : ℕ) → sum_to g (suc n) ≡ g 0 +ℤ sum_to (λ i. g (suc i)) n
sum_to-front g zero = omega (arith, ints)
sum_to-front g (suc n) = let rest = sum_to-front g n in omega (arith, ints, rest)

sum_to-split : (g : ℕ → ℤ) (m k : ℕ) → sum_to g (m + k) ≡ sum_to g m +ℤ sum_to (λ j. g (m + j)) k
sum_to-split g m zero = let at : m + 0 ≡ m = omega arith in ap (sum_to g) at ∙ sym (no_more (sum_to g m))
  where
    no_more : (z : ℤ) → z +ℤ pos 0 ≡ z
    no_more z = omega (arith, ints)
sum_to-split g m (suc k) =
    let at : m + suc k ≡ suc (m + k) = omega arith in
    let rest = sum_to-split g m k in
    ap (sum_to g) at ∙ omega (arith, ints, rest)

sum_to-add : (f g : ℕ → ℤ) (n : ℕ) → sum_to f n +ℤ sum_to g n ≡ sum_to (λ i. f i +ℤ g i) n
sum_to-add f g zero = refl
sum_to-add f g (suc n) = let rest = sum_to-add f g n in omega (arith, ints, rest)

sum_to-reverse : (g : ℕ → ℤ) (n : ℕ) → sum_to (λ j. g (n - 1 - j)) n ≡ sum_to g n
sum_to-reverse g zero = refl
sum_to-reverse g (suc n) =
    let last : suc n - 1 - n ≡ 0 = omega arith in
    let first = sum_to-same n (λ j. g (suc n - 1 - j)) (λ j. g (suc (n - 1 - j))) (λ j less. let at : suc n - 1 - j ≡ suc (n - 1 - j) = omega arith in ap g at) in
    let rest = sum_to-reverse (λ i. g (suc i)) n in
    ap (λ (z : ℤ). z +ℤ g (suc n - 1 - n)) (first ∙ rest) ∙ ap (λ (k : ℕ). sum_to (λ i. g (suc i)) n +ℤ g k) last ∙ turned (sum_to (λ i. g (suc i)) n) (g 0) ∙ sym (sum_to-front g n)
  where
    turned : (a b : ℤ) → a +ℤ b ≡ b +ℤ a
    turned a b = omega (arith, ints)

-- the second half, from its end
second_half : (g : ℕ → ℤ) (start half : ℕ) → sum_to (λ j. g (start + j)) half ≡ sum_to (λ j. g (start + half - 1 - j)) half
second_half g start half = sym (sum_to-reverse (λ j. g (start + j)) half) ∙ sum_to-same half (λ j. g (start + (half - 1 - j))) (λ j. g (start + half - 1 - j)) (λ j less. let at : start + (half - 1 - j) ≡ start + half - 1 - j = omega arith in ap g at)

-- an even number of terms
pub sum_to-even : (g : ℕ → ℤ) (n half : ℕ) → n ≡ half + half → sum_to g n ≡ sum_to (λ i. g i +ℤ g (n - 1 - i)) half
sum_to-even g n half e =
    let later = second_half g half half in
    let same = sum_to-same half (λ j. g (half + half - 1 - j)) (λ j. g (n - 1 - j)) (λ j less. let at : half + half - 1 - j ≡ n - 1 - j = omega arith in ap g at) in
    ap (sum_to g) e ∙ sum_to-split g half half ∙ ap (λ (z : ℤ). sum_to g half +ℤ z) (later ∙ same) ∙ sum_to-add g (λ i. g (n - 1 - i)) half

-- and an odd number
pub sum_to-odd : (g : ℕ → ℤ) (n half : ℕ) → n ≡ half + suc half → sum_to g n ≡ sum_to (λ i. g i +ℤ g (n - 1 - i)) half +ℤ g half
sum_to-odd g n half e =
    let front = sum_to-front (λ j. g (half + j)) half in
    let centre : half + 0 ≡ half = omega arith in
    let shifted = sum_to-same half (λ j. g (half + suc j)) (λ j. g (suc half + j)) (λ j less. let at : half + suc j ≡ suc half + j = omega arith in ap g at) in
    let later = second_half g (suc half) half in
    let same = sum_to-same half (λ j. g (suc half + half - 1 - j)) (λ j. g (n - 1 - j)) (λ j less. let at : suc half + half - 1 - j ≡ n - 1 - j = omega arith in ap g at) in
    let last : sum_to (λ j. g (half + j)) (suc half) ≡ g half +ℤ sum_to (λ j. g (n - 1 - j)) half = front ∙ ap (λ (k : ℕ). g k +ℤ sum_to (λ j. g (half + suc j)) half) centre ∙ ap (λ (z : ℤ). g half +ℤ z) (shifted ∙ later ∙ same) in
    let both = sum_to-add g (λ i. g (n - 1 - i)) half in
    ap (sum_to g) e ∙ sum_to-split g half (suc half) ∙ ap (λ (z : ℤ). sum_to g half +ℤ z) last ∙ regroup (sum_to g half) (g half) (sum_to (λ j. g (n - 1 - j)) half) ∙ ap (λ (z : ℤ). z +ℤ g half) both
  where
    regroup : (a b c : ℤ) → a +ℤ (b +ℤ c) ≡ a +ℤ c +ℤ b
    regroup a b c = omega (arith, ints)

-- ---- lists as such sums

pub weighted_sum-sum_to : (taps : List ℤ) (f : ℕ → ℤ) → weighted_sum taps f ≡ sum_to (λ i. tap taps i *ℤ f i) (length taps)
weighted_sum-sum_to [] f = refl
weighted_sum-sum_to (c ∷ cs) f = ap (λ (z : ℤ). c *ℤ f 0 +ℤ z) (weighted_sum-sum_to cs (λ i. f (suc i))) ∙ sym (sum_to-front (λ i. tap (c ∷ cs) i *ℤ f i) (length cs))
