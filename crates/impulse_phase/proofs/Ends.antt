-- The least and the greatest value of one response, and samples that reach them.
use Rattle.std.proofs.Common.{◌≡◌, ℕ, zero, suc, ◌-◌, ◌<◌, ◌≤◌, List, [], ◌∷◌, length, get_or, All, ℤ, pos, negsuc, ◌+ℤ◌, ◌-ℤ◌, ◌*ℤ◌, ◌≤ℤ◌, arith, refl, sym, ◌∙◌, ap, subst}
use Rattle.std.proofs.lemmas.Int.{ints}
use Rattle.std.proofs.lemmas.List.{get_or_past}
use Rattle.mr_values.specs.Sequence.{samples, weighted_sum}
use Rattle.mr_values.specs.Timing.{least_term, low_end, high_end}
use Rattle.mr_values.proofs.Ring.{*ℤ-+ℤ}
use Rattle.mr_values.proofs.Polyphase.{weighted_sum-same}
use Rattle.impulse_phase.specs.Response.{Response, respond}

pub times_up : (c : ℕ) (a b : ℤ) → a ≤ℤ b → (pos c *ℤ a) ≤ℤ (pos c *ℤ b)
times_up c a b h = by_gap (b -ℤ a) refl
  where
    by_gap : (d : ℤ) → b -ℤ a ≡ d → (pos c *ℤ a) ≤ℤ (pos c *ℤ b)
    by_gap (pos d) e =
        let is : b ≡ a +ℤ pos d = omega (arith, ints) in
        omega (arith, ints, ap (λ (z : ℤ). pos c *ℤ z) is, *ℤ-+ℤ (pos c) a (pos d))
    by_gap (negsuc d) e = absurd (omega (arith, ints))

times_down : (c : ℕ) (a b : ℤ) → a ≤ℤ b → (negsuc c *ℤ b) ≤ℤ (negsuc c *ℤ a)
times_down c a b h = omega (arith, ints, times_up (suc c) a b h)

term-low : (c low high z : ℤ) → low ≤ℤ z → z ≤ℤ high → least_term low high c ≤ℤ (c *ℤ z)
term-low (pos c) low high z l h = times_up c low z l
term-low (negsuc c) low high z l h = times_down c z high h

term-high : (c low high z : ℤ) → low ≤ℤ z → z ≤ℤ high → (c *ℤ z) ≤ℤ least_term high low c
term-high (pos c) low high z l h = times_up c z high h
term-high (negsuc c) low high z l h = times_down c low z l

pub low_end-holds : (cs : List ℤ) (low high : ℤ) (f : ℕ → ℤ) → ((k : ℕ) → low ≤ℤ f k) → ((k : ℕ) → f k ≤ℤ high) → low_end cs low high ≤ℤ weighted_sum cs f
low_end-holds [] low high f l h = omega (arith, ints)
low_end-holds (c ∷ cs) low high f l h =
    omega (arith, ints, term-low c low high (f zero) (l zero) (h zero), low_end-holds cs low high (λ k. f (suc k)) (λ k. l (suc k)) (λ k. h (suc k)))

pub high_end-holds : (cs : List ℤ) (low high : ℤ) (f : ℕ → ℤ) → ((k : ℕ) → low ≤ℤ f k) → ((k : ℕ) → f k ≤ℤ high) → weighted_sum cs f ≤ℤ high_end cs low high
high_end-holds [] low high f l h = omega (arith, ints)
high_end-holds (c ∷ cs) low high f l h =
    omega (arith, ints, term-high c low high (f zero) (l zero) (h zero), high_end-holds cs low high (λ k. f (suc k)) (λ k. l (suc k)) (λ k. h (suc k)))

pub high_end-turned : (cs : List ℤ) (low high : ℤ) → low_end cs high low ≡ high_end cs low high
high_end-turned [] low high = refl
high_end-turned (c ∷ cs) low high = ap (λ (z : ℤ). least_term high low c +ℤ z) (high_end-turned cs low high)

-- ---- the samples of an end

-- `low` beside a weight that isn't negative, `high` beside one that is
abbrev pub end_for : ℤ → ℤ → ℤ → ℤ
end_for low high (pos c) = low
end_for low high (negsuc c) = high

abbrev pub ends_for : ℤ → ℤ → List ℤ → List ℤ
ends_for low high [] = []
ends_for low high (c ∷ cs) = end_for low high c ∷ ends_for low high cs

abbrev pub tabulate : ℕ → (ℕ → ℤ) → List ℤ
tabulate zero f = []
tabulate (suc n) f = f zero ∷ tabulate n (λ k. f (suc k))

-- the samples up to `newest`, of which the last ones are the list, backwards
abbrev pub history : ℕ → List ℤ → List ℤ
history newest cs = tabulate (suc newest) (λ n. get_or cs (newest - n) (pos 0))

pub length-tabulate : (n : ℕ) (f : ℕ → ℤ) → length (tabulate n f) ≡ n
length-tabulate zero f = refl
length-tabulate (suc n) f = ap suc (length-tabulate n (λ k. f (suc k)))

pub get_or-tabulate : (n : ℕ) (f : ℕ → ℤ) (k : ℕ) (d : ℤ) → k < n → get_or (tabulate n f) k d ≡ f k
get_or-tabulate zero f k d h = absurd (omega arith)
get_or-tabulate (suc n) f zero d h = refl
get_or-tabulate (suc n) f (suc k) d h = get_or-tabulate n (λ i. f (suc i)) k d (omega arith)

length-ends_for : (low high : ℤ) (cs : List ℤ) → length (ends_for low high cs) ≡ length cs
length-ends_for low high [] = refl
length-ends_for low high (c ∷ cs) = ap suc (length-ends_for low high cs)

pub samples-history : (newest : ℕ) (cs : List ℤ) (k : ℕ) → length cs ≤ suc newest → samples (history newest cs) (pos newest -ℤ pos k) ≡ get_or cs k (pos 0)
samples-history newest cs k h = at (pos newest -ℤ pos k) refl
  where
    at : (z : ℤ) → pos newest -ℤ pos k ≡ z → samples (history newest cs) z ≡ get_or cs k (pos 0)
    at (pos m) e =
        let back : newest - m ≡ k = omega (arith, ints) in
        get_or-tabulate (suc newest) (λ n. get_or cs (newest - n) (pos 0)) m (pos 0) (omega (arith, ints)) ∙ ap (λ (i : ℕ). get_or cs i (pos 0)) back
    at (negsuc m) e = sym (get_or_past cs k (pos 0) (omega (arith, ints)))

weighted_sum-ends : (cs : List ℤ) (low high : ℤ) → weighted_sum cs (λ k. get_or (ends_for low high cs) k (pos 0)) ≡ low_end cs low high
weighted_sum-ends [] low high = refl
weighted_sum-ends (pos c ∷ cs) low high = ap (λ (z : ℤ). pos c *ℤ low +ℤ z) (weighted_sum-ends cs low high)
weighted_sum-ends (negsuc c ∷ cs) low high = ap (λ (z : ℤ). negsuc c *ℤ high +ℤ z) (weighted_sum-ends cs low high)

-- the end is reached, with enough history
pub history-reaches : (r : Response) (low high : ℤ) (newest : ℕ) → r.newest ≡ pos newest → length r.weights ≤ suc newest
    → respond r (samples (history newest (ends_for low high r.weights))) ≡ low_end r.weights low high
history-reaches r low high newest e h =
    weighted_sum-same r.weights _ _ (λ k. ap (λ (z : ℤ). samples (history newest (ends_for low high r.weights)) (z -ℤ pos k)) e ∙ samples-history newest (ends_for low high r.weights) k (omega (arith, length-ends_for low high r.weights)))
    ∙ weighted_sum-ends r.weights low high

ends_for-all : (P : ℤ → Type 0) (low high : ℤ) (cs : List ℤ) (k : ℕ) → P low → P high → P (pos 0) → P (get_or (ends_for low high cs) k (pos 0))
ends_for-all P low high [] k l h z = z
ends_for-all P low high (pos c ∷ cs) zero l h z = l
ends_for-all P low high (negsuc c ∷ cs) zero l h z = h
ends_for-all P low high (c ∷ cs) (suc k) l h z = ends_for-all P low high cs k l h z

pub history-all : (P : ℤ → Type 0) (low high : ℤ) (cs : List ℤ) (newest : ℕ) → P low → P high → P (pos 0) → All P (history newest (ends_for low high cs))
history-all P low high cs newest l h z k d below =
    subst P (sym (get_or-tabulate (suc newest) (λ n. get_or (ends_for low high cs) (newest - n) (pos 0)) k d (omega (arith, length-tabulate (suc newest) (λ n. get_or (ends_for low high cs) (newest - n) (pos 0))))))
    (ends_for-all P low high cs (newest - k) l h z)

-- what holds of 0 and of each sample holds of the sequence
pub samples-all : (P : ℤ → Type 0) (xs : List ℤ) → All P xs → P (pos 0) → (n : ℤ) → P (samples xs n)
samples-all P xs h z (negsuc n) = z
samples-all P xs h z (pos n) = at xs n (λ i below. h i (pos 0) below)
  where
    at : (xs : List ℤ) (n : ℕ) → ((i : ℕ) → i < length xs → P (get_or xs i (pos 0))) → P (get_or xs n (pos 0))
    at [] n h = z
    at (x ∷ xs) zero h = h zero (omega arith)
    at (x ∷ xs) (suc n) h = at xs n (λ i below. h (suc i) (omega arith))
