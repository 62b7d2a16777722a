-- Sums of weights, and what they give.
use Rattle.std.proofs.Common.{◌≡◌, ℕ, zero, suc, List, [], ◌∷◌, ℤ, pos, negsuc, ◌+ℤ◌, ◌-ℤ◌, ◌*ℤ◌, ◌≤ℤ◌, arith, refl, sym, ◌∙◌, ap}
use Rattle.std.proofs.lemmas.Int.{ints}
use Rattle.mr_values.specs.Sequence.{Sequence, weighted_sum, filter}
use Rattle.mr_values.specs.Value.{size}
use Rattle.mr_values.proofs.Ring.{+ℤ-*ℤ, *ℤ-+ℤ, *ℤ_assoc}
use Rattle.mr_values.proofs.Polyphase.{weighted_sum-same}
use Rattle.impulse_phase.specs.Response.{Response, respond, later, added, scaled, behind, combined}

pub weighted_sum-added : (a b : List ℤ) (f : ℕ → ℤ) → weighted_sum (added a b) f ≡ weighted_sum a f +ℤ weighted_sum b f
weighted_sum-added [] b f = omega (arith, ints)
weighted_sum-added (x ∷ a) [] f = omega (arith, ints)
weighted_sum-added (x ∷ a) (y ∷ b) f = omega (arith, ints, weighted_sum-added a b (λ k. f (suc k)), +ℤ-*ℤ x y (f zero))

pub weighted_sum-scaled : (c : ℤ) (a : List ℤ) (f : ℕ → ℤ) → weighted_sum (scaled c a) f ≡ c *ℤ weighted_sum a f
weighted_sum-scaled c [] f = omega (arith, ints)
weighted_sum-scaled c (x ∷ a) f =
    omega (arith, ints, weighted_sum-scaled c a (λ k. f (suc k)), *ℤ_assoc c x (f zero), *ℤ-+ℤ c (x *ℤ f zero) (weighted_sum a (λ k. f (suc k))))

pub filter-behind : (d : ℕ) (a : List ℤ) (x : Sequence) (n : ℤ) → filter (behind d a) x n ≡ filter a x (n -ℤ pos d)
filter-behind d [] x n = refl
filter-behind zero (c ∷ cs) x n = let e : n ≡ n -ℤ pos 0 = omega (arith, ints) in ap (filter (c ∷ cs) x) e
filter-behind (suc d) (c ∷ cs) x n =
    let before : (k : ℕ) → n -ℤ pos (suc k) ≡ (n -ℤ pos 1) -ℤ pos k = λ k. omega (arith, ints) in
    let rest : weighted_sum (behind d (c ∷ cs)) (λ k. x (n -ℤ pos (suc k))) ≡ filter (c ∷ cs) x (n -ℤ pos (suc d)) =
    weighted_sum-same (behind d (c ∷ cs)) _ _ (λ k. ap x (before k)) ∙ filter-behind d (c ∷ cs) x (n -ℤ pos 1) ∙ ap (filter (c ∷ cs) x) (sym (before d)) in
    omega (arith, ints, rest)

-- a response, from a later sample on
pub filter-aligned : (r : Response) (x : Sequence) (newest : ℤ) → r.newest ≤ℤ newest → filter (behind (size (newest -ℤ r.newest)) r.weights) x newest ≡ respond r x
filter-aligned r x newest h =
    filter-behind (size (newest -ℤ r.newest)) r.weights x newest ∙ ap (filter r.weights x) (back (newest -ℤ r.newest) refl)
  where
    back : (d : ℤ) → newest -ℤ r.newest ≡ d → newest -ℤ pos (size d) ≡ r.newest
    back (pos d) e = omega (arith, ints)
    back (negsuc d) e = absurd (omega (arith, ints))

pub filter-combined : (newest : ℤ) (taps : List ℤ) (f : ℕ → Response) (x : Sequence) → ((k : ℕ) → (f k).newest ≤ℤ newest)
    → filter (combined newest taps f) x newest ≡ weighted_sum taps (λ k. respond (f k) x)
filter-combined newest [] f x h = refl
filter-combined newest (c ∷ cs) f x h =
    let first = behind (size (newest -ℤ (f zero).newest)) (f zero).weights in
    weighted_sum-added (scaled c first) (combined newest cs (λ k. f (suc k))) _
    ∙ rw (weighted_sum-scaled c first (λ k. x (newest -ℤ pos k)), filter-aligned (f zero) x newest (h zero), filter-combined newest cs (λ k. f (suc k)) x (λ k. h (suc k))) refl

pub combined-later : (delay newest : ℤ) (taps : List ℤ) (f g : ℕ → Response) → ((k : ℕ) → g k ≡ later delay (f k))
    → combined (newest +ℤ delay) taps g ≡ combined newest taps f
combined-later delay newest [] f g h = refl
combined-later delay newest (c ∷ cs) f g h =
    let gap : newest +ℤ delay -ℤ ((f zero).newest +ℤ delay) ≡ newest -ℤ (f zero).newest = omega (arith, ints) in
    rw (h zero, gap, combined-later delay newest cs (λ k. f (suc k)) (λ k. g (suc k)) (λ k. h (suc k))) refl

-- sums of equal responses
pub respond-later : (delay : ℤ) (r : Response) (x : Sequence) → respond (later delay r) x ≡ weighted_sum r.weights (λ i. x (r.newest +ℤ delay -ℤ pos i))
respond-later delay r x = refl
