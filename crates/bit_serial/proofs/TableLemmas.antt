-- Runs of taps, and sums of their subsets.
use Rattle.std.proofs.Common.{◌≡◌, ◌≢◌, ℕ, zero, suc, ◌+◌, ◌*◌, ◌<◌, inl, inr, List, [], ◌∷◌, length, take, drop, ℤ, pos, negsuc, ◌+ℤ◌, ◌*ℤ◌, arith, refl, ◌∙◌, ap}
use Rattle.std.proofs.lemmas.Int.{ints}
use Rattle.std.proofs.lemmas.List.{take_all}
use Rattle.mr_values.specs.Width.{chosen, signed, pattern}
use Rattle.mr_values.specs.Sequence.{weighted_sum}
use Rattle.mr_values.proofs.Polyphase.{weighted_sum-same}
use Rattle.bit_serial.specs.Tables.{sum_of_runs, RunsLaw, ChosenLaw, ShowsLaw}

pub weighted_sum-split : (a g : ℕ) (cs : List ℤ) (f : ℕ → ℤ) → weighted_sum (take (a + g) cs) f ≡ weighted_sum (take a cs) f +ℤ weighted_sum (take g (drop a cs)) (λ k. f (a + k))
weighted_sum-split zero g cs f =
    let place : zero + g ≡ g = omega arith in
    rw place (omega (arith, ints, weighted_sum-same (take g cs) f (λ k. f (zero + k)) (λ k. ap f (omega arith))))
weighted_sum-split (suc a) g [] f = omega (arith, ints, none (suc a + g) f, none g (λ k. f (suc a + k)))
  where
    none : (n : ℕ) (f : ℕ → ℤ) → weighted_sum (take n []) f ≡ pos 0
    none zero f = refl
    none (suc n) f = refl
weighted_sum-split (suc a) g (c ∷ cs) f =
    let place : suc a + g ≡ suc (a + g) = omega arith in
    rw place (omega (arith, ints, weighted_sum-split a g cs (λ k. f (suc k)), weighted_sum-same (take g (drop a cs)) (λ k. f (suc (a + k))) (λ k. f (suc a + k)) (λ k. ap f (omega arith))))

runs_taken : (g : ℕ) (taps : List ℤ) (x : ℕ → ℤ) (n : ℕ) → sum_of_runs g taps x n ≡ weighted_sum (take (n * g) taps) x
runs_taken g taps x zero = let none : 0 * g ≡ 0 = omega arith in rw none refl
runs_taken g taps x (suc n) =
    let place : suc n * g ≡ n * g + g = omega arith in
    rw place (omega (arith, ints, runs_taken g taps x n, weighted_sum-split (n * g) g taps x))

pub runs_law : RunsLaw
runs_law g taps x n h = runs_taken g taps x n ∙ ap (λ (cs : List ℤ). weighted_sum cs x) (take_all (n * g) taps h)

chosen_set : (on a b : ℤ) → on ≢ pos 0 → chosen on a b ≡ a
chosen_set (pos zero) a b h = absurd (h refl)
chosen_set (pos (suc n)) a b h = refl
chosen_set (negsuc n) a b h = refl

pub chosen_law : ChosenLaw
chosen_law [] so_far on bits shows = omega (arith, ints)
chosen_law (c ∷ cs) so_far on bits shows =
    let rest = λ (k : ℕ) (h : k < length cs). shows (suc k) (omega arith) in
    elim (shows zero (omega arith)) [
      | inl s ↦
          rw s.1 (omega (arith, ints, ap (λ (n : ℕ). c *ℤ pos n) s.0, chosen_law cs so_far (λ k. on (suc k)) (λ k. bits (suc k)) rest))
      | inr s ↦
          chosen_set (on zero) _ _ s.1 ∙ omega (arith, ints, ap (λ (n : ℕ). c *ℤ pos n) s.0, chosen_law cs (so_far +ℤ c) (λ k. on (suc k)) (λ k. bits (suc k)) rest)
    ]

pub shows_law : ShowsLaw
unfolding signed pattern
shows_law zero h = (inl (refl, refl), inl (refl, refl))
shows_law (suc zero) h = (inr (refl, λ e. absurd (omega (arith, ints, e))), inr (refl, λ e. absurd (omega (arith, ints, e))))
shows_law (suc (suc b)) h = absurd (omega arith)
