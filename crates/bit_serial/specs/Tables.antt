-- Runs of taps, and the table of each, as a tree of choices over the sums of every subset of the run.
use Rattle.std.specs.Prelude.{◌≡◌, ◌≢◌, ℕ, zero, suc, ◌+◌, ◌*◌, ◌<◌, ◌≤◌, ◌⊎◌, List, [], ◌∷◌, length, take, drop, ℤ, pos, ◌+ℤ◌}
use Rattle.mr_values.specs.Width.{chosen, wrap}
use Rattle.mr_values.specs.Sequence.{weighted_sum}

-- ---- runs

-- run j of g taps each; the last one may be shorter
abbrev pub run : ℕ → List ℤ → ℕ → List ℤ
run g taps j = take g (drop (j * g) taps)

-- the sums of the first n runs, added
abbrev pub sum_of_runs : ℕ → List ℤ → (ℕ → ℤ) → ℕ → ℤ
sum_of_runs g taps x zero = pos 0
sum_of_runs g taps x (suc n) = sum_of_runs g taps x n +ℤ weighted_sum (run g taps n) (λ k. x (n * g + k))

-- Runs that cover the taps sum to the whole.
abbrev pub RunsLaw : Type 0
RunsLaw = (g : ℕ) (taps : List ℤ) (x : ℕ → ℤ) (n : ℕ) → length taps ≤ n * g → sum_of_runs g taps x n ≡ weighted_sum taps x

-- ---- a tree of choices

-- a number that is chosen by: not 0 exactly where the bit is 1
abbrev pub Shows : ℤ → ℕ → Type 0
Shows on bit = (bit ≡ 0) × (on ≡ pos 0) ⊎ (bit ≡ 1) × (on ≢ pos 0)

-- the table as a tree of choices over its entries, the bit of tap 0 chosen last
abbrev pub chosen_sum : List ℤ → ℤ → (ℕ → ℤ) → ℤ
chosen_sum [] so_far on = so_far
chosen_sum (c ∷ cs) so_far on = chosen (on zero) (chosen_sum cs (so_far +ℤ c) (λ k. on (suc k))) (chosen_sum cs so_far (λ k. on (suc k)))

abbrev pub ChosenLaw : Type 0
ChosenLaw = (taps : List ℤ) (so_far : ℤ) (on : ℕ → ℤ) (bits : ℕ → ℕ) → ((k : ℕ) → k < length taps → Shows (on k) (bits k)) → chosen_sum taps so_far on ≡ so_far +ℤ weighted_sum taps (λ k. pos (bits k))

-- A bit shows itself, also where it is cut to one bit.
abbrev pub ShowsLaw : Type 0
ShowsLaw = (bit : ℕ) → bit < 2 → Shows (pos bit) bit × Shows (wrap 1 (pos bit)) bit
