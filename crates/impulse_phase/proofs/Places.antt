-- A sum of responses, place by place, as a program reads it that makes no list.
use Rattle.std.proofs.Common.{◌≡◌, ℕ, zero, suc, ◌*◌, ◌/◌, List, [], ◌∷◌, get_or, ℤ, pos, ◌-ℤ◌, ◌*ℤ◌, ◌≤ℤ◌, arith, refl, ◌∙◌}
use Rattle.std.proofs.lemmas.Int.{ints}
use Rattle.mr_values.specs.declared.plan.Element.{Element}
use Rattle.mr_values.specs.declared.plan.Element.TheVariants.{Up, Down, Filter, CicDown, CicUp, Round, Clip}
use Rattle.mr_values.specs.Sequence.{weighted_sum, ones}
use Rattle.mr_values.specs.Value.{size}
use Rattle.impulse_phase.specs.Response.{Response, Responses, scaled, behind, combined, through_up, through_filters, through, through_all, direct, responses, IsLinear, AreLinear}
use Rattle.impulse_phase.proofs.Gain.{get_or-added, get_or-scaled}

pub combined-place : (newest : ℤ) (cs : List ℤ) (f : ℕ → Response) (i : ℕ)
    → get_or (combined newest cs f) i (pos 0) ≡ weighted_sum cs (λ k. get_or (behind (size (newest -ℤ (f k).newest)) (f k).weights) i (pos 0))
combined-place newest [] f i = refl
combined-place newest (c ∷ cs) f i =
    let first = behind (size (newest -ℤ (f zero).newest)) (f zero).weights in
    get_or-added (scaled c first) (combined newest cs (λ k. f (suc k))) i
    ∙ rw (get_or-scaled c first i, combined-place newest cs (λ k. f (suc k)) i) refl

-- ---- the newest sample at an index of 0 or more is one of 0 or more

down-forward : (factor : ℕ) (f : Responses) → ((n : ℕ) → pos 0 ≤ℤ (f (pos n)).newest) → (n : ℕ) → pos 0 ≤ℤ (f (pos n *ℤ pos factor)).newest
down-forward factor f h n = let at : pos n *ℤ pos factor ≡ pos (n * factor) = omega (arith, ints) in rw at (h (n * factor))

pub filters-newest : (count : ℕ) (taps : List ℤ) (f : Responses) (n : ℤ) → (through_filters count taps f n).newest ≡ (f n).newest
filters-newest zero taps f n = refl
filters-newest (suc count) taps f n = filters-newest count taps f n

element-forward : (e : Element) (f : Responses) → IsLinear e → ((n : ℕ) → pos 0 ≤ℤ (f (pos n)).newest) → (n : ℕ) → pos 0 ≤ℤ (through e f (pos n)).newest
element-forward (Up factor) f linear h n = h (n / size factor)
element-forward (Down factor) f linear h n = down-forward (size factor) f h n
element-forward (Filter taps form) f linear h n = h n
element-forward (CicDown factor stages delay) f linear h n =
    rw (filters-newest (size stages) (ones (size factor * size delay)) f (pos n *ℤ pos (size factor))) (down-forward (size factor) f h n)
element-forward (CicUp factor stages delay) f linear h n =
    rw (filters-newest (size stages) (ones (size factor * size delay)) (through_up (size factor) f) (pos n)) (h (n / size factor))
element-forward (Round shift mode) f linear h n = absurd linear
element-forward (Clip bits) f linear h n = absurd linear

elements-forward : (es : List Element) (f : Responses) → AreLinear es → ((n : ℕ) → pos 0 ≤ℤ (f (pos n)).newest) → (n : ℕ) → pos 0 ≤ℤ (through_all es f (pos n)).newest
elements-forward [] f linear h n = h n
elements-forward (e ∷ es) f linear h n = elements-forward es (through e f) linear.1 (element-forward e f linear.0 h) n

pub prefix-forward : (es : List Element) (n : ℕ) → AreLinear es → pos 0 ≤ℤ (responses es (pos n)).newest
prefix-forward es n linear = elements-forward es direct linear (λ m. omega (arith, ints)) n
