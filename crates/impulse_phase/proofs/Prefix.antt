-- A prefix of linear elements has responses.
use Rattle.std.proofs.Common.{◌≡◌, ℕ, zero, suc, ◌+◌, ◌*◌, ◌/◌, ◌%◌, ◌<◌, ◌≤◌, List, [], ◌∷◌, ℤ, pos, ◌+ℤ◌, ◌-ℤ◌, arith, refl, sym, ◌∙◌, ap}
use Rattle.std.proofs.lemmas.Int.{ints}
use Rattle.std.specs.Int.{IsGcd}
use Rattle.std.proofs.lemmas.Nat.{div-add-mod', mod_below}
use Rattle.std.proofs.lemmas.Nat.Gcd.{mod-eq-zero_of_dvd}
use Rattle.std.proofs.Math.Nat.{mul_left_comm}
use Rattle.mr_values.specs.declared.plan.Element.{Element}
use Rattle.mr_values.specs.declared.plan.Element.TheVariants.{Up, Down, Filter, CicDown, CicUp, Round, Clip}
use Rattle.mr_values.specs.Sequence.{Sequence, samples, weighted_sum, ones, up, down, filter_times}
use Rattle.mr_values.specs.Value.{size, apply, chain, val}
use Rattle.impulse_phase.specs.Response.{Response, Responses, respond, through_up, through_down, through_filters, through, through_all, direct, responses, HasResponses, Cycle, cycle_down, cycle_after, cycle_after_all, full_cycle, IsLinear, AreLinear}
use Rattle.plan_check.specs.Costs.{gcd}
use Rattle.plan_check.proofs.Divisors.{IsGcd-gcd}
use Rattle.impulse_phase.proofs.Steps.{direct-has, filter-keeps, down-keeps, up-keeps, filters-keep, recurs-times}

-- a multiple of what divides it
quotient-whole : (a g : ℕ) → a % g ≡ 0 → a / g * g ≡ a
quotient-whole a g h = omega (arith, div-add-mod' a g)

factor-positive : (a g n : ℕ) → a * g ≡ n → 0 < n → 0 < a
factor-positive zero g n e h = absurd (omega arith)
factor-positive (suc a) g n e h = omega arith

product-positive : (a b : ℕ) → 0 < a → 0 < b → 0 < a * b
product-positive zero b ha hb = absurd (omega arith)
product-positive (suc a) b ha hb = omega arith

pub common-turns : (a b : ℕ) → (a / gcd a b * b ≡ b / gcd a b * a)
common-turns a b =
    let greatest = IsGcd-gcd a b in
    let g = gcd a b in
    let left = quotient-whole a g (mod-eq-zero_of_dvd g greatest.0) in
    let right = quotient-whole b g (mod-eq-zero_of_dvd g greatest.1) in
    ap (λ (n : ℕ). a / g * n) (sym right) ∙ mul_left_comm (a / g) (b / g) g ∙ ap (λ (n : ℕ). b / g * n) left

pub common-positive : (a b : ℕ) → 0 < a → 0 < a / gcd a b
common-positive a b h = factor-positive (a / gcd a b) (gcd a b) a (quotient-whole a (gcd a b) (mod-eq-zero_of_dvd (gcd a b) (IsGcd-gcd a b).0)) h

pub common-positive_right : (a b : ℕ) → 0 < b → 0 < b / gcd a b
common-positive_right a b h = factor-positive (b / gcd a b) (gcd a b) b (quotient-whole b (gcd a b) (mod-eq-zero_of_dvd (gcd a b) (IsGcd-gcd a b).1)) h

pub down-turns : (factor : ℕ) (transform : Sequence → Sequence) (f : Responses) (p : Cycle) → 0 < factor → HasResponses transform f p.classes p.step
    → HasResponses (λ x. down factor (transform x)) (through_down factor f) (cycle_down factor p).classes (cycle_down factor p).step
down-turns factor transform f p positive h =
    down-keeps factor (factor / gcd p.classes factor) (p.classes / gcd p.classes factor) (factor / gcd p.classes factor * p.step) transform f p.classes p.step h
    (common-positive p.classes factor h.has_class)
    (product-positive (factor / gcd p.classes factor) p.step (common-positive_right p.classes factor positive) h.has_step)
    (common-turns p.classes factor)
    refl

pub element-keeps : (e : Element) (transform : Sequence → Sequence) (f : Responses) (p : Cycle) → IsLinear e → HasResponses transform f p.classes p.step
    → HasResponses (λ x. apply e (transform x)) (through e f) (cycle_after e p).classes (cycle_after e p).step
element-keeps (Up factor) transform f p linear h = up-keeps (size factor) transform f p.classes p.step linear h
element-keeps (Down factor) transform f p linear h = down-turns (size factor) transform f p linear h
element-keeps (Filter taps form) transform f p linear h = filter-keeps taps transform f p.classes p.step h
element-keeps (CicDown factor stages delay) transform f p linear h =
    let width = size factor * size delay in
    down-turns (size factor) (λ x. filter_times (size stages) (ones width) (transform x)) (through_filters (size stages) (ones width) f) p linear
    (filters-keep (size stages) (ones width) transform f p.classes p.step h)
element-keeps (CicUp factor stages delay) transform f p linear h =
    filters-keep (size stages) (ones (size factor * size delay)) (λ x. up (size factor) (transform x)) (through_up (size factor) f) (p.classes * size factor) p.step
    (up-keeps (size factor) transform f p.classes p.step linear h)
element-keeps (Round shift mode) transform f p linear h = absurd linear
element-keeps (Clip bits) transform f p linear h = absurd linear

pub elements-keep : (es : List Element) (transform : Sequence → Sequence) (f : Responses) (p : Cycle) → AreLinear es → HasResponses transform f p.classes p.step
    → HasResponses (λ x. chain es (transform x)) (through_all es f) (cycle_after_all es p).classes (cycle_after_all es p).step
elements-keep [] transform f p linear h = h
elements-keep (e ∷ es) transform f p linear h =
    elements-keep es (λ x. apply e (transform x)) (through e f) (cycle_after e p) linear.1 (element-keeps e transform f p linear.0 h)

-- the prefix has responses
pub prefix-has : (es : List Element) → AreLinear es → HasResponses (chain es) (responses es) (full_cycle es).classes (full_cycle es).step
prefix-has es linear = elements-keep es (λ x. x) direct (record { classes = 1; step = 1 }) linear direct-has

-- the value at an index that is j cycles past the class
pub val-by_class : (es : List Element) (xs : List ℤ) (class j : ℕ) → AreLinear es
    → val es xs (pos (class + j * (full_cycle es).classes))
    ≡ weighted_sum (responses es (pos class)).weights (λ i. samples xs ((responses es (pos class)).newest +ℤ pos (j * (full_cycle es).step) -ℤ pos i))
val-by_class es xs class j linear =
    let h = prefix-has es linear in
    let at : pos (class + j * (full_cycle es).classes) ≡ pos class +ℤ pos (j * (full_cycle es).classes) = omega (arith, ints) in
    h.gives (samples xs) (pos (class + j * (full_cycle es).classes))
    ∙ ap (λ (r : Response). respond r (samples xs)) (ap (responses es) at ∙ recurs-times (chain es) (responses es) (full_cycle es).classes (full_cycle es).step h j (pos class))
