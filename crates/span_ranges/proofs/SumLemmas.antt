-- Sums of a form over the ends of a span.
use Rattle.std.proofs.Common.{◌≡◌, ℕ, zero, suc, ◌+◌, ◌-◌, ◌*◌, ◌≤◌, ◌<◌, ◌^◌, max, List, [], ◌∷◌, ◌++◌, replicate, length, drop, get_or, refl, sym, ◌∙◌, ap, subst, arith, ℤ, pos, negsuc, ◌+ℤ◌, ◌*ℤ◌, ◌≤ℤ◌, ◌<ℤ◌, to_z, of_z, FitsSigned}
use Rattle.std.specs.Prelude.{unsigned_abs}
use Rattle.std.proofs.lemmas.Int.{ints, unsigned_abs-mul, fits_signed_mul, to_z-of_z}
use mir.Syntax.{w128}
use Rattle.std.proofs.lemmas.List.{drop_more, drop_all}
use Rattle.std.proofs.Math.Nat.{mul-le-mul_left, mul_comm, mul-add}
use Rattle.plan_check.proofs.Narrow.{triangle}
use Rattle.mr_values.specs.Sequence.{weighted_sum}
use Rattle.mr_values.specs.Timing.{least_term, low_end, high_end}
use Rattle.stage_law.proofs.WeightLemmas.{count-in, factor-at}
use Rattle.stage_law.specs.Rising.{blank, factors_from, factors_in}
use Rattle.stage_law.specs.Streams.{magnitudes}
use Rattle.stage_law.specs.declared.weights.Weight.{Weight}

-- the end of the span that makes the product with a factor least
abbrev pub end_for : ℤ → ℤ → ℤ → ℤ
end_for low high (pos c) = low
end_for low high (negsuc c) = high

term_is : (low high c : ℤ) → c *ℤ end_for low high c ≡ least_term low high c
term_is low high (pos c) = refl
term_is low high (negsuc c) = refl

pub sum-ends : (form : List ℤ) (low high : ℤ) (f : ℕ → ℤ) → ((k : ℕ) → k < length form → f k ≡ end_for low high (get_or form k (pos 0))) → weighted_sum form f ≡ low_end form low high
sum-ends [] low high f e = refl
sum-ends (c ∷ cs) low high f e =
    ap (λ (z : ℤ). c *ℤ z +ℤ weighted_sum cs (λ k. f (suc k))) (e zero (omega arith))
    ∙ ap (λ (z : ℤ). z +ℤ weighted_sum cs (λ k. f (suc k))) (term_is low high c)
    ∙ ap (λ (z : ℤ). least_term low high c +ℤ z) (sum-ends cs low high (λ k. f (suc k)) (λ k less. e (suc k) (omega arith)))

-- the greatest sum is the least one over the ends turned round
pub high_end-turned : (form : List ℤ) (low high : ℤ) → low_end form high low ≡ high_end form low high
high_end-turned [] low high = refl
high_end-turned (c ∷ cs) low high = ap (λ (z : ℤ). least_term high low c +ℤ z) (high_end-turned cs low high)

-- ---- zeros in front

zero_times : (z : ℤ) → pos 0 *ℤ z ≡ pos 0
zero_times z = grind (arith, ints)

low_end-zeros : (n : ℕ) (weights : List ℤ) (low high : ℤ) → low_end (replicate n (pos 0) ++ weights) low high ≡ low_end weights low high
low_end-zeros zero weights low high = refl
low_end-zeros (suc n) weights low high = omega (arith, ints, low_end-zeros n weights low high, zero_times low)

pub low_end-in : (place : ℕ) (ws : List Weight) (low high : ℤ) → low_end (factors_from place ws) low high ≡ low_end (factors_in ws) low high
low_end-in place [] low high = refl
low_end-in place (w ∷ ws) low high =
    low_end-zeros (w.behind - place) (w.factor ∷ factors_from (suc w.behind) ws) low high
    ∙ ap (λ (z : ℤ). least_term low high w.factor +ℤ z) (low_end-in (suc w.behind) ws low high)

-- ---- products

pub mul_fits : (a b : ℤ) → unsigned_abs a * unsigned_abs b ≤ 2 ^ 126 → FitsSigned w128 (a *ℤ b)
mul_fits a b h = let less : unsigned_abs a * unsigned_abs b < 2 ^ 127 = omega arith in fits_signed_mul w128 a b (unsigned_abs a) (unsigned_abs b) (omega arith) (omega arith) less

pub machine_product : (a b : ℤ) → FitsSigned w128 a → FitsSigned w128 b → to_z w128 (of_z w128 a) *ℤ to_z w128 (of_z w128 b) ≡ a *ℤ b
machine_product a b f g = ap (λ (z : ℤ). z *ℤ to_z w128 (of_z w128 b)) (to_z-of_z w128 a f) ∙ ap (λ (z : ℤ). a *ℤ z) (to_z-of_z w128 b g)

pub term_positive : (low high c : ℤ) → pos 0 ≤ℤ c → c *ℤ low ≡ least_term low high c
term_positive low high (pos c) h = refl
term_positive low high (negsuc c) h = absurd (omega (arith, ints, h))

pub term_negative : (low high c : ℤ) → c <ℤ pos 0 → c *ℤ high ≡ least_term low high c
term_negative low high (pos c) h = absurd (omega (arith, ints, h))
term_negative low high (negsuc c) h = refl

-- ---- a loop over the form

pub sum_more : (form : List ℤ) (i : ℕ) (low high c sum term next whole : ℤ) → i < length form → c ≡ get_or form i (pos 0) → term ≡ least_term low high c → next ≡ sum +ℤ term → sum +ℤ low_end (drop i form) low high ≡ whole → next +ℤ low_end (drop (i + 1) form) low high ≡ whole
sum_more form i low high c sum term next whole less is t n e =
    let head : drop i form ≡ get_or form i (pos 0) ∷ drop (i + 1) form = drop_more form i (pos 0) less in
    let split : low_end (drop i form) low high ≡ least_term low high c +ℤ low_end (drop (i + 1) form) low high =
    ap (λ (cs : List ℤ). low_end cs low high) head ∙ ap (λ (z : ℤ). least_term low high z +ℤ low_end (drop (i + 1) form) low high) (sym is) in
    omega (arith, ints, split)

pub room_more : (form : List ℤ) (i most : ℕ) (c sum term next : ℤ) → i < length form → c ≡ get_or form i (pos 0) → unsigned_abs term ≤ unsigned_abs c * most → next ≡ sum +ℤ term → unsigned_abs sum + most * magnitudes (drop i form) ≤ 2 ^ 126 → unsigned_abs next + most * magnitudes (drop (i + 1) form) ≤ 2 ^ 126
room_more form i most c sum term next less is t n h =
    let grows : unsigned_abs next ≤ unsigned_abs sum + unsigned_abs term = subst (λ (z : ℤ). unsigned_abs z ≤ unsigned_abs sum + unsigned_abs term) (sym n) (triangle sum term) in
    let head : drop i form ≡ get_or form i (pos 0) ∷ drop (i + 1) form = drop_more form i (pos 0) less in
    let split : magnitudes (drop i form) ≡ unsigned_abs c + magnitudes (drop (i + 1) form) =
    ap magnitudes head ∙ ap (λ (z : ℤ). unsigned_abs z + magnitudes (drop (i + 1) form)) (sym is) in
    let whole : most * magnitudes (drop i form) ≡ most * (unsigned_abs c + magnitudes (drop (i + 1) form)) = ap (λ (n : ℕ). most * n) split in
    omega arith

low_most : (m n : ℕ) → m ≤ max m n
low_most m n = omega arith

high_most : (m n : ℕ) → n ≤ max m n
high_most m n = omega arith

pub term-small : (factor low high : ℤ) → unsigned_abs (least_term low high factor) ≤ unsigned_abs factor * max (unsigned_abs low) (unsigned_abs high)
term-small (pos c) low high = omega (arith, unsigned_abs-mul (pos c) low, mul-le-mul_left c (low_most (unsigned_abs low) (unsigned_abs high)))
term-small (negsuc c) low high = omega (arith, unsigned_abs-mul (negsuc c) high, mul-le-mul_left (suc c) (high_most (unsigned_abs low) (unsigned_abs high)))

pub sum_all : (form : List ℤ) (i : ℕ) (low high sum whole : ℤ) → length form ≤ i → sum +ℤ low_end (drop i form) low high ≡ whole → sum ≡ whole
sum_all form i low high sum whole past e =
    let none : low_end (drop i form) low high ≡ pos 0 = ap (λ (cs : List ℤ). low_end cs low high) (drop_all i form past) in
    omega (arith, ints, none)

pub term_small_at : (factor low high term : ℤ) → term ≡ least_term low high factor → unsigned_abs term ≤ unsigned_abs factor * max (unsigned_abs low) (unsigned_abs high)
term_small_at factor low high term e = subst (λ (z : ℤ). unsigned_abs z ≤ unsigned_abs factor * max (unsigned_abs low) (unsigned_abs high)) (sym e) (term-small factor low high)

-- room for what is left holds the next product
pub head-room : (ws : List Weight) (i most : ℕ) (sum : ℤ) → i < length ws → unsigned_abs sum + most * magnitudes (drop i (factors_in ws)) ≤ 2 ^ 126
    → unsigned_abs sum + unsigned_abs (get_or ws i blank).factor * most ≤ 2 ^ 126
head-room ws i most sum less room =
    let inside : i < length (factors_in ws) = omega (arith, less, count-in ws) in
    let head = ap magnitudes (drop_more (factors_in ws) i (pos 0) inside) in
    let own = ap unsigned_abs (factor-at ws i less) in
    let split : magnitudes (drop i (factors_in ws)) ≡ unsigned_abs (get_or ws i blank).factor + magnitudes (drop (i + 1) (factors_in ws)) = omega (arith, head, own) in
    let whole : most * magnitudes (drop i (factors_in ws)) ≡ most * (unsigned_abs (get_or ws i blank).factor + magnitudes (drop (i + 1) (factors_in ws))) = ap (λ (n : ℕ). most * n) split in
    omega (arith, whole, room, mul_comm (unsigned_abs (get_or ws i blank).factor) most, mul-add most (unsigned_abs (get_or ws i blank).factor) (magnitudes (drop (i + 1) (factors_in ws))))
