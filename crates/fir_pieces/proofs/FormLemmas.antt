-- The weights of terms, and how great they are.
use Rattle.std.proofs.Common.{◌≡◌, ℕ, zero, suc, ◌+◌, ◌*◌, ◌^◌, ◌<◌, ◌≤◌, List, [], ◌∷◌, length, get_or, set, replicate, refl, sym, ◌∙◌, ap, arith, Bool, true, false, ℤ, pos, negsuc, neg_ℤ, ◌+ℤ◌, ◌*ℤ◌, All, unsigned_abs, subst}
use Rattle.std.proofs.lemmas.Int.{ints, to_z-of_z, fits_signed_from_abs}
use Rattle.std.proofs.Math.Nat.{mul-le-mul_left}
use Rattle.std.specs.Prelude.{FitsSigned}
use mir.Val.{to_z, of_z}
use mir.Syntax.{w128}
use Rattle.std.proofs.Math.Pow.{pow_mono}
use Rattle.std.proofs.lemmas.List.{length-set}
use Rattle.std.proofs.lemmas.List.Elements.{All-head, All-tail}
use Rattle.mr_values.specs.Digit.{with_sign}
use Rattle.mr_values.specs.Sequence.{weighted_sum}
use Rattle.mr_values.proofs.Ring.{+ℤ-*ℤ}
use Rattle.signed_digit.specs.declared.term_list.Term.{Term}
use Rattle.signed_digit.specs.Terms.{term_sum}
use Rattle.pipeline_balance.specs.Leaves.{signed_by}
use Rattle.stage_law.specs.Streams.{magnitudes}
use Rattle.fir_pieces.specs.Placed.{powers}
use Rattle.fir_pieces.specs.Form.{power_of, with_term, with_terms, reach_of, weights_by}

-- ---- sums

-- one weight more
weighted_sum-set : (xs : List ℤ) (i : ℕ) (z : ℤ) (f : ℕ → ℤ) → i < length xs → weighted_sum (set xs i (get_or xs i (pos 0) +ℤ z)) f ≡ weighted_sum xs f +ℤ z *ℤ f i
weighted_sum-set [] i z f h = absurd (omega arith)
weighted_sum-set (x ∷ xs) zero z f h = omega (arith, ints, +ℤ-*ℤ x z (f zero))
weighted_sum-set (x ∷ xs) (suc i) z f h = omega (arith, ints, weighted_sum-set xs i z (λ k. f (suc k)) (omega arith))

signed_sum_of : (m : Bool) (a b : ℤ) → signed_by m (a +ℤ b) ≡ signed_by m a +ℤ signed_by m b
signed_sum_of true a b = omega (arith, ints)
signed_sum_of false a b = refl

pub neg_times : (a b : ℤ) → neg_ℤ a *ℤ b ≡ neg_ℤ (a *ℤ b)
neg_times a b = let zero_sum = +ℤ-*ℤ (neg_ℤ a) a b in let nothing : neg_ℤ a +ℤ a ≡ pos 0 = omega (arith, ints) in let e : (neg_ℤ a +ℤ a) *ℤ b ≡ pos 0 *ℤ b = ap (λ (z : ℤ). z *ℤ b) nothing in let none : pos 0 *ℤ b ≡ pos 0 = omega (arith, ints) in omega (arith, ints, zero_sum, e, none)

pub signed_times : (m : Bool) (a b : ℤ) → signed_by m a *ℤ b ≡ signed_by m (a *ℤ b)
signed_times true a b = neg_times a b
signed_times false a b = refl

signed_zero : (m : Bool) (z : ℤ) → z ≡ z +ℤ signed_by m (pos 0)
signed_zero true z = omega (arith, ints)
signed_zero false z = omega (arith, ints)

sum_three : (a b c d e : ℤ) → d ≡ a +ℤ b → e ≡ b +ℤ c → d +ℤ c ≡ a +ℤ e
sum_three a b c d e p q = omega (arith, ints, p, q)

-- the sum with the weights of some terms more
pub weighted_sum-with_terms : (negated : Bool) (form : List ℤ) (ts : List Term) (f : ℕ → ℤ) → All (λ t. t.index < length form) ts → weighted_sum (with_terms negated form ts) f ≡ weighted_sum form f +ℤ signed_by negated (term_sum f ts)
weighted_sum-with_terms negated form [] f h = signed_zero negated (weighted_sum form f)
weighted_sum-with_terms negated form (t ∷ ts) f h =
    let here = All-head (λ (t : Term). t.index < length form) t ts h in
    let long : length (with_term negated form t) ≡ length form = length-set form t.index (get_or form t.index (pos 0) +ℤ power_of negated t) in
    let rest : All (λ (u : Term). u.index < length (with_term negated form t)) ts = subst (λ (n : ℕ). All (λ (u : Term). u.index < n) ts) (sym long) (All-tail (λ (t : Term). t.index < length form) t ts h) in
    let own = with_sign t.negative (2 ^ t.place) *ℤ f t.index in
    let later = weighted_sum-with_terms negated (with_term negated form t) ts f rest in
    let now : weighted_sum (with_term negated form t) f ≡ weighted_sum form f +ℤ signed_by negated own = weighted_sum-set form t.index (power_of negated t) f here ∙ ap (λ (z : ℤ). weighted_sum form f +ℤ z) (signed_times negated (with_sign t.negative (2 ^ t.place)) (f t.index)) in
    later ∙ sum_three (weighted_sum form f) (signed_by negated own) (signed_by negated (term_sum f ts)) (weighted_sum (with_term negated form t) f) (signed_by negated (own +ℤ term_sum f ts)) now (signed_sum_of negated own (term_sum f ts))

pub weighted_sum-replicate : (n : ℕ) (f : ℕ → ℤ) → weighted_sum (replicate n (pos 0)) f ≡ pos 0
weighted_sum-replicate zero f = refl
weighted_sum-replicate (suc n) f = omega (arith, ints, weighted_sum-replicate n (λ k. f (suc k)))

-- ---- magnitudes

pub unsigned_abs-+ : (a b : ℤ) → unsigned_abs (a +ℤ b) ≤ unsigned_abs a + unsigned_abs b
unsigned_abs-+ a b = by_parts a b
  where
    by_parts : (a b : ℤ) → unsigned_abs (a +ℤ b) ≤ unsigned_abs a + unsigned_abs b
    by_parts a b = grind (arith, ints)

magnitudes-set : (xs : List ℤ) (i : ℕ) (z : ℤ) → magnitudes (set xs i (get_or xs i (pos 0) +ℤ z)) ≤ magnitudes xs + unsigned_abs z
magnitudes-set [] i z = omega arith
magnitudes-set (x ∷ xs) zero z = omega (arith, unsigned_abs-+ x z)
magnitudes-set (x ∷ xs) (suc i) z = omega (arith, magnitudes-set xs i z)

pub magnitudes_entry : (xs : List ℤ) (i : ℕ) → unsigned_abs (get_or xs i (pos 0)) ≤ magnitudes xs
magnitudes_entry [] i = omega arith
magnitudes_entry (x ∷ xs) zero = omega arith
magnitudes_entry (x ∷ xs) (suc i) = omega (arith, magnitudes_entry xs i)

pub magnitudes-replicate : (n : ℕ) → magnitudes (replicate n (pos 0)) ≡ 0
magnitudes-replicate zero = refl
magnitudes-replicate (suc n) = let rest = magnitudes-replicate n in omega arith

pub abs_signed : (m : Bool) (z : ℤ) → unsigned_abs (signed_by m z) ≡ unsigned_abs z
abs_signed true (pos zero) = refl
abs_signed true (pos (suc n)) = refl
abs_signed true (negsuc n) = refl
abs_signed false z = refl

pub abs_with_sign : (m : Bool) (n : ℕ) → unsigned_abs (with_sign m n) ≡ n
abs_with_sign true zero = refl
abs_with_sign true (suc n) = refl
abs_with_sign false n = refl

pub abs_power : (negated : Bool) (t : Term) → unsigned_abs (power_of negated t) ≡ 2 ^ t.place
abs_power negated t = abs_signed negated (with_sign t.negative (2 ^ t.place)) ∙ abs_with_sign t.negative (2 ^ t.place)

pub magnitudes-with_term : (negated : Bool) (form : List ℤ) (t : Term) → magnitudes (with_term negated form t) ≤ magnitudes form + 2 ^ t.place
magnitudes-with_term negated form t = omega (arith, magnitudes-set form t.index (power_of negated t), abs_power negated t)

pub magnitudes-with_terms : (negated : Bool) (form : List ℤ) (ts : List Term) → magnitudes (with_terms negated form ts) ≤ magnitudes form + powers ts
magnitudes-with_terms negated form [] = omega arith
magnitudes-with_terms negated form (t ∷ ts) = omega (arith, magnitudes-with_term negated form t, magnitudes-with_terms negated (with_term negated form t) ts)

pub pow_90 : (place : ℕ) → place ≤ 90 → 2 ^ place ≤ 2 ^ 90
pow_90 place h = pow_mono h

-- ---- numbers of the code

pub sum_fits : (x p : ℤ) → unsigned_abs x ≤ 2 ^ 100 → unsigned_abs p ≤ 2 ^ 90 → FitsSigned w128 (to_z w128 (of_z w128 x) +ℤ to_z w128 (of_z w128 p)) × (to_z w128 (of_z w128 (to_z w128 (of_z w128 x) +ℤ to_z w128 (of_z w128 p))) ≡ x +ℤ p)
sum_fits x p h k =
    let fits_x : FitsSigned w128 x = fits_signed_from_abs w128 x (omega arith) in
    let fits_p : FitsSigned w128 p = fits_signed_from_abs w128 p (omega arith) in
    let fits : FitsSigned w128 (x +ℤ p) = fits_signed_from_abs w128 (x +ℤ p) (omega (arith, unsigned_abs-+ x p)) in
    let same : to_z w128 (of_z w128 x) +ℤ to_z w128 (of_z w128 p) ≡ x +ℤ p = ap (λ (z : ℤ). z +ℤ to_z w128 (of_z w128 p)) (to_z-of_z w128 x fits_x) ∙ ap (λ (z : ℤ). x +ℤ z) (to_z-of_z w128 p fits_p) in
    (subst (FitsSigned w128) (sym same) fits, ap (λ (z : ℤ). to_z w128 (of_z w128 z)) same ∙ to_z-of_z w128 (x +ℤ p) fits)

-- an element that was read
pub read_or : (xs : List ℤ) (i : ℕ) (x d : ℤ) → i < length xs → x ≡ get_or xs i x → x ≡ get_or xs i d
read_or [] i x d h e = absurd (omega arith)
read_or (y ∷ xs) zero x d h e = e
read_or (y ∷ xs) (suc i) x d h e = read_or xs i x d (omega arith) e

pub magnitudes-weights_by : (negated : Bool) (terms : List Term) → magnitudes (weights_by negated terms) ≤ powers terms
magnitudes-weights_by negated terms =
    let bound = magnitudes-with_terms negated (replicate (reach_of terms) (pos 0)) terms in
    let none = magnitudes-replicate (reach_of terms) in
    omega arith

pub form_small : (negated : Bool) (most : ℕ) (terms : List Term) (form : List ℤ) → form ≡ weights_by negated terms → most * powers terms ≤ 2 ^ 126 → most * magnitudes form ≤ 2 ^ 126
form_small negated most terms form e h =
    let bound = magnitudes-weights_by negated terms in
    let same : magnitudes form ≡ magnitudes (weights_by negated terms) = ap magnitudes e in
    let less : magnitudes form ≤ powers terms = omega arith in
    let more : most * magnitudes form ≤ most * powers terms = mul-le-mul_left most less in
    omega arith
