-- How great the weights of a sum and its parts are, where the values of the streams are small.
use Rattle.std.proofs.Common.{◌≡◌, ℕ, zero, suc, ◌+◌, ◌-◌, ◌*◌, ◌≤◌, List, [], ◌∷◌, length, take, get_or, All, ℤ, pos, negsuc, unsigned_abs, ◌+ℤ◌, ◌-ℤ◌, ◌*ℤ◌, arith, refl, sym, ◌∙◌, ap, subst}
use Rattle.std.proofs.Math.Nat.{mul-le-mul_left, mul-add, mul_comm}
use Rattle.std.proofs.lemmas.Int.{ints, unsigned_abs-mul}
use Rattle.std.proofs.lemmas.Nat.{pow_pos}
use Rattle.mr_values.specs.Width.{FitsWidth}
use Rattle.mr_values.specs.Sequence.{Sequence, samples, filter, weighted_sum}
use Rattle.mr_values.specs.Timing.{low_end}
use Rattle.mr_values.proofs.Polyphase.{weighted_sum-same}
use Rattle.plan_check.proofs.Narrow.{triangle}
use Rattle.stage_law.specs.Streams.{AreWithin, magnitudes}
use Rattle.impulse_phase.specs.Response.{Response, Responses, respond, HasResponses}
use Rattle.impulse_phase.proofs.Ends.{ends_for, history, length-tabulate, get_or-tabulate, samples-history}
use Rattle.impulse_phase.proofs.Steps.{recurs-times}
use Rattle.width_extreme.specs.Prefix.{IsStream}
use Rattle.width_extreme.proofs.Ranges.{zero-fits, shortfall, shortfall-enough, product-at_least}

-- ---- samples that stand beside the weights of a response

-- each of these numbers fits, wherever it is read
abbrev pub AllFit : ℕ → List ℤ → Type 0
AllFit w cs = (k : ℕ) → FitsWidth w (get_or cs k (pos 0))

pub history-fits : (w : ℕ) (cs : List ℤ) (newest : ℕ) → AllFit w cs → All (FitsWidth w) (history newest cs)
history-fits w cs newest h k d below =
    subst (FitsWidth w) (sym (get_or-tabulate (suc newest) (λ n. get_or cs (newest - n) (pos 0)) k d (omega (arith, length-tabulate (suc newest) (λ n. get_or cs (newest - n) (pos 0))))))
    (h (newest - k))

-- some samples that fit give this sum at some index
pub record Reaches (transform : Sequence → Sequence) (w : ℕ) (sum : ℤ) : Type 0 where
  pub xs : List ℤ
  pub fits : All (FitsWidth w) xs
  pub index : ℤ
  pub is : transform (samples xs) index ≡ sum

pub beside : (transform : Sequence → Sequence) (f : Responses) (classes step w : ℕ) → HasResponses transform f classes step → (n : ℤ) (cs : List ℤ) → AllFit w cs
    → Reaches transform w (weighted_sum (f n).weights (λ i. get_or cs i (pos 0)))
beside transform f classes step w h n cs fits = by_newest ((f n).newest +ℤ pos (rounds * step)) refl
  where
    rounds : ℕ
    rounds = length cs + shortfall (f n).newest

    far : rounds ≤ rounds * step
    far = let one = product-at_least rounds 1 step (omega arith) h.has_step in omega (arith, one)

    by_newest : (z : ℤ) → (f n).newest +ℤ pos (rounds * step) ≡ z → Reaches transform w (weighted_sum (f n).weights (λ i. get_or cs i (pos 0)))
    by_newest (negsuc m) e = absurd (omega (arith, ints, e, shortfall-enough (f n).newest, far))
    by_newest (pos newest) e =
        let xs = history newest cs in
        let long : length cs ≤ suc newest = omega (arith, ints, e, shortfall-enough (f n).newest, far) in
        record {
          xs = xs;
          fits = history-fits w cs newest fits;
          index = n +ℤ pos (rounds * classes);
          is = h.gives (samples xs) (n +ℤ pos (rounds * classes))
              ∙ ap (λ (r : Response). respond r (samples xs)) (recurs-times transform f classes step h rounds n)
              ∙ weighted_sum-same (f n).weights _ _ (λ i. ap (λ (z : ℤ). samples xs (z -ℤ pos i)) e ∙ samples-history newest cs i long);
        }

pub within-reached : (transform : Sequence → Sequence) (w most : ℕ) (sum : ℤ) → AreWithin (IsStream transform w) most → Reaches transform w sum → unsigned_abs sum ≤ most
within-reached transform w most sum h r =
    subst (λ (z : ℤ). unsigned_abs z ≤ most) r.is (h.each (transform (samples r.xs)) (record { xs = r.xs; fits = r.fits; is = λ n. refl }) r.index)

-- ---- one sample that isn't 0

abbrev pub only : ℕ → ℤ → List ℤ
only zero z = z ∷ []
only (suc k) z = pos 0 ∷ only k z

only-fits : (w k : ℕ) (z : ℤ) → FitsWidth w z → AllFit w (only k z)
only-fits w zero z h zero = h
only-fits w zero z h (suc i) = zero-fits w
only-fits w (suc k) z h zero = zero-fits w
only-fits w (suc k) z h (suc i) = only-fits w k z h i

beside-none : (ws : List ℤ) → weighted_sum ws (λ i. pos 0) ≡ pos 0
beside-none [] = refl
beside-none (c ∷ cs) = omega (arith, ints, beside-none cs)

beside-only : (ws : List ℤ) (k : ℕ) (z : ℤ) → weighted_sum ws (λ i. get_or (only k z) i (pos 0)) ≡ get_or ws k (pos 0) *ℤ z
beside-only [] k z = omega (arith, ints)
beside-only (c ∷ cs) zero z = omega (arith, ints, beside-none cs)
beside-only (c ∷ cs) (suc k) z = omega (arith, ints, beside-only cs k z)

-- ---- the first samples of an end

ends-fit : (w : ℕ) (low high : ℤ) (ws : List ℤ) → FitsWidth w low → FitsWidth w high → AllFit w (ends_for low high ws)
ends-fit w low high [] l h k = zero-fits w
ends-fit w low high (pos c ∷ ws) l h zero = l
ends-fit w low high (negsuc c ∷ ws) l h zero = h
ends-fit w low high (c ∷ ws) l h (suc k) = ends-fit w low high ws l h k

beside-ends : (ws : List ℤ) (low high : ℤ) (k : ℕ) → weighted_sum ws (λ i. get_or (ends_for low high (take k ws)) i (pos 0)) ≡ low_end (take k ws) low high
beside-ends [] low high zero = refl
beside-ends [] low high (suc k) = refl
beside-ends (c ∷ ws) low high zero = beside-none (c ∷ ws)
beside-ends (pos c ∷ ws) low high (suc k) = ap (λ (z : ℤ). pos c *ℤ low +ℤ z) (beside-ends ws low high k)
beside-ends (negsuc c ∷ ws) low high (suc k) = ap (λ (z : ℤ). negsuc c *ℤ high +ℤ z) (beside-ends ws low high k)

-- ---- sums of a form

within-filter : (form : List ℤ) (f : ℕ → ℤ) (most : ℕ) → ((k : ℕ) → unsigned_abs (f k) ≤ most) → unsigned_abs (weighted_sum form f) ≤ most * magnitudes form
within-filter [] f most h = omega arith
within-filter (c ∷ cs) f most h =
    let first = triangle (c *ℤ f zero) (weighted_sum cs (λ k. f (suc k))) in
    let product = unsigned_abs-mul c (f zero) in
    let small = mul-le-mul_left (unsigned_abs c) (h zero) in
    let turned = mul_comm (unsigned_abs c) most in
    let split = mul-add most (unsigned_abs c) (magnitudes cs) in
    omega (arith, first, product, small, turned, split, within-filter cs (λ k. f (suc k)) most (λ k. h (suc k)))

pub form-within : (transform : Sequence → Sequence) (w most : ℕ) (form : List ℤ) → AreWithin (IsStream transform w) most
    → AreWithin (IsStream (λ x. filter form (transform x)) w) (most * magnitudes form)
form-within transform w most form h = record {
  each = λ v s k. subst (λ (z : ℤ). unsigned_abs z ≤ most * magnitudes form) (sym (s.is k))
      (within-filter form (λ i. transform (samples s.xs) (k -ℤ pos i)) most (λ i. h.each (transform (samples s.xs)) (record { xs = s.xs; fits = s.fits; is = λ n. refl }) (k -ℤ pos i)));
}

-- ---- what a table's weights are

pub minus_one-fits : (w : ℕ) → FitsWidth w (negsuc 0)
minus_one-fits w = record { low = omega (arith, ints, pow_pos (w - 1)); high = omega (arith, ints, pow_pos (w - 1)) }

pub weights-small : (transform : Sequence → Sequence) (f : Responses) (classes step w most : ℕ) → HasResponses transform f classes step → AreWithin (IsStream transform w) most
    → (n : ℤ) (k : ℕ) → unsigned_abs (get_or (f n).weights k (pos 0)) ≤ most
weights-small transform f classes step w most law h n k =
    let c = get_or (f n).weights k (pos 0) in
    let sum = subst (λ (z : ℤ). unsigned_abs z ≤ most) (beside-only (f n).weights k (negsuc 0))
    (within-reached transform w most _ h (beside transform f classes step w law n (only k (negsuc 0)) (only-fits w k (negsuc 0) (minus_one-fits w)))) in
    omega (arith, sum, unsigned_abs-mul c (negsuc 0))

-- a weight times a sample
pub term-within : (transform : Sequence → Sequence) (f : Responses) (classes step w most : ℕ) → HasResponses transform f classes step → AreWithin (IsStream transform w) most
    → (n : ℤ) (k : ℕ) (z : ℤ) → FitsWidth w z → unsigned_abs (get_or (f n).weights k (pos 0) *ℤ z) ≤ most
term-within transform f classes step w most law h n k z fits =
    subst (λ (y : ℤ). unsigned_abs y ≤ most) (beside-only (f n).weights k z)
    (within-reached transform w most _ h (beside transform f classes step w law n (only k z) (only-fits w k z fits)))

-- the first terms of an end
pub end-within : (transform : Sequence → Sequence) (f : Responses) (classes step w most : ℕ) → HasResponses transform f classes step → AreWithin (IsStream transform w) most
    → (n : ℤ) (k : ℕ) (low high : ℤ) → FitsWidth w low → FitsWidth w high → unsigned_abs (low_end (take k (f n).weights) low high) ≤ most
end-within transform f classes step w most law h n k low high l u =
    subst (λ (y : ℤ). unsigned_abs y ≤ most) (beside-ends (f n).weights low high k)
    (within-reached transform w most _ h (beside transform f classes step w law n (ends_for low high (take k (f n).weights)) (ends-fit w low high (take k (f n).weights) l u)))
