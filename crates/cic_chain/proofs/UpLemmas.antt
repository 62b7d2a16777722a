-- Integrators over combs are moving sums, and combs pass an expander.
use Rattle.std.proofs.Common.{◌≡◌, ℕ, zero, suc, ◌+◌, ◌*◌, ◌≤◌, ℤ, pos, negsuc, ◌+ℤ◌, ◌-ℤ◌, ◌*ℤ◌, arith, refl, sym, ◌∙◌, ap, Bool, true, false, cond, nat_eq}
use Rattle.std.proofs.Math.Path.{fun_ext}
use Rattle.std.proofs.lemmas.Int.{ints}
use Rattle.mr_values.specs.Width.{pattern, signed, wrap, floor_quotient, floor_remainder}
use Rattle.mr_values.proofs.WidthLemmas.{wrap_fits, wrap_zero}
use Rattle.mr_values.specs.Sequence.{Sequence, up}
use Rattle.cic_chain.specs.Cascade.{IsCausal, whole, sum_to, integrator, integrators, combs, interpolator, AreCongruent, WholeUp, WrappedUp}
use Rattle.mr_values.proofs.Ring.{+ℤ-*ℤ}
use Rattle.mr_values.proofs.Division.{floor_unique, floor_split, floor_remainder_below}
use Rattle.cic_chain.proofs.WholeLemmas.{plain_comb, plain_combs, combs-plain, integrator-step, integrators-causal, combs-integrators}
use Rattle.cic_chain.proofs.WrapLemmas.{integrators-from, combs-congruent, cut_again}

-- ---- a comb commutes with an integrator

sum_to-comb : (m : ℕ) (x : Sequence) → IsCausal x → (n : ℕ) → sum_to whole (plain_comb m x) n ≡ integrator whole x (pos n) -ℤ integrator whole x (pos n -ℤ pos m)
sum_to-comb m x c zero =
    let before : (pos zero -ℤ pos m) -ℤ pos 1 ≡ negsuc m = omega (arith, ints) in
    first (x (pos zero)) (x (pos zero -ℤ pos m)) (integrator whole x (pos zero -ℤ pos m)) (integrator-step x c (pos zero -ℤ pos m) ∙ ap (λ (i : ℤ). x (pos zero -ℤ pos m) +ℤ integrator whole x i) before)
  where
    first : (a b i : ℤ) → i ≡ b +ℤ pos 0 → a -ℤ b ≡ a -ℤ i
    first a b i e = omega (arith, ints)
sum_to-comb m x c (suc n) =
    let before : (pos (suc n) -ℤ pos m) -ℤ pos 1 ≡ pos n -ℤ pos m = omega (arith, ints) in
    next _ (integrator whole x (pos n)) (integrator whole x (pos n -ℤ pos m)) (x (pos (suc n))) (x (pos (suc n) -ℤ pos m)) (integrator whole x (pos (suc n) -ℤ pos m)) (sum_to-comb m x c n)
    (integrator-step x c (pos (suc n) -ℤ pos m) ∙ ap (λ (i : ℤ). x (pos (suc n) -ℤ pos m) +ℤ integrator whole x i) before)
  where
    next : (s i j a b k : ℤ) → s ≡ i -ℤ j → k ≡ b +ℤ j → s +ℤ (a -ℤ b) ≡ (i +ℤ a) -ℤ k
    next s i j a b k e f = omega (arith, ints)

comb-commutes : (m : ℕ) (x : Sequence) → IsCausal x → integrator whole (plain_comb m x) ≡ plain_comb m (integrator whole x)
comb-commutes m x c = fun_ext at
  where
    at : (n : ℤ) → integrator whole (plain_comb m x) n ≡ plain_comb m (integrator whole x) n
    at (pos n) = sum_to-comb m x c n
    at (negsuc n) = let e : negsuc n -ℤ pos m ≡ negsuc (n + m) = omega (arith, ints) in sym (ap (λ (i : ℤ). pos 0 -ℤ integrator whole x i) e)

comb-causal : (m : ℕ) (x : Sequence) → IsCausal x → IsCausal (plain_comb m x)
comb-causal m x c n = let e : negsuc n -ℤ pos m ≡ negsuc (n + m) = omega (arith, ints) in ap (λ (a : ℤ). a -ℤ x (negsuc n -ℤ pos m)) (c n) ∙ ap (λ (i : ℤ). pos 0 -ℤ x i) e ∙ ap (λ (a : ℤ). pos 0 -ℤ a) (c (n + m))

combs-causal : (k m : ℕ) (x : Sequence) → IsCausal x → IsCausal (plain_combs k m x)
combs-causal zero m x c = c
combs-causal (suc k) m x c = comb-causal m (plain_combs k m x) (combs-causal k m x c)

combs-integrator : (k m : ℕ) (x : Sequence) → IsCausal x → integrator whole (plain_combs k m x) ≡ plain_combs k m (integrator whole x)
combs-integrator zero m x c = refl
combs-integrator (suc k) m x c = comb-commutes m (plain_combs k m x) (combs-causal k m x c) ∙ ap (plain_comb m) (combs-integrator k m x c)

combs-commute : (j k m : ℕ) (x : Sequence) → IsCausal x → integrators whole j (plain_combs k m x) ≡ plain_combs k m (integrators whole j x)
combs-commute zero k m x c = refl
combs-commute (suc j) k m x c = ap (integrator whole) (combs-commute j k m x c) ∙ combs-integrator k m (integrators whole j x) (integrators-causal j x c)

-- ---- a comb passes an expander

module _ (factor : ℕ) (positive : 1 ≤ factor) where
  moved : (m : ℤ) (delay : ℕ) → (floor_quotient (m -ℤ pos (factor * delay)) factor ≡ floor_quotient m factor -ℤ pos delay) × (floor_remainder (m -ℤ pos (factor * delay)) factor ≡ floor_remainder m factor)
  moved m delay =
      let q = floor_quotient m factor in
      let r = floor_remainder m factor in
      let split : (q -ℤ pos delay) +ℤ pos delay ≡ q = omega (arith, ints) in
      floor_unique (m -ℤ pos (factor * delay)) (q -ℤ pos delay) factor r (floor_remainder_below m factor positive)
      (apart ((q -ℤ pos delay) *ℤ pos factor) (((q -ℤ pos delay) +ℤ pos delay) *ℤ pos factor) (q *ℤ pos factor) r (ap (λ (z : ℤ). z *ℤ pos factor) split) (+ℤ-*ℤ (q -ℤ pos delay) (pos delay) (pos factor)) (floor_split m factor positive))
    where
      apart : (a b c : ℤ) (r : ℕ) → b ≡ c → b ≡ a +ℤ pos delay *ℤ pos factor → m ≡ c +ℤ pos r → m -ℤ pos (factor * delay) ≡ a +ℤ pos r
      apart a b c r e f g = omega (arith, ints)

  up-comb : (delay : ℕ) (x : Sequence) → up factor (plain_comb delay x) ≡ plain_comb (factor * delay) (up factor x)
  up-comb delay x = fun_ext (λ m.
      let here = moved m delay in
      each (nat_eq (floor_remainder m factor) 0) (x (floor_quotient m factor)) (x (floor_quotient m factor -ℤ pos delay))
      ∙ ap (λ (i : ℤ). up factor x m -ℤ cond (nat_eq (floor_remainder m factor) 0) (x i) (pos 0)) (sym here.0)
      ∙ ap (λ (r : ℕ). up factor x m -ℤ cond (nat_eq r 0) (x (floor_quotient (m -ℤ pos (factor * delay)) factor)) (pos 0)) (sym here.1))
    where
      each : (b : Bool) (p q : ℤ) → cond b (p -ℤ q) (pos 0) ≡ cond b p (pos 0) -ℤ cond b q (pos 0)
      each true p q = refl
      each false p q = refl

  up-combs : (k delay : ℕ) (x : Sequence) → up factor (plain_combs k delay x) ≡ plain_combs k (factor * delay) (up factor x)
  up-combs zero delay x = refl
  up-combs (suc k) delay x = up-comb delay (plain_combs k delay x) ∙ ap (plain_comb (factor * delay)) (up-combs k delay x)

  pub up-causal : (x : Sequence) → IsCausal x → IsCausal (up factor x)
  up-causal x c n = each (nat_eq (floor_remainder (negsuc n) factor) 0) (x (floor_quotient (negsuc n) factor)) (c _)
    where
      each : (b : Bool) (z : ℤ) → z ≡ pos 0 → cond b z (pos 0) ≡ pos 0
      each true z e = e
      each false z e = refl

pub whole_up : WholeUp
whole_up factor stages delay x positive c n =
    let causal = up-causal factor positive x c in
    ap (λ (y : Sequence). y n) (ap (λ (y : Sequence). integrators whole stages (up factor y)) (combs-plain stages delay x) ∙ ap (integrators whole stages) (up-combs factor positive stages delay x) ∙ combs-commute stages stages (factor * delay) (up factor x) causal ∙ combs-integrators stages (factor * delay) (up factor x) causal)

-- ---- modulo a power of two

module _ (w : ℕ) (wide : 1 ≤ w) where
  up-congruent : (factor : ℕ) (x y : Sequence) → AreCongruent w x y → AreCongruent w (up factor x) (up factor y)
  up-congruent factor x y c = λ m. each (nat_eq (floor_remainder m factor) 0) (x (floor_quotient m factor)) (y (floor_quotient m factor)) (c (floor_quotient m factor))
    where
      each : (b : Bool) (p q : ℤ) → pattern w p ≡ pattern w q → pattern w (cond b p (pos 0)) ≡ pattern w (cond b q (pos 0))
      each true p q e = e
      each false p q e = refl

  interpolator-congruent : (factor stages delay : ℕ) (x : Sequence) → AreCongruent w (interpolator (wrap w) factor stages delay x) (interpolator whole factor stages delay x)
  interpolator-congruent factor stages delay x =
      integrators-from w wide stages _ _ (up-congruent factor _ _ (combs-congruent w wide stages delay x x (λ n. refl)))

  -- an integrator's value is of the width
  integrator-cut : (y : Sequence) (n : ℤ) → wrap w (integrator (wrap w) y n) ≡ integrator (wrap w) y n
  integrator-cut y (pos zero) = cut_again w wide _
  integrator-cut y (pos (suc n)) = cut_again w wide _
  integrator-cut y (negsuc n) = wrap_zero w wide

pub wrapped_up : WrappedUp
wrapped_up w factor zero delay x wide positive s c n fits = absurd (omega arith)
wrapped_up w factor (suc stages) delay x wide positive s c n fits =
    sym (integrator-cut w wide (integrators (wrap w) stages (up factor (combs (wrap w) (suc stages) delay x))) n) ∙ ap (signed w) (interpolator-congruent w wide factor (suc stages) delay x n) ∙ ap (wrap w) (whole_up factor (suc stages) delay x positive c n) ∙ wrap_fits w _ wide fits
