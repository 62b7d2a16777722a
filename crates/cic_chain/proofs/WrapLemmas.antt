-- Sums and differences modulo a power of two.
use Rattle.std.proofs.Common.{◌≡◌, ℕ, zero, suc, ◌≤◌, ℤ, pos, negsuc, ◌+ℤ◌, ◌-ℤ◌, ◌*ℤ◌, arith, refl, sym, ◌∙◌, ap}
use Rattle.mr_values.specs.Width.{pattern, signed, wrap}
use Rattle.mr_values.proofs.WidthLemmas.{pattern-+, pattern--, pattern-wrap, wrap_fits}
use Rattle.mr_values.specs.Sequence.{Sequence, down, cic_down}
use Rattle.cic_chain.specs.Cascade.{IsCausal, whole, sum_to, integrator, earlier, integrators, combs, decimator, WrappedDown, AreCongruent, WrapsIntegrators, WrapsCombs, WrapsDelays}
use Rattle.cic_chain.proofs.WholeLemmas.{whole_down}

module _ (w : ℕ) (wide : 1 ≤ w) where
  -- sums of congruent numbers, cut on one side
  pub cut_sum : (a b c d : ℤ) → pattern w a ≡ pattern w c → pattern w b ≡ pattern w d → pattern w (wrap w (a +ℤ b)) ≡ pattern w (c +ℤ d)
  cut_sum a b c d e f = pattern-wrap w (a +ℤ b) wide ∙ pattern-+ w a b ∙ rw (e, f) (sym (pattern-+ w c d))

  pub cut_difference : (a b c d : ℤ) → pattern w a ≡ pattern w c → pattern w b ≡ pattern w d → pattern w (wrap w (a -ℤ b)) ≡ pattern w (c -ℤ d)
  cut_difference a b c d e f = pattern-wrap w (a -ℤ b) wide ∙ pattern-- w a b ∙ rw (e, f) (sym (pattern-- w c d))

  sum_to-congruent : (x y : Sequence) → AreCongruent w x y → (n : ℕ) → pattern w (sum_to (wrap w) x n) ≡ pattern w (sum_to whole y n)
  sum_to-congruent x y c zero = pattern-wrap w (x (pos 0)) wide ∙ c (pos 0)
  sum_to-congruent x y c (suc n) = cut_sum _ _ _ _ (sum_to-congruent x y c n) (c (pos (suc n)))

  pub integrator-congruent : (x y : Sequence) → AreCongruent w x y → AreCongruent w (integrator (wrap w) x) (integrator whole y)
  integrator-congruent x y c (pos n) = sum_to-congruent x y c n
  integrator-congruent x y c (negsuc n) = refl

  pub integrators-from : (n : ℕ) (x y : Sequence) → AreCongruent w x y → AreCongruent w (integrators (wrap w) n x) (integrators whole n y)
  integrators-from zero x y c = c
  integrators-from (suc n) x y c = integrator-congruent (integrators (wrap w) n x) (integrators whole n y) (integrators-from n x y c)

  pub integrators-congruent : (n : ℕ) (x : Sequence) → AreCongruent w (integrators (wrap w) n x) (integrators whole n x)
  integrators-congruent n x = integrators-from n x x (λ i. refl)

  pub earlier-congruent : (delay : ℕ) (x y : Sequence) → AreCongruent w x y → AreCongruent w (earlier (wrap w) delay x) (earlier whole delay y)
  earlier-congruent zero x y c = c
  earlier-congruent (suc delay) x y c = λ i. pattern-wrap w (earlier (wrap w) delay x (i -ℤ pos 1)) wide ∙ earlier-congruent delay x y c (i -ℤ pos 1)

  pub combs-congruent : (n delay : ℕ) (x y : Sequence) → AreCongruent w x y → AreCongruent w (combs (wrap w) n delay x) (combs whole n delay y)
  combs-congruent zero delay x y c = c
  combs-congruent (suc n) delay x y c = λ i. cut_difference _ _ _ _ (combs-congruent n delay x y c i) (earlier-congruent delay _ _ (combs-congruent n delay x y c) i)

  -- the decimator is congruent to the whole one at every index
  pub decimator-congruent : (factor stages delay : ℕ) (x : Sequence) → AreCongruent w (decimator (wrap w) factor stages delay x) (decimator whole factor stages delay x)
  decimator-congruent factor stages delay x =
      combs-congruent stages delay (down factor (integrators (wrap w) stages x)) (down factor (integrators whole stages x)) (λ n. integrators-congruent stages x (n *ℤ pos factor))

  -- a number that was cut is its bits
  pub cut_again : (v : ℤ) → wrap w (wrap w v) ≡ wrap w v
  cut_again v = ap (signed w) (pattern-wrap w v wide)

  pub decimator-wrap : (factor stages delay : ℕ) (x : Sequence) → 1 ≤ stages → IsCausal x → (n : ℤ) → decimator (wrap w) factor stages delay x n ≡ wrap w (cic_down factor stages delay x n)
  decimator-wrap factor zero delay x s c n = absurd (omega arith)
  decimator-wrap factor (suc stages) delay x s c n =
      sym (cut_again _) ∙ ap (signed w) (decimator-congruent factor (suc stages) delay x n) ∙ ap (wrap w) (whole_down factor (suc stages) delay x c n)

pub wrapped_down : WrappedDown
wrapped_down w factor stages delay x wide s c n fits = decimator-wrap w wide factor stages delay x s c n ∙ wrap_fits w _ wide fits

pub wraps_integrators : WrapsIntegrators
wraps_integrators w stages x y wide c = integrators-from w wide stages x y c

pub wraps_combs : WrapsCombs
wraps_combs w stages delay x y wide c = combs-congruent w wide stages delay x y c

pub wraps_delays : WrapsDelays
wraps_delays w delay x y wide c = earlier-congruent w wide delay x y c
