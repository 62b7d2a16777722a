-- Combs over integrators are moving sums.
use Rattle.std.proofs.Common.{◌≡◌, ℕ, zero, suc, ◌*◌, ℤ, pos, negsuc, ◌+ℤ◌, ◌-ℤ◌, ◌*ℤ◌, arith, refl, sym, ◌∙◌, ap}
use Rattle.std.proofs.Math.Path.{fun_ext}
use Rattle.std.proofs.lemmas.Int.{ints}
use Rattle.mr_values.proofs.Ring.{+ℤ-*ℤ}
use Rattle.mr_values.specs.Sequence.{Sequence, weighted_sum, down, filter, filter_times, ones}
use Rattle.cic_chain.specs.Cascade.{IsCausal, whole, integrator, earlier, comb, integrators, combs, WholeDown}

-- ---- combs that cut nothing

abbrev pub plain_comb : ℕ → Sequence → Sequence
plain_comb delay x n = x n -ℤ x (n -ℤ pos delay)

abbrev pub plain_combs : ℕ → ℕ → Sequence → Sequence
plain_combs zero delay x = x
plain_combs (suc n) delay x = plain_comb delay (plain_combs n delay x)

earlier-whole : (delay : ℕ) (x : Sequence) (n : ℤ) → earlier whole delay x n ≡ x (n -ℤ pos delay)
earlier-whole zero x n = ap x (omega (arith, ints))
earlier-whole (suc delay) x n = earlier-whole delay x (n -ℤ pos 1) ∙ ap x (omega (arith, ints))

pub comb-plain : (delay : ℕ) (x : Sequence) → comb whole delay x ≡ plain_comb delay x
comb-plain delay x = fun_ext (λ n. ap (λ (z : ℤ). x n -ℤ z) (earlier-whole delay x n))

pub combs-plain : (n delay : ℕ) (x : Sequence) → combs whole n delay x ≡ plain_combs n delay x
combs-plain zero delay x = refl
combs-plain (suc n) delay x = ap (comb whole delay) (combs-plain n delay x) ∙ comb-plain delay (plain_combs n delay x)

-- ---- moving sums

weighted_sum-ones_minus : (m : ℕ) (f g : ℕ → ℤ) → weighted_sum (ones m) (λ k. f k -ℤ g k) ≡ weighted_sum (ones m) f -ℤ weighted_sum (ones m) g
weighted_sum-ones_minus zero f g = omega (arith, ints)
weighted_sum-ones_minus (suc m) f g = omega (arith, ints, weighted_sum-ones_minus m (λ k. f (suc k)) (λ k. g (suc k)))

swapped : (n : ℤ) (j k : ℕ) → (n -ℤ pos j) -ℤ pos k ≡ (n -ℤ pos k) -ℤ pos j
swapped n j k = omega (arith, ints)

one_more : (n : ℤ) (k : ℕ) → (n -ℤ pos 1) -ℤ pos k ≡ n -ℤ pos (suc k)
one_more n k = omega (arith, ints)

-- a comb commutes with a moving sum
pub comb-filter : (m delay : ℕ) (x : Sequence) → plain_comb delay (filter (ones m) x) ≡ filter (ones m) (plain_comb delay x)
comb-filter m delay x = fun_ext (λ n.
    ap (λ (f : ℕ → ℤ). weighted_sum (ones m) (λ k. x (n -ℤ pos k)) -ℤ weighted_sum (ones m) f) (fun_ext (λ k. ap x (swapped n delay k)))
    ∙ sym (weighted_sum-ones_minus m (λ k. x (n -ℤ pos k)) (λ k. x ((n -ℤ pos k) -ℤ pos delay))))

pub combs-filter : (n m delay : ℕ) (x : Sequence) → plain_combs n delay (filter (ones m) x) ≡ filter (ones m) (plain_combs n delay x)
combs-filter zero m delay x = refl
combs-filter (suc n) m delay x = ap (plain_comb delay) (combs-filter n m delay x) ∙ comb-filter m delay (plain_combs n delay x)

-- an integrator adds one value at each index
pub integrator-step : (x : Sequence) → IsCausal x → (n : ℤ) → integrator whole x n ≡ x n +ℤ integrator whole x (n -ℤ pos 1)
integrator-step x c (pos zero) = first (x (pos 0))
  where
    first : (z : ℤ) → z ≡ z +ℤ pos 0
    first z = omega (arith, ints)
integrator-step x c (pos (suc n)) =
    let e : pos (suc n) -ℤ pos 1 ≡ pos n = omega (arith, ints) in
    next (integrator whole x (pos n)) (x (pos (suc n))) ∙ ap (λ (i : ℤ). x (pos (suc n)) +ℤ integrator whole x i) (sym e)
  where
    next : (a b : ℤ) → a +ℤ b ≡ b +ℤ a
    next a b = omega (arith, ints)
integrator-step x c (negsuc n) =
    let e : negsuc n -ℤ pos 1 ≡ negsuc (suc n) = omega (arith, ints) in
    sym (ap (λ (z : ℤ). z +ℤ pos 0) (c n)) ∙ ap (λ (i : ℤ). x (negsuc n) +ℤ integrator whole x i) (sym e)

pub integrator-causal : (x : Sequence) → IsCausal (integrator whole x)
integrator-causal x n = refl

pub integrators-causal : (n : ℕ) (x : Sequence) → IsCausal x → IsCausal (integrators whole n x)
integrators-causal zero x c = c
integrators-causal (suc n) x c = integrator-causal (integrators whole n x)

-- a comb over an integrator is a moving sum
comb-integrator-at : (m : ℕ) (x : Sequence) → IsCausal x → (n : ℤ) → integrator whole x n -ℤ integrator whole x (n -ℤ pos m) ≡ filter (ones m) x n
comb-integrator-at zero x c n =
    let e : n -ℤ pos 0 ≡ n = omega (arith, ints) in
    ap (λ (i : ℤ). integrator whole x n -ℤ integrator whole x i) e ∙ none (integrator whole x n)
  where
    none : (z : ℤ) → z -ℤ z ≡ pos 0
    none z = omega (arith, ints)
comb-integrator-at (suc m) x c n =
    let start : x (n -ℤ pos 0) ≡ x n = ap x (none n) in
    let rest = comb-integrator-at m x c (n -ℤ pos 1) in
    let taps : weighted_sum (ones m) (λ k. x ((n -ℤ pos 1) -ℤ pos k)) ≡ weighted_sum (ones m) (λ k. x (n -ℤ pos (suc k))) = ap (weighted_sum (ones m)) (fun_ext (λ k. ap x (one_more n k))) in
    let index : integrator whole x ((n -ℤ pos 1) -ℤ pos m) ≡ integrator whole x (n -ℤ pos (suc m)) = ap (integrator whole x) (one_more n m) in
    together (integrator whole x n) (integrator whole x (n -ℤ pos 1)) _ _ (x n) (x (n -ℤ pos 0)) _ _ (integrator-step x c n) rest index taps start
  where
    none : (z : ℤ) → z -ℤ pos 0 ≡ z
    none z = omega (arith, ints)

    together : (i j k l a b s t : ℤ) → i ≡ a +ℤ j → j -ℤ k ≡ s → k ≡ l → s ≡ t → b ≡ a → i -ℤ l ≡ pos 1 *ℤ b +ℤ t
    together i j k l a b s t e f g h q = omega (arith, ints)

pub comb-integrator : (m : ℕ) (x : Sequence) → IsCausal x → plain_comb m (integrator whole x) ≡ filter (ones m) x
comb-integrator m x c = fun_ext (comb-integrator-at m x c)

-- as many combs over as many integrators
pub combs-integrators : (n m : ℕ) (x : Sequence) → IsCausal x → plain_combs n m (integrators whole n x) ≡ filter_times n (ones m) x
combs-integrators zero m x c = refl
combs-integrators (suc n) m x c =
    combs-inner n m (integrator whole (integrators whole n x))
    ∙ ap (plain_combs n m) (comb-integrator m (integrators whole n x) (integrators-causal n x c)) ∙ combs-filter n m m (integrators whole n x)
    ∙ ap (filter (ones m)) (combs-integrators n m x c)
  where
    combs-inner : (k d : ℕ) (y : Sequence) → plain_combs (suc k) d y ≡ plain_combs k d (plain_comb d y)
    combs-inner zero d y = refl
    combs-inner (suc k) d y = ap (plain_comb d) (combs-inner k d y)

-- a comb after the decimation is one of R * D before it
pub comb-down : (factor delay : ℕ) (x : Sequence) → plain_comb delay (down factor x) ≡ down factor (plain_comb (factor * delay) x)
comb-down factor delay x = fun_ext (λ n. ap (λ (i : ℤ). x (n *ℤ pos factor) -ℤ x i) (index n))
  where
    index : (n : ℤ) → (n -ℤ pos delay) *ℤ pos factor ≡ n *ℤ pos factor -ℤ pos (factor * delay)
    index n =
        let split : (n -ℤ pos delay) +ℤ pos delay ≡ n = omega (arith, ints) in
        apart _ _ _ (ap (λ (z : ℤ). z *ℤ pos factor) split) (+ℤ-*ℤ (n -ℤ pos delay) (pos delay) (pos factor))
      where
        apart : (a b m : ℤ) → b ≡ m → b ≡ a +ℤ pos delay *ℤ pos factor → a ≡ m -ℤ pos (factor * delay)
        apart a b m e h = omega (arith, ints)

pub combs-down : (n factor delay : ℕ) (x : Sequence) → plain_combs n delay (down factor x) ≡ down factor (plain_combs n (factor * delay) x)
combs-down zero factor delay x = refl
combs-down (suc n) factor delay x = ap (plain_comb delay) (combs-down n factor delay x) ∙ comb-down factor delay (plain_combs n (factor * delay) x)

pub whole_down : WholeDown
whole_down factor stages delay x c n =
    ap (λ (y : Sequence). y n) (combs-plain stages delay (down factor (integrators whole stages x)) ∙ combs-down stages factor delay (integrators whole stages x) ∙ ap (down factor) (combs-integrators stages (factor * delay) x c))
