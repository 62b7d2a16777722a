-- Streams of a prefix begin at index 0, and a cycle takes as long in samples as in indices.
use Rattle.std.proofs.Common.{◌≡◌, ℕ, ◌*◌, ◌/◌, List, [], ◌∷◌, ℤ, pos, negsuc, ◌-ℤ◌, ◌<ℤ◌, arith, mul_assoc, refl, sym, ◌∙◌, ap}
use Rattle.std.proofs.Math.Nat.{mul_comm}
use Rattle.std.proofs.lemmas.Int.{ints}
use Rattle.mr_values.specs.declared.plan.Element.{Element}
use Rattle.mr_values.specs.declared.plan.Element.TheVariants.{Up, Down, Filter, CicDown, CicUp, Round, Clip}
use Rattle.mr_values.specs.Sequence.{Sequence, samples, weighted_sum}
use Rattle.mr_values.specs.Value.{size, chain}
use Rattle.mr_values.proofs.Polyphase.{weighted_sum-same}
use Rattle.impulse_phase.specs.Response.{responses, Cycle, cycle_after, cycle_after_all, full_cycle, IsLinear, AreLinear}
use Rattle.plan_check.specs.Costs.{gcd}
use Rattle.width_extreme.specs.Prefix.{IsStream}
use Rattle.impulse_phase.specs.Reach.{Extent, extent_after, extent_after_all, extent}
use Rattle.impulse_phase.proofs.Prefix.{prefix-has, common-turns}
use Rattle.impulse_phase.proofs.Reach.{prefix-starts}

weighted_sum-zeros : (cs : List ℤ) → weighted_sum cs (λ k. pos 0) ≡ pos 0
weighted_sum-zeros [] = refl
weighted_sum-zeros (c ∷ cs) = omega (arith, ints, weighted_sum-zeros cs)

samples-before : (xs : List ℤ) (z : ℤ) → z <ℤ pos 0 → samples xs z ≡ pos 0
samples-before xs (pos n) h = absurd (omega (arith, ints))
samples-before xs (negsuc n) h = refl

-- a stream is 0 before it begins
pub stream-starts : (es : List Element) (w : ℕ) (v : Sequence) → AreLinear es → IsStream (chain es) w v → (n : ℕ) → v (negsuc n) ≡ pos 0
stream-starts es w v linear s n =
    let r = responses es (negsuc n) in
    s.is (negsuc n) ∙ (prefix-has es linear).gives (samples s.xs) (negsuc n)
    ∙ weighted_sum-same r.weights _ (λ k. pos 0) (λ k. samples-before s.xs (r.newest -ℤ pos k) (omega (arith, ints, prefix-starts es n linear)))
    ∙ weighted_sum-zeros r.weights

-- ---- the samples of a cycle take as long as its indices

balanced-down : (factor c s d u : ℕ) → c * d ≡ s * u → c / gcd c factor * (factor * d) ≡ factor / gcd c factor * s * u
balanced-down factor c s d u h =
    let g = gcd c factor in
    sym (mul_assoc (c / g) factor d) ∙ ap (λ (n : ℕ). n * d) (common-turns c factor) ∙ mul_assoc (factor / g) c d ∙ ap (λ (n : ℕ). factor / g * n) h ∙ sym (mul_assoc (factor / g) s u)

balanced-up : (factor c s d u : ℕ) → c * d ≡ s * u → c * factor * d ≡ s * (u * factor)
balanced-up factor c s d u h =
    ap (λ (n : ℕ). n * d) (mul_comm c factor) ∙ mul_assoc factor c d ∙ ap (λ (n : ℕ). factor * n) h ∙ mul_comm factor (s * u) ∙ mul_assoc s u factor

element-balance : (e : Element) (q : Cycle) (p : Extent) → IsLinear e → q.classes * p.down ≡ q.step * p.up
    → (cycle_after e q).classes * (extent_after e p).down ≡ (cycle_after e q).step * (extent_after e p).up
element-balance (Up factor) q p linear h = balanced-up (size factor) q.classes q.step p.down p.up h
element-balance (Down factor) q p linear h = balanced-down (size factor) q.classes q.step p.down p.up h
element-balance (Filter taps form) q p linear h = h
element-balance (CicDown factor stages delay) q p linear h = balanced-down (size factor) q.classes q.step p.down p.up h
element-balance (CicUp factor stages delay) q p linear h = balanced-up (size factor) q.classes q.step p.down p.up h
element-balance (Round shift mode) q p linear h = absurd linear
element-balance (Clip bits) q p linear h = absurd linear

elements-balance : (es : List Element) (q : Cycle) (p : Extent) → AreLinear es → q.classes * p.down ≡ q.step * p.up
    → (cycle_after_all es q).classes * (extent_after_all es p).down ≡ (cycle_after_all es q).step * (extent_after_all es p).up
elements-balance [] q p linear h = h
elements-balance (e ∷ es) q p linear h = elements-balance es (cycle_after e q) (extent_after e p) linear.1 (element-balance e q p linear.0 h)

pub prefix-balance : (es : List Element) → AreLinear es → (full_cycle es).classes * (extent es).down ≡ (full_cycle es).step * (extent es).up
prefix-balance es linear = elements-balance es (record { classes = 1; step = 1 }) (record { up = 1; down = 1; slack = 1; reach = 1 }) linear refl
