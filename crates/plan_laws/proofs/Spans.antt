-- The span holds every value of a chain.
use Rattle.std.proofs.Common.{ℕ, zero, suc, ◌-◌, ◌*◌, ◌^◌, ◌≤◌, sym, arith, subst, List, [], ◌∷◌, ℤ, pos, negsuc, neg_ℤ}
use Rattle.std.specs.Prelude.{All}
use Rattle.std.proofs.lemmas.Int.{ints}
use Rattle.std.proofs.lemmas.Nat.{pow_pos}
use Rattle.mr_values.specs.declared.plan.Element.{Element}
use Rattle.mr_values.specs.declared.plan.Element.TheVariants.{Up, Down, Filter, CicDown, CicUp, Round, Clip}
use Rattle.mr_values.specs.Width.{FitsWidth}
use Rattle.mr_values.specs.Sequence.{Sequence, samples, filter_times, ones, up}
use Rattle.mr_values.specs.Value.{size, apply, chain, IsWithinLimits}
use Rattle.mr_values.specs.Timing.{groups, input, last_stream}
use Rattle.mr_values.proofs.Zeros.{zeros, apply-zeros, IsRounding}
use Rattle.plan_check.proofs.GroupSplit.{size_low, tail_limits}
use Rattle.plan_laws.specs.Laws.{IsBetween, SpanHolds}
use Rattle.plan_laws.proofs.Between.{AllBetween, between-filter, between-up, between-down, between-moving, between-round, between-clip}
use Rattle.plan_laws.proofs.Ends.{Ends, ends_of, ends_past, ends_after_all, ends-stream, ends-element}

-- the sequence, and the zero sequence
pub record Within (e : Ends) (x : Sequence) : Type 0 where
  pub values : AllBetween e.low e.high x
  pub none : AllBetween e.low e.high zeros

between-apply : (el : Element) (e : Ends) (x : Sequence) → IsRounding el → IsBetween e.low e.high (pos 0) → AllBetween e.low e.high x → AllBetween (ends_past el e).low (ends_past el e).high (apply el x)
between-apply (Up factor) e x some none h = between-up (size factor) e.low e.high x none h
between-apply (Down factor) e x some none h = between-down (size factor) e.low e.high x h
between-apply (Filter taps form) e x some none h = between-filter taps e.low e.high x h
between-apply (CicDown factor stages delay) e x some none h =
    let n = size factor * size delay in
    between-down (size factor) _ _ (filter_times (size stages) (ones n) x) (between-moving (size stages) n e.low e.high x h)
between-apply (CicUp factor stages delay) e x some none h =
    between-moving (size stages) (size factor * size delay) e.low e.high (up (size factor) x) (between-up (size factor) e.low e.high x none h)
between-apply (Round shift mode) e x some none h = between-round mode (size shift) e.low e.high x some h
between-apply (Clip bits) e x some none h = between-clip (size bits) e.low e.high x h

pub is_rounding : (el : Element) → IsWithinLimits el → IsRounding el
is_rounding (Up factor) h = tt
is_rounding (Down factor) h = tt
is_rounding (Filter taps form) h = tt
is_rounding (CicDown factor stages delay) h = tt
is_rounding (CicUp factor stages delay) h = tt
is_rounding (Round shift mode) h = size_low 64 shift h
is_rounding (Clip bits) h = tt

within-apply : (el : Element) (e : Ends) (x : Sequence) → IsWithinLimits el → Within e x → Within (ends_past el e) (apply el x)
within-apply el e x limits h =
    let none = h.none (pos 0) in
    record {
      values = between-apply el e x (is_rounding el limits) none h.values;
      none = subst (AllBetween (ends_past el e).low (ends_past el e).high) (apply-zeros el (is_rounding el limits)) (between-apply el e zeros (is_rounding el limits) none h.none);
    }

within-chain : (es : List Element) (e : Ends) (x : Sequence) → All IsWithinLimits es → Within e x → Within (ends_after_all (groups es) e) (chain es x)
within-chain [] e x limits h = h
within-chain (el ∷ es) e x limits h =
    subst (λ (f : Ends). Within f (chain es (apply el x))) (sym (ends-element el es e))
    (within-chain es (ends_past el e) (apply el x) (tail_limits el es limits) (within-apply el e x (limits 0 el (omega arith)) h))

-- samples of a width
between-sample : (width : ℕ) (z : ℤ) → FitsWidth width z → IsBetween (neg_ℤ (pos (2 ^ (width - 1)))) (pos (2 ^ (width - 1) - 1)) z
between-sample width z fits =
    let low = fits.low in
    let high = fits.high in
    record { least = low; greatest = omega (arith, ints, pow_pos (width - 1)) }

between-none : (n : ℕ) → IsBetween (neg_ℤ (pos n)) (pos (n - 1)) (pos 0)
between-none n = record { least = omega (arith, ints); greatest = omega (arith, ints) }

between-samples : (width : ℕ) (xs : List ℤ) → All (FitsWidth width) xs → AllBetween (neg_ℤ (pos (2 ^ (width - 1)))) (pos (2 ^ (width - 1) - 1)) (samples xs)
between-samples width [] h (pos n) = between-none (2 ^ (width - 1))
between-samples width (x ∷ xs) h (pos zero) = between-sample width x (h 0 x (omega arith))
between-samples width (x ∷ xs) h (pos (suc n)) = between-samples width xs (λ k d below. h (suc k) d (omega arith)) (pos n)
between-samples width xs h (negsuc n) = between-none (2 ^ (width - 1))

pub within-samples : (width ticks : ℕ) (xs : List ℤ) → All (FitsWidth width) xs → Within (ends_of (input width ticks)) (samples xs)
within-samples width ticks xs h = record { values = between-samples width xs h; none = λ n. between-none (2 ^ (width - 1)) }

pub within-values : (width ticks : ℕ) (elements : List Element) (xs : List ℤ) → All IsWithinLimits elements → All (FitsWidth width) xs → Within (ends_of (last_stream width ticks elements)) (chain elements (samples xs))
within-values width ticks elements xs limits fit =
    subst (λ (f : Ends). Within f (chain elements (samples xs))) (sym (ends-stream (groups elements) (input width ticks)))
    (within-chain elements (ends_of (input width ticks)) (samples xs) limits (within-samples width ticks xs fit))

pub span_holds : (width ticks : ℕ) (elements : List Element) → 1 ≤ width → All IsWithinLimits elements → SpanHolds width ticks elements
span_holds width ticks elements some limits xs n fit = (within-values width ticks elements xs limits fit).values n
