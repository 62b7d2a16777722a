-- The streams over a span, and their ranges.
use Rattle.std.proofs.Common.{◌≡◌, ℕ, ◌+◌, ◌-◌, ◌*◌, ◌≤◌, ◌<◌, ◌^◌, max, List, length, get_or, refl, sym, ◌∙◌, ap, subst, arith, ℤ, pos, negsuc, ◌-ℤ◌, ◌≤ℤ◌}
use Rattle.std.specs.Prelude.{unsigned_abs}
use Rattle.std.proofs.lemmas.Int.{ints}
use Rattle.std.proofs.Math.Nat.{mul-le-mul_right, add-mul-mod_self_left}
use native.Mathlib.Nat.{mod-eq_of_lt}
use Rattle.mr_values.specs.Sequence.{Sequence, filter}
use Rattle.mr_values.specs.Timing.{low_end}
use Rattle.plan_laws.specs.Laws.{IsBetween}
use Rattle.plan_laws.proofs.Between.{between-filter}
use Rattle.stage_law.specs.declared.ranges.Class.{Class}
use Rattle.stage_law.specs.declared.ranges.Range.{Range}
use Rattle.stage_law.specs.declared.weights.Weight.{Weight}
use Rattle.stage_law.specs.declared.weights.WeightedSum.{WeightedSum}
use Rattle.stage_law.specs.Range.{IsRange, InClass}
use Rattle.stage_law.specs.Streams.{AreWithin, AreCausal, magnitudes}
use Rattle.stage_law.specs.Weights.{weights_of}
use Rattle.span_ranges.specs.Span.{IsInSpan}
use Rattle.span_ranges.proofs.SumLemmas.{end_for, sum-ends, high_end-turned, low_end-in}
use Rattle.stage_law.specs.Rising.{factors_in}
use Rattle.stage_law.proofs.WeightLemmas.{magnitudes-in}

pub span_causal : (low high : ℤ) → AreCausal (IsInSpan low high)
span_causal low high = record { each = λ v is n. is.causal n }

-- the stream of one value from the beginning on
abbrev steady : ℤ → Sequence
steady z (pos n) = z
steady z (negsuc n) = pos 0

steady_in : (low high z : ℤ) → low ≤ℤ pos 0 → pos 0 ≤ℤ high → IsBetween low high z → IsInSpan low high (steady z)
steady_in low high z below above is = record { causal = λ n. refl; within = by }
  where
    by : (k : ℤ) → IsBetween low high (steady z k)
    by (pos n) = is
    by (negsuc n) = record { least = below; greatest = above }

-- the magnitudes of the ends
pub most_least : (low high : ℤ) (m : ℕ) → low ≤ℤ pos 0 → pos 0 ≤ℤ high → AreWithin (IsInSpan low high) m → max (unsigned_abs low) (unsigned_abs high) ≤ m
most_least low high m below above w =
    let l : unsigned_abs low ≤ m = w.each (steady low) (steady_in low high low below above (record { least = omega (arith, ints); greatest = omega (arith, ints) })) (pos 0) in
    let h : unsigned_abs high ≤ m = w.each (steady high) (steady_in low high high below above (record { least = omega (arith, ints); greatest = omega (arith, ints) })) (pos 0) in
    omega arith

pub room_of : (low high : ℤ) (sum : WeightedSum) (weights : List Weight) → weights ≡ sum.weights.items → low ≤ℤ pos 0 → pos 0 ≤ℤ high → (m : ℕ) × AreWithin (IsInSpan low high) m × (m * magnitudes (weights_of sum) ≤ 2 ^ 126) → max (unsigned_abs low) (unsigned_abs high) * magnitudes (factors_in weights) ≤ 2 ^ 126
room_of low high sum weights same below above h =
    let most = most_least low high h.0 below above h.1 in
    let times : max (unsigned_abs low) (unsigned_abs high) * magnitudes (factors_in weights) ≤ h.0 * magnitudes (factors_in weights) = mul-le-mul_right (magnitudes (factors_in weights)) most in
    let short : magnitudes (weights_of sum) ≡ magnitudes (factors_in weights) = magnitudes-in 0 sum.weights.items ∙ sym (ap (λ (ws : List Weight). magnitudes (factors_in ws)) same) in
    let room : h.0 * magnitudes (factors_in weights) ≤ 2 ^ 126 = subst (λ (n : ℕ). h.0 * n ≤ 2 ^ 126) short h.2 in
    omega arith

-- ---- the stream that reaches an end

-- at each index the end that the factor there asks for, seen back from index `last`
abbrev pub reaching : List ℤ → ℤ → ℤ → ℕ → Sequence
reaching form low high last (pos n) = end_for low high (get_or form (last - n) (pos 0))
reaching form low high last (negsuc n) = pos 0

-- an index of the class past the form
abbrev pub past : List ℤ → Class → ℕ
past form class = class.residue + class.modulus * length form

past-class : (form : List ℤ) (class : Class) → class.residue < class.modulus → InClass class (past form class)
past-class form class small = add-mul-mod_self_left class.residue class.modulus (length form) ∙ mod-eq_of_lt small

past-long : (form : List ℤ) (class : Class) → class.residue < class.modulus → length form ≤ past form class
past-long form class small =
    let some : 1 ≤ class.modulus = omega arith in
    let more : 1 * length form ≤ class.modulus * length form = mul-le-mul_right (length form) some in
    omega arith

reaches : (form : List ℤ) (low high : ℤ) (last : ℕ) → length form ≤ last → filter form (reaching form low high last) (pos last) ≡ low_end form low high
reaches form low high last long = sum-ends form low high (λ k. reaching form low high last (pos last -ℤ pos k)) (λ k less.
    let at : pos last -ℤ pos k ≡ pos (last - k) = omega (arith, ints) in
    let back : last - (last - k) ≡ k = omega arith in
    ap (reaching form low high last) at ∙ ap (λ (n : ℕ). end_for low high (get_or form n (pos 0))) back)

end_between : (low high c : ℤ) → low ≤ℤ high → IsBetween low high (end_for low high c)
end_between low high (pos c) h = record { least = omega (arith, ints); greatest = h }
end_between low high (negsuc c) h = record { least = h; greatest = omega (arith, ints) }

end_turned : (low high c : ℤ) → low ≤ℤ high → IsBetween low high (end_for high low c)
end_turned low high (pos c) h = record { least = h; greatest = omega (arith, ints) }
end_turned low high (negsuc c) h = record { least = omega (arith, ints); greatest = h }

module _ (form : List ℤ) (low high : ℤ) (below : low ≤ℤ pos 0) (above : pos 0 ≤ℤ high) (last : ℕ) where
  ordered : low ≤ℤ high
  ordered = omega (arith, ints)

  in_span : IsInSpan low high (reaching form low high last)
  in_span = record { causal = λ n. refl; within = by }
    where
      by : (k : ℤ) → IsBetween low high (reaching form low high last k)
      by (pos n) = end_between low high (get_or form (last - n) (pos 0)) ordered
      by (negsuc n) = record { least = below; greatest = above }

  in_span_turned : IsInSpan low high (reaching form high low last)
  in_span_turned = record { causal = λ n. refl; within = by }
    where
      by : (k : ℤ) → IsBetween low high (reaching form high low last k)
      by (pos n) = end_turned low high (get_or form (last - n) (pos 0)) ordered
      by (negsuc n) = record { least = below; greatest = above }

IsRange-span : (form : List ℤ) (class : Class) (low high : ℤ) (range : Range) → low ≤ℤ pos 0 → pos 0 ≤ℤ high → class.residue < class.modulus → range.lo ≡ low_end form low high → range.hi ≡ low_end form high low → IsRange (IsInSpan low high) form class range
IsRange-span form class low high range below above small lo hi =
    let last = past form class in
    record {
      low = λ v is k _. subst (λ (z : ℤ). z ≤ℤ filter form v (pos k)) (sym lo) (between-filter form low high v is.within (pos k)).least;
      high = λ v is k _. subst (λ (z : ℤ). filter form v (pos k) ≤ℤ z) (sym (hi ∙ high_end-turned form low high)) (between-filter form low high v is.within (pos k)).greatest;
      low_reached = record { stream = reaching form low high last; is_one = in_span form low high below above last; index = last; in_class = past-class form class small; is = reaches form low high last (past-long form class small) ∙ sym lo };
      high_reached = record { stream = reaching form high low last; is_one = in_span_turned form low high below above last; index = last; in_class = past-class form class small; is = reaches form high low last (past-long form class small) ∙ sym hi };
    }

-- values without a weight add nothing to an end
pub IsRange-sum : (sum : WeightedSum) (weights : List Weight) (class : Class) (low high : ℤ) (range : Range) → weights ≡ sum.weights.items → low ≤ℤ pos 0 → pos 0 ≤ℤ high → class.residue < class.modulus → range.lo ≡ low_end (factors_in weights) low high → range.hi ≡ low_end (factors_in weights) high low → IsRange (IsInSpan low high) (weights_of sum) class range
IsRange-sum sum weights class low high range same below above small lo hi =
    let short : (a b : ℤ) → low_end (factors_in weights) a b ≡ low_end (weights_of sum) a b = λ a b. ap (λ (ws : List Weight). low_end (factors_in ws) a b) same ∙ sym (low_end-in 0 sum.weights.items a b) in
    IsRange-span (weights_of sum) class low high range below above small (lo ∙ short low high) (hi ∙ short high low)
