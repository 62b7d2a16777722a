-- The values of a stream stay in its span through a group.
use Rattle.std.proofs.Common.{◌≡◌, ℕ, zero, suc, ◌+◌, ◌-◌, ◌*◌, ◌/◌, ◌^◌, ◌≤◌, max, refl, ◌∙◌, ap, arith, subst, List, [], ◌∷◌, ℤ, pos, negsuc, ◌+ℤ◌, ◌-ℤ◌, ◌*ℤ◌, ◌≤ℤ◌, Option, None, Some, Bool, true, false, cond, nat_eq}
use Rattle.std.specs.Prelude.{unsigned_abs, unwrap_or}
use Rattle.std.proofs.lemmas.Int.{ints}
use Rattle.mr_values.specs.declared.plan.Mode.{Mode}
use Rattle.mr_values.specs.declared.plan.Element.TheVariants.{Round}
use Rattle.mr_values.specs.declared.plan.Form.{Form}
use Rattle.mr_values.specs.Sequence.{Sequence, weighted_sum, filter, filter_times, ones, up, down}
use Rattle.mr_values.specs.Value.{round, round_value, clip}
use Rattle.mr_values.specs.Rounding.{clip_value}
use Rattle.mr_values.proofs.ClipLemmas.{clip_zero}
use Rattle.mr_values.specs.Width.{floor_quotient, floor_remainder}
use Rattle.mr_values.specs.Timing.{Group, Fir, DownCic, UpCic, Rounding, Clipping, taps_of, low_end, high_end, low_after, high_after}
use Rattle.mr_values.proofs.Zeros.{zeros, apply-zeros}
use Rattle.plan_check.specs.Groups.{IsGroup}
use Rattle.plan_laws.specs.Laws.{IsBetween}
use Rattle.plan_laws.proofs.Between.{between-filter, between-up, between-down, between-moving, between-round, between-clip}
use Rattle.plan_laws.proofs.Reach.{apply_group, optional, filter_by}
use Rattle.stage_law.specs.Streams.{HasRoom}
use Rattle.span_ranges.specs.Span.{IsInSpan}
use Rattle.chain_build.specs.Built.{IsBuiltGroup}

-- ---- causal sequences

abbrev pub IsCausal : Sequence → Type 0
IsCausal v = (n : ℕ) → v (negsuc n) ≡ pos 0

round-none : (shift : ℕ) (mode : Mode) → 1 ≤ shift → round_value mode shift (pos 0) ≡ pos 0
round-none shift mode some = ap (λ (v : Sequence). v (pos 0)) (apply-zeros (Round (pos shift) mode) some)

causal-round : (shift : ℕ) (mode : Mode) (v : Sequence) → 1 ≤ shift → IsCausal v → IsCausal (round mode shift v)
causal-round shift mode v some h n = ap (round_value mode shift) (h n) ∙ round-none shift mode some

-- ---- a group

in_span-round : (shift : ℕ) (mode : Mode) (low high : ℤ) (v : Sequence) → 1 ≤ shift → IsInSpan low high v → IsInSpan (round_value mode shift low) (round_value mode shift high) (round mode shift v)
in_span-round shift mode low high v some h = record { causal = causal-round shift mode v some h.causal; within = between-round mode shift low high v some h.within }

in_span-clip : (bits : ℕ) (low high : ℤ) (v : Sequence) → IsInSpan low high v → IsInSpan (clip_value bits low) (clip_value bits high) (clip bits v)
in_span-clip bits low high v h = record { causal = λ n. ap (clip_value bits) (h.causal n) ∙ clip_zero bits; within = between-clip bits low high v h.within }

pub zero-in_span : (low high : ℤ) (v : Sequence) → IsInSpan low high v → IsBetween low high (pos 0)
zero-in_span low high v h = subst (λ (z : ℤ). IsBetween low high z) (h.causal 0) (h.within (negsuc 0))

weighted-none : (cs : List ℤ) (f : ℕ → ℤ) → ((k : ℕ) → f k ≡ pos 0) → weighted_sum cs f ≡ pos 0
weighted-none [] f none = refl
weighted-none (c ∷ cs) f none =
    let first : c *ℤ f zero ≡ pos 0 = ap (λ (z : ℤ). c *ℤ z) (none zero) ∙ omega (arith, ints) in
    omega (arith, ints, first, weighted-none cs (λ k. f (suc k)) (λ k. none (suc k)))

causal-filter : (taps : List ℤ) (v : Sequence) → IsCausal v → IsCausal (filter taps v)
causal-filter taps v h n = weighted-none taps (λ k. v (negsuc n -ℤ pos k)) (λ k. let at : negsuc n -ℤ pos k ≡ negsuc (n + k) = omega (arith, ints) in ap v at ∙ h (n + k))

causal-sums : (stages width : ℕ) (v : Sequence) → IsCausal v → IsCausal (filter_times stages (ones width) v)
causal-sums zero width v h = h
causal-sums (suc stages) width v h = causal-filter (ones width) (filter_times stages (ones width) v) (causal-sums stages width v h)

causal-up : (factor : ℕ) (v : Sequence) → IsCausal v → IsCausal (up factor v)
causal-up factor v h n = by (nat_eq (floor_remainder (negsuc n) factor) 0)
  where
    by : (b : Bool) → cond b (v (floor_quotient (negsuc n) factor)) (pos 0) ≡ pos 0
    by true = h (n / factor)
    by false = refl

causal-down : (factor : ℕ) (v : Sequence) → 1 ≤ factor → IsCausal v → IsCausal (down factor v)
causal-down factor v some h n = let at : negsuc n *ℤ pos factor ≡ negsuc (n * factor + (factor - 1)) = omega (arith, ints) in ap v at ∙ h (n * factor + (factor - 1))

in_span-up : (low high : ℤ) (v : Sequence) (u : Option ℕ) → IsInSpan low high v → IsInSpan low high (optional up u v)
in_span-up low high v None h = h
in_span-up low high v (Some factor) h = record { causal = causal-up factor v h.causal; within = between-up factor low high v (zero-in_span low high v h) h.within }

one_term : (z : ℤ) → z ≡ pos 1 *ℤ z +ℤ pos 0
one_term z = omega (arith, ints)

in_span-filter : (low high : ℤ) (v : Sequence) (f : Option (List ℤ × Form)) → IsInSpan low high v → IsInSpan (low_end (taps_of f) low high) (high_end (taps_of f) low high) (optional filter_by f v)
in_span-filter low high v None h = subst (λ (z : ℤ). IsInSpan z (pos 1 *ℤ high +ℤ pos 0) v) (one_term low) (subst (λ (z : ℤ). IsInSpan low z v) (one_term high) h)
in_span-filter low high v (Some f) h = record { causal = causal-filter f.0 v h.causal; within = between-filter f.0 low high v h.within }

in_span-down : (low high : ℤ) (v : Sequence) (d : Option ℕ) → 1 ≤ unwrap_or d 1 → IsInSpan low high v → IsInSpan low high (optional down d v)
in_span-down low high v None some h = h
in_span-down low high v (Some factor) some h = record { causal = causal-down factor v some h.causal; within = between-down factor low high v h.within }

pub in_span-group : (g : Group) (low high : ℤ) (v : Sequence) → IsGroup g → IsBuiltGroup g → IsInSpan low high v → IsInSpan (low_after g low high) (high_after g low high) (apply_group g v)
in_span-group (Fir u f d) low high v limits is h =
    in_span-down (low_end (taps_of f) low high) (high_end (taps_of f) low high) (optional filter_by f (optional up u v)) d limits.down_low
    (in_span-filter low high (optional up u v) f (in_span-up low high v u h))
in_span-group (DownCic factor stages delay) low high v limits is h =
    let all = factor * delay in
    record {
      causal = causal-down factor (filter_times stages (ones all) v) limits.factor_low (causal-sums stages all v h.causal);
      within = between-down factor (pos (all ^ stages) *ℤ low) (pos (all ^ stages) *ℤ high) (filter_times stages (ones all) v) (between-moving stages all low high v h.within);
    }
in_span-group (UpCic factor stages delay) low high v limits is h =
    let all = factor * delay in
    record {
      causal = causal-sums stages all (up factor v) (causal-up factor v h.causal);
      within = between-moving stages all low high (up factor v) (between-up factor low high v (zero-in_span low high v h) h.within);
    }
in_span-group (Rounding shift mode) low high v limits is h = in_span-round shift mode low high v limits.0 h
in_span-group (Clipping bits) low high v limits is h = in_span-clip bits low high v h

-- ---- spans that hold 0

pub in_span-zeros : (low high : ℤ) → IsBetween low high (pos 0) → IsInSpan low high zeros
in_span-zeros low high h = record { causal = λ n. refl; within = λ k. h }

pub zero-group : (g : Group) (low high : ℤ) → IsGroup g → IsBuiltGroup g → IsBetween low high (pos 0) → IsBetween (low_after g low high) (high_after g low high) (pos 0)
zero-group g low high limits is h = zero-in_span (low_after g low high) (high_after g low high) (apply_group g zeros) (in_span-group g low high zeros limits is (in_span-zeros low high h))

-- ---- magnitudes

between-within : (low high z : ℤ) → IsBetween low high z → unsigned_abs z ≤ max (unsigned_abs low) (unsigned_abs high)
between-within low high z h = by low high z h.least h.greatest
  where
    by : (low high z : ℤ) → low ≤ℤ z → z ≤ℤ high → unsigned_abs z ≤ max (unsigned_abs low) (unsigned_abs high)
    by low (pos h) (pos z) p q = omega (arith, ints, q)
    by low (negsuc h) (pos z) p q = absurd (omega (arith, ints, q))
    by (pos l) high (negsuc z) p q = absurd (omega (arith, ints, p))
    by (negsuc l) high (negsuc z) p q = omega (arith, ints, p)

pub HasRoom-span : (low high : ℤ) (gain : ℕ) → max (unsigned_abs low) (unsigned_abs high) ≤ 2 ^ 125 → gain * max (unsigned_abs low) (unsigned_abs high) ≤ 2 ^ 125 → HasRoom (IsInSpan low high) gain
HasRoom-span low high gain most more = record {
  most = max (unsigned_abs low) (unsigned_abs high);
  within = record { each = λ v is k. between-within low high (v k) (is.within k) };
  before = most;
  after = more;
}
