-- The finer class whose end is furthest out, and the index at which it is reached.
use Rattle.std.proofs.Common.{◌≡◌, ◌∙◌, ℕ, zero, suc, ◌+◌, ◌-◌, ◌*◌, ◌<◌, refl, sym, ap, arith, subst, List, length, get_or, ℤ, pos, ◌⊎◌, inl, inr, Bool, true, false}
use Rattle.std.proofs.lemmas.Int.{ints}
use Rattle.mr_values.specs.Timing.{low_end}
use Rattle.mr_values.specs.Value.{size}
use Rattle.mr_values.specs.Width.{FitsWidth}
use Rattle.stage_law.specs.Range.{InClass}
use Rattle.stage_law.specs.Weights.{weights_of}
use Rattle.stage_law.specs.declared.ranges.Class.{Class}
use Rattle.stage_law.specs.declared.weights.WeightedSum.{WeightedSum}
use Rattle.impulse_phase.specs.declared.table.Response.{Response as Table}
use Rattle.impulse_phase.specs.Response.{through_filter}
use Rattle.impulse_phase.specs.Reading.{rows_of, responses_of}
use Rattle.impulse_phase.proofs.Ends.{high_end-turned, length-tabulate}
use Rattle.width_extreme.specs.Prefix.{least_sample, greatest_sample, low_at, high_at, range_of, finer_classes}
use Rattle.width_extreme.specs.Walk.{IsLawful, IsLongest, needed_for}
use Rattle.width_extreme.specs.Furthest.{end_of, end_at, IsFurther, near_end, far_end, samples_at, whole_of, IsPast, IsEndReached}
use Rattle.width_extreme.proofs.Histories.{Chosen, all_chosen, chosen-reach, same-later, history-is}
use Rattle.width_extreme.proofs.Ranges.{least-fits, greatest-fits, finer-in_class, least_to-holds, least_to-reached, greatest_to-holds, greatest_to-reached}

-- ---- the end that is furthest out, of those so far

pub record IsFurthest (high : Bool) (f : ℕ → ℤ) (count best : ℕ) (value : ℤ) : Type 0 where
  pub below : best < count
  pub is : value ≡ f best
  pub each : (i : ℕ) → i < count → IsFurther high (f i) value

further-same : (high : Bool) (a b : ℤ) → a ≡ b → IsFurther high a b
further-same true a b e = omega (arith, ints)
further-same false a b e = omega (arith, ints)

further-on : (high : Bool) (a b c : ℤ) → IsFurther high a b → IsFurther high b c → IsFurther high a c
further-on true a b c h k = omega (arith, ints, h, k)
further-on false a b c h k = omega (arith, ints, h, k)

pub first-furthest : (high : Bool) (f : ℕ → ℤ) (best : ℕ) (value : ℤ) → best ≡ 0 → value ≡ f 0 → IsFurthest high f 1 best value
first-furthest high f best value none is = record {
  below = omega arith;
  is = is ∙ ap f (sym none);
  each = λ i less. let same : i ≡ 0 = omega arith in further-same high (f i) value (ap f same ∙ sym is);
}

pub more-furthest : (high : Bool) (f : ℕ → ℤ) (count best next best' : ℕ) (value next_value value' : ℤ) → IsFurthest high f count best value → next ≡ count → next_value ≡ f count
    → ((best' ≡ best) × (value' ≡ value)) ⊎ ((best' ≡ next) × (value' ≡ next_value)) → IsFurther high value value' → IsFurther high next_value value' → IsFurthest high f (count + 1) best' value'
more-furthest high f count best next best' value next_value value' h at is chosen from_best from_next = record { below = below chosen; is = reached chosen; each = λ i less. by i less (count - i) refl }
  where
    below : ((best' ≡ best) × (value' ≡ value)) ⊎ ((best' ≡ next) × (value' ≡ next_value)) → best' < count + 1
    below (inl c) = omega (arith, c.0, h.below)
    below (inr c) = omega (arith, c.0, at)

    reached : ((best' ≡ best) × (value' ≡ value)) ⊎ ((best' ≡ next) × (value' ≡ next_value)) → value' ≡ f best'
    reached (inl c) = c.1 ∙ h.is ∙ ap f (sym c.0)
    reached (inr c) = c.1 ∙ is ∙ ap f (sym (c.0 ∙ at))

    by : (i : ℕ) → i < count + 1 → (d : ℕ) → count - i ≡ d → IsFurther high (f i) value'
    by i less (suc d) e = further-on high (f i) value value' (h.each i (omega arith)) from_best
    by i less zero e = let same : i ≡ count = omega arith in further-on high (f i) next_value value' (further-same high (f i) next_value (ap f same ∙ sym is)) from_next

-- ---- it is the end of the range

end-is : (high : Bool) (table : Table) (width : ℕ) (form : List ℤ) (class : Class) (count best : ℕ) (value : ℤ) → 0 < count
    → IsFurthest high (λ i. end_at high width form (responses_of table) (class.residue + i * class.modulus)) count best value
    → value ≡ end_of high (range_of width form (responses_of table) class count)
end-is true table width form class count best value some h =
    let highs : ℕ → ℤ = λ i. high_at width form (responses_of table) (class.residue + i * class.modulus) in
    let most = greatest_to-reached (count - 1) highs in
    omega (arith, ints, h.is, greatest_to-holds (count - 1) highs best (omega (arith, h.below)), h.each most.0 (omega (arith, most.1)), most.2)
end-is false table width form class count best value some h =
    let lows : ℕ → ℤ = λ i. low_at width form (responses_of table) (class.residue + i * class.modulus) in
    let least = least_to-reached (count - 1) lows in
    omega (arith, ints, h.is, least_to-holds (count - 1) lows best (omega (arith, h.below)), h.each least.0 (omega (arith, least.1)), least.2)

near-fits : (high : Bool) (w : ℕ) → FitsWidth w (near_end high w)
near-fits true w = greatest-fits w
near-fits false w = least-fits w

far-fits : (high : Bool) (w : ℕ) → FitsWidth w (far_end high w)
far-fits true w = least-fits w
far-fits false w = greatest-fits w

end_at-is : (high : Bool) (width : ℕ) (form : List ℤ) (table : Table) (k : ℕ)
    → low_end (through_filter form (responses_of table) (pos k)).weights (near_end high width) (far_end high width) ≡ end_at high width form (responses_of table) k
end_at-is true width form table k = high_end-turned (through_filter form (responses_of table) (pos k)).weights (least_sample width) (greatest_sample width)
end_at-is false width form table k = refl

pub far-end : (table : Table) (width longest : ℕ) (sum : WeightedSum) (class : Class) (high : Bool) (finer index : ℕ) (value : ℤ) → IsLawful table → IsLongest table longest → class.residue < class.modulus
    → IsFurthest high (λ i. end_at high width (weights_of sum) (responses_of table) (class.residue + i * class.modulus)) (finer_classes (length (rows_of table)) class.modulus) finer value
    → IsPast (class.residue + finer * class.modulus) (whole_of table class) (needed_for table longest (length (weights_of sum))) index
    → IsEndReached table width longest sum class high (samples_at table width (weights_of sum) high index) index value
far-end table width longest sum class high finer index value law long below furthest past =
    subst (λ (xs : List ℤ). IsEndReached table width longest sum class high xs index value) (history-is table width reach.newest index form high reach.newest_is) (record {
      reaches = record {
        fits = reach.fits;
        in_class = subst (InClass class) (sym past.is) (finer-in_class class (finer_classes (length (rows_of table)) class.modulus) finer past.rounds below);
        is = reach.is ∙ ap (λ (ws : List ℤ). low_end ws (near_end high width) (far_end high width)) same ∙ end_at-is high width form table first ∙ sym furthest.is;
      };
      end = end-is high table width form class (finer_classes (length (rows_of table)) class.modulus) finer value (omega (arith, furthest.below)) furthest;
      soon = past.soon;
      few = omega (arith, length-tabulate (suc reach.newest) (λ n. get_or (all_chosen (near_end high width) (far_end high width) (through_filter form (responses_of table) (pos index)).weights) (reach.newest - n) (pos 0)), ap size reach.newest_is);
    })
  where
    form : List ℤ
    form = weights_of sum

    first : ℕ
    first = class.residue + finer * class.modulus

    reach : Chosen table width form (near_end high width) (far_end high width) index
    reach = chosen-reach table longest width index (length form) form (near_end high width) (far_end high width) law long (omega arith) past.enough (near-fits high width) (far-fits high width)

    same : (through_filter form (responses_of table) (pos index)).weights ≡ (through_filter form (responses_of table) (pos first)).weights
    same = ap (λ (n : ℕ). (through_filter form (responses_of table) (pos n)).weights) past.is ∙ same-later table form class first past.rounds law
