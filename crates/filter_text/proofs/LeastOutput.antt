-- The output of a plan without roundings has the least width: the ends of its range are values of the chain.
use Rattle.std.proofs.Common.{◌≡◌, ℕ, ◌%◌, Bool, false, if◌then◌else◌, List, [], ◌∷◌, sym, ◌∙◌, ap, subst, arith, refl, ℤ, pos, ◌≤ℤ◌}
use Rattle.std.specs.Prelude.{All}
use Rattle.std.proofs.Math.Path.{fun_ext}
use Rattle.std.proofs.lemmas.Int.{ints}
use Rattle.std.proofs.lemmas.Nat.{mod_below}
use Rattle.mr_values.specs.declared.plan.Element.{Element}
use Rattle.mr_values.specs.Sequence.{Sequence, samples, filter}
use Rattle.mr_values.specs.Timing.{groups, last_stream}
use Rattle.mr_values.specs.Value.{IsWithinLimits, chain, val}
use Rattle.mr_values.specs.Width.{FitsWidth, IsLeastWidth}
use Rattle.stage_law.specs.Range.{IsRange, IsReached}
use Rattle.stage_law.specs.declared.ranges.Range.{Range}
use Rattle.width_extreme.specs.Prefix.{IsStream}
use Rattle.chain_build.specs.Built.{ArePlainGroups, has_rounding}
use Rattle.chain_build.specs.Linear.{each_index, output_range, prefix_range}
use Rattle.chain_build.proofs.ExactPrefixes.{prefix-tells, unrounded-linear}
use Rattle.chain_build.proofs.FormFacts.{filter-one}
use Rattle.chain_build.proofs.Roundings.{plain-unrounded}
use Rattle.filter_text.specs.Headline.{IsLeastOutput}

within_fits : (bits : ℕ) (low high z : ℤ) → FitsWidth bits low → FitsWidth bits high → low ≤ℤ z → z ≤ℤ high → FitsWidth bits z
within_fits bits low high z l h least greatest =
    let ll = l.low in
    let hh = h.high in
    record { low = omega (arith, ints, ll, least); high = omega (arith, ints, hh, greatest) }

module _ (elements : List Element) (width ticks bits : ℕ) (limits : All IsWithinLimits elements) (least : IsLeastWidth (output_range width ticks elements).lo (output_range width ticks elements).hi bits)
    (plain : ArePlainGroups (groups elements)) where
  abbrev exact_range : Range
  exact_range = prefix_range width elements (pos 1 ∷ []) each_index

  none : has_rounding (groups elements) ≡ false
  none = plain-unrounded (groups elements) plain

  range_is : output_range width ticks elements ≡ exact_range
  range_is = ap (λ (b : Bool). if b then record { lo = (last_stream width ticks elements).low; hi = (last_stream width ticks elements).high } else exact_range) none

  exact : IsRange (IsStream (chain elements) width) (pos 1 ∷ []) each_index exact_range
  exact = (prefix-tells elements width (unrounded-linear elements limits none)).each (pos 1 ∷ []) each_index (omega arith)

  exact_least : IsLeastWidth exact_range.lo exact_range.hi bits
  exact_least = subst (λ (r : Range). IsLeastWidth r.lo r.hi bits) range_is least

  -- a value that is reached is one of the chain's
  reached_fits : (fewer : ℕ) (z : ℤ) → IsReached (IsStream (chain elements) width) (pos 1 ∷ []) each_index z → ((xs : List ℤ) → All (FitsWidth width) xs → (n : ℕ) → FitsWidth fewer (val elements xs (pos n))) → FitsWidth fewer z
  reached_fits fewer z h all =
      let one = h.is_one in
      let is : h.stream ≡ chain elements (samples one.xs) = fun_ext one.is in
      let at : chain elements (samples one.xs) (pos h.index) ≡ z =
      ap (λ (v : Sequence). v (pos h.index)) (sym is) ∙ sym (ap (λ (v : Sequence). v (pos h.index)) (filter-one h.stream)) ∙ h.is in
      subst (FitsWidth fewer) at (all one.xs one.fits h.index)

  in_class : (k : ℕ) → k % 1 ≡ 0
  in_class k = omega (arith, mod_below k 1 (omega arith))

  value_fits : (xs : List ℤ) → All (FitsWidth width) xs → (k : ℕ) → FitsWidth bits (val elements xs (pos k))
  value_fits xs fit k =
      let v = chain elements (samples xs) in
      let stream : IsStream (chain elements) width v = record { xs = xs; fits = fit; is = λ n. refl } in
      let value : filter (pos 1 ∷ []) v (pos k) ≡ v (pos k) = ap (λ (s : Sequence). s (pos k)) (filter-one v) in
      subst (FitsWidth bits) value
      (within_fits bits exact_range.lo exact_range.hi (filter (pos 1 ∷ []) v (pos k)) exact_least.holds_low exact_least.holds_high (exact.low v stream k (in_class k)) (exact.high v stream k (in_class k)))

  pub least_output : IsLeastOutput elements width bits
  least_output = record {
    holds = value_fits;
    least = λ fewer some all. exact_least.least fewer some (reached_fits fewer exact_range.lo exact.low_reached all) (reached_fits fewer exact_range.hi exact.high_reached all);
  }
