-- The range of a chain's values.
use Rattle.std.proofs.Common.{◌≡◌, ℕ, ◌*◌, ◌≤◌, ◌^◌, ◌%◌, max, Bool, true, false, if◌then◌else◌, List, [], ◌∷◌, refl, sym, ◌∙◌, ap, subst, arith, ℤ, pos, negsuc}
use Rattle.std.specs.Prelude.{All, unsigned_abs}
use Rattle.std.proofs.Math.Path.{fun_ext}
use Rattle.std.proofs.lemmas.Int.{ints}
use Rattle.std.proofs.lemmas.Nat.{mod_below}
use Rattle.mr_values.specs.declared.plan.Element.{Element}
use Rattle.mr_values.specs.Sequence.{Sequence, samples, filter}
use Rattle.mr_values.specs.Timing.{groups, last_stream}
use Rattle.mr_values.specs.Value.{chain}
use Rattle.mr_values.specs.Width.{FitsWidth}
use Rattle.plan_laws.specs.Laws.{IsBetween}
use Rattle.impulse_phase.specs.Response.{AreLinear}
use Rattle.span_ranges.specs.Span.{IsInSpan}
use Rattle.stage_law.specs.Range.{IsRange, IsReached}
use Rattle.stage_law.specs.Streams.{Streams, HasRoom, AreWithin, magnitudes}
use Rattle.stage_law.specs.declared.ranges.Range.{Range}
use Rattle.width_extreme.specs.Prefix.{IsStream}
use Rattle.chain_build.specs.Built.{has_rounding}
use Rattle.chain_build.specs.Linear.{each_index, output_range, prefix_range}
use Rattle.chain_build.proofs.ExactPrefixes.{prefix-tells}
use Rattle.chain_build.proofs.FormFacts.{filter-one}
use Rattle.chain_build.proofs.Spans.{HasRoom-span}
use Rattle.chain_build.proofs.RangeLemmas.{same_range}
use Rattle.chain_build.proofs.SameStreams.{same_streams, streams_same}

-- a range that holds the chain's values and isn't far
pub record RangesOver (width : ℕ) (elements : List Element) (r : Range) : Type 0 where
  pub holds : (xs : List ℤ) → All (FitsWidth width) xs → (k : ℕ) → IsBetween r.lo r.hi (chain elements (samples xs) (pos k))
  pub low_fits : FitsWidth 127 r.lo
  pub high_fits : FitsWidth 127 r.hi

pub small_fits : (z : ℤ) → unsigned_abs z ≤ 2 ^ 125 → FitsWidth 127 z
small_fits (pos n) h = record { low = omega (arith, ints); high = omega (arith, ints, h) }
small_fits (negsuc n) h = record { low = omega (arith, ints, h); high = omega (arith, ints) }

between_fits : (low high z : ℤ) → FitsWidth 127 low → FitsWidth 127 high → IsBetween low high z → FitsWidth 127 z
between_fits low high z l h b =
    let ll = l.low in
    let hh = h.high in
    let bl = b.least in
    let bh = b.greatest in
    record { low = omega (arith, ints, ll, bl); high = omega (arith, ints, hh, bh) }

module _ (width ticks : ℕ) (elements : List Element) (low high : ℤ) (low_small : unsigned_abs low ≤ 2 ^ 125) (high_small : unsigned_abs high ≤ 2 ^ 125)
    (span : (xs : List ℤ) → All (FitsWidth width) xs → IsInSpan low high (chain elements (samples xs))) where
  spanned : RangesOver width elements (record { lo = low; hi = high })
  spanned = record { holds = λ xs fit k. (span xs fit).within (pos k); low_fits = small_fits low low_small; high_fits = small_fits high high_small }

  -- a value that some stream reaches is no greater than the span
  reached-fits : (z : ℤ) → IsReached (IsStream (chain elements) width) (pos 1 ∷ []) each_index z → FitsWidth 127 z
  reached-fits z h =
      let one = h.is_one in
      let is : h.stream ≡ chain elements (samples one.xs) = fun_ext one.is in
      let at : chain elements (samples one.xs) (pos h.index) ≡ z =
      ap (λ (v : Sequence). v (pos h.index)) (sym is) ∙ sym (ap (λ (v : Sequence). v (pos h.index)) (filter-one h.stream)) ∙ h.is in
      subst (FitsWidth 127) at (between_fits low high _ (small_fits low low_small) (small_fits high high_small) ((span one.xs one.fits).within (pos h.index)))

  exact : AreLinear elements → RangesOver width elements (prefix_range width elements (pos 1 ∷ []) each_index)
  exact linear =
      let is = (prefix-tells elements width linear).each (pos 1 ∷ []) each_index (omega arith) in
      record {
        holds = λ xs fit k.
            let v = chain elements (samples xs) in
            let stream : IsStream (chain elements) width v = record { xs = xs; fits = fit; is = λ n. refl } in
            let value : filter (pos 1 ∷ []) v (pos k) ≡ v (pos k) = ap (λ (s : Sequence). s (pos k)) (filter-one v) in
            subst (IsBetween (prefix_range width elements (pos 1 ∷ []) each_index).lo (prefix_range width elements (pos 1 ∷ []) each_index).hi) value
            (record { least = is.low v stream k (in_class k); greatest = is.high v stream k (in_class k) });
        low_fits = reached-fits _ is.low_reached;
        high_fits = reached-fits _ is.high_reached;
      }
    where
      in_class : (k : ℕ) → k % 1 ≡ 0
      in_class k = omega (arith, mod_below k 1 (omega arith))

  -- the values of the chain are small
  pub room-chain : HasRoom (IsStream (chain elements) width) 1
  room-chain =
      let most : max (unsigned_abs low) (unsigned_abs high) ≤ 2 ^ 125 = omega arith in
      let once : 1 * max (unsigned_abs low) (unsigned_abs high) ≤ 2 ^ 125 = omega arith in
      let room = HasRoom-span low high 1 most once in
      record {
        most = room.most;
        within = record { each = λ v h. let is : v ≡ chain elements (samples h.xs) = fun_ext h.is in room.within.each v (subst (IsInSpan low high) (sym is) (span h.xs h.fits)) };
        before = room.before;
        after = room.after;
      }

  by : (b : Bool) → has_rounding (groups elements) ≡ b → (b ≡ false → AreLinear elements)
      → RangesOver width elements (if b then record { lo = low; hi = high } else prefix_range width elements (pos 1 ∷ []) each_index)
  by true is linear = spanned
  by false is linear = exact (linear refl)

  pub ranges-over : low ≡ (last_stream width ticks elements).low → high ≡ (last_stream width ticks elements).high → (has_rounding (groups elements) ≡ false → AreLinear elements) → RangesOver width elements (output_range width ticks elements)
  ranges-over low_is high_is linear =
      subst (λ (z : ℤ). RangesOver width elements (if has_rounding (groups elements) then record { lo = z; hi = (last_stream width ticks elements).high } else prefix_range width elements (pos 1 ∷ []) each_index)) low_is
      (subst (λ (z : ℤ). RangesOver width elements (if has_rounding (groups elements) then record { lo = low; hi = z } else prefix_range width elements (pos 1 ∷ []) each_index)) high_is
      (by (has_rounding (groups elements)) refl linear))

-- the room that a value of the chain has
module _ {width : ℕ} (elements : List Element) (room : HasRoom (IsStream (chain elements) width) 1) where
  pub room-value : (f : Sequence → Sequence) (w : ℕ) (form : List ℤ) → f ≡ chain elements → w ≡ width → form ≡ pos 1 ∷ [] → (m : ℕ) × AreWithin (IsStream f w) m × (m * magnitudes form ≤ 2 ^ 126)
  room-value f w form f_is w_is form_is =
      let small = room.before in
      let one : magnitudes form ≡ 1 = ap magnitudes form_is in
      let times : room.most * magnitudes form ≡ room.most = ap (λ (n : ℕ). room.most * n) one ∙ omega arith in
      (room.most, same_streams (λ (s : Streams). AreWithin s room.most) f_is w_is room.within, omega (arith, small, times))

-- what is found is the range that is meant
pub output-exact : (width ticks : ℕ) (elements : List Element) (f : Sequence → Sequence) (w : ℕ) (form : List ℤ) (r : Range) → AreLinear elements → has_rounding (groups elements) ≡ false → f ≡ chain elements → w ≡ width → form ≡ pos 1 ∷ []
    → IsRange (IsStream f w) form each_index r → r ≡ output_range width ticks elements
output-exact width ticks elements f w form r linear none f_is w_is form_is is =
    same_range (streams_same (λ (s : Streams). IsRange s (pos 1 ∷ []) each_index r) f_is w_is (subst (λ (h : List ℤ). IsRange (IsStream f w) h each_index r) form_is is))
    ((prefix-tells elements width linear).each (pos 1 ∷ []) each_index (omega arith))
    ∙ sym (ap (λ (b : Bool). if b then record { lo = (last_stream width ticks elements).low; hi = (last_stream width ticks elements).high } else prefix_range width elements (pos 1 ∷ []) each_index) none)
