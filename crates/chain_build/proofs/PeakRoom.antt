-- The sums of a linear group's peaks stay small.
use Rattle.std.proofs.Common.{◌≡◌, ◌∙◌, ℕ, ◌*◌, ◌^◌, ◌<◌, ◌≤◌, max, sym, ap, subst, arith, inl, inr, ◌⊎◌, true, nat_eq, List, slice_get, Some, ℤ}
use Rattle.std.specs.Prelude.{unwrap_or}
use Rattle.std.proofs.Math.Nat.{mul-le-mul_left}
use Rattle.std.proofs.lemmas.Bool.{cases_lt}
use Rattle.mr_values.specs.declared.plan.Element.{Element}
use Rattle.mr_values.specs.Timing.{Group, Fir, DownCic, UpCic, Rounding, Clipping, wide, taps_of, form_of}
use Rattle.mr_values.specs.Value.{chain}
use Rattle.net_graph.specs.declared.cell.Stream.{Stream}
use Rattle.net_graph.specs.Cells.{NetView}
use Rattle.impulse_phase.specs.Response.{AreLinear}
use Rattle.plan_check.specs.Amounts.{gain}
use Rattle.plan_check.specs.Forms.{Flow}
use Rattle.stage_law.specs.Facts.{StageFacts}
use Rattle.stage_law.specs.Kinds.{is_linear}
use Rattle.stage_law.specs.Least.{named_peak}
use Rattle.stage_law.specs.Registers.{NamedPeak, Telling, TellsRanges, bits_of}
use Rattle.stage_law.specs.Streams.{Streams, AreWithin, HasRoom, magnitudes}
use Rattle.stage_law.specs.Weights.{weights_of}
use Rattle.stage_law.specs.declared.ranges.Class.{Class}
use Rattle.stage_law.specs.declared.stage.Peak.{Peak}
use Rattle.width_extreme.specs.declared.prefix.PrefixRanges.{PrefixRanges}
use Rattle.width_extreme.specs.Prefix.{IsStream}
use Rattle.width_extreme.specs.Walk.{transform_of}
use Rattle.chain_build.specs.declared.groups.Added.{Added}
use Rattle.chain_build.specs.Added.{HasFacts, IsGroupAdded}
use Rattle.chain_build.specs.Built.{IsBuiltGroup, kind_of}
use Rattle.chain_build.specs.Linear.{prefix_range}
use Rattle.chain_build.specs.Peaks.{HasPlace, AreWithPlace}
use Rattle.chain_build.proofs.ExactPrefixes.{prefix-tells}
use Rattle.chain_build.proofs.FormFacts.{fir-gain}
use Rattle.chain_build.proofs.PeakLists.{listed-only, named-there}
use Rattle.chain_build.proofs.RegisterLemmas.{needed-member}
use Rattle.chain_build.proofs.SameStreams.{same_streams}
use Rattle.chain_build.proofs.StepLemmas.{TellsOwn, tells_own}

-- a linear group gains as much as its stage
own_gain : (g : Group) (flow : Flow) (facts : StageFacts) → IsBuiltGroup g → HasFacts g flow facts → is_linear (kind_of g) ≡ true → facts.gain ≡ gain g
own_gain (Fir u f d) flow facts built has linear = ap (λ (e : StageFacts). e.gain) has ∙ fir-gain (form_of f) (taps_of f) (unwrap_or u 1) (unwrap_or d 1) (wide flow.low flow.high) built
own_gain (DownCic r n m) flow facts built has linear = absurd (cc)
own_gain (UpCic r n m) flow facts built has linear = absurd (cc)
own_gain (Rounding s m) flow facts built has linear = absurd (cc)
own_gain (Clipping bits) flow facts built has linear = absurd (cc)

times_room : (most gains own form : ℕ) → most ≤ 2 ^ 125 → gains * most ≤ 2 ^ 125 → own ≡ gains → form ≤ max 1 (2 * own) → most * form ≤ 2 ^ 126
times_room most gains own form one more same small =
    let first : most * form ≤ most * max 1 (2 * own) = mul-le-mul_left most small in
    let whole : most * max 1 (2 * gains) ≤ 2 ^ 126 = by (cases_lt gains 1) in
    omega (arith, first, whole, ap (λ (n : ℕ). most * max 1 (2 * n)) same)
  where
    by : (gains < 1) ⊎ (1 ≤ gains) → most * max 1 (2 * gains) ≤ 2 ^ 126
    by (inl none) = let e : max 1 (2 * gains) ≡ 1 = omega (arith, none) in let p : most * max 1 (2 * gains) ≡ most * 1 = ap (λ (n : ℕ). most * n) e in omega (arith, p, one)
    by (inr some) =
        let e : max 1 (2 * gains) ≡ 2 * gains = omega (arith, some) in
        let p : most * max 1 (2 * gains) ≡ most * (2 * gains) = ap (λ (n : ℕ). most * n) e in
        let t : most * (2 * gains) ≡ 2 * (gains * most) = omega arith in
        omega (arith, p, t, more)

pub places_of : {width : ℕ} (elements : List Element) {g : Group} {flow : Flow} {old new : NetView} {from : Stream} {added : Added} (linear : AreLinear elements) (ranges : PrefixRanges) → transform_of ranges.table ≡ chain elements → ranges.width ≡ width → IsBuiltGroup g
    → IsGroupAdded g flow (IsStream (transform_of ranges.table) ranges.width) old new from added → is_linear (kind_of g) ≡ true → HasRoom (IsStream (chain elements) width) (gain g) → AreWithPlace ranges added.emitted.peaks.items
places_of {width} elements {g} {flow} {old} {new} {from} {added} linear ranges streams wide built adds is room = record { each = place }
  where
    range : Telling
    range = prefix_range width elements

    place : (k : ℕ) (peak : Peak) → slice_get added.emitted.peaks.items k ≡ Some peak → HasPlace ranges peak
    place k peak there =
        let tells : TellsOwn g flow adds.facts = tells_own g flow adds.facts adds.has_facts is in
        let registers = adds.realises.registers tells.linear in
        let ranges_tell : TellsRanges (IsStream (transform_of ranges.table) ranges.width) (prefix_range width elements) = same_streams (λ (s : Streams). TellsRanges s (prefix_range width elements)) streams wide (prefix-tells elements width linear) in
        let l = listed-only (prefix_range width elements) old.group (adds.facts.registers from.period) k (named_peak new.cells peak)
        (ap (λ (ps : List NamedPeak). slice_get ps k) (sym (registers.told (prefix_range width elements) ranges_tell)) ∙ named-there new.cells added.emitted.peaks.items k peak there) in
        let m = needed-member (prefix_range width elements) l.r.sums l.s (nat_eq (bits_of (prefix_range width elements) l.r.sums) 1) l.needed in
        let timely = registers.timely l.place m.place l.r l.s l.there m.there in
        let form : l.s.form ≡ weights_of peak.sum = ap (λ (p : NamedPeak). p.sum.form) l.is in
        let class : l.s.class ≡ peak.class = ap (λ (p : NamedPeak). p.sum.class) l.is in
        let small : magnitudes (weights_of peak.sum) ≤ max 1 (2 * adds.facts.gain) = subst (λ (f : List ℤ). magnitudes f ≤ max 1 (2 * adds.facts.gain)) form timely.small in
        record {
          below = subst (λ (c : Class). c.residue < c.modulus) class timely.class;
          room = record {
            most = room.most;
            within = same_streams (λ (s : Streams). AreWithin s room.most) streams wide room.within;
            room = times_room room.most (gain g) adds.facts.gain (magnitudes (weights_of peak.sum)) room.before room.after (own_gain g flow adds.facts built adds.has_facts is) small;
          };
        }
