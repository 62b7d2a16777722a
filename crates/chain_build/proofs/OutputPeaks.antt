-- The peak of the output's register.
use Rattle.std.proofs.Common.{◌≡◌, ◌∙◌, ℕ, zero, suc, ◌<◌, ◌≤◌, max, refl, sym, ap, subst, arith, Bool, true, false, cond, nat_eq, List, [], ◌∷◌, ◌++◌, append-nil, map, slice_get, Some, None, ℤ, pos, negsuc}
use Rattle.std.proofs.lemmas.Bool.{eq-eqb, ne_eqb}
use Rattle.mr_values.specs.declared.plan.Element.{Element}
use Rattle.mr_values.specs.Timing.{signed_bits}
use Rattle.mr_values.specs.Value.{chain}
use Rattle.mr_values.specs.Width.{IsLeastWidth}
use Rattle.net_graph.specs.declared.cell.Cell.{Cell}
use Rattle.net_graph.specs.declared.cell.Node.{Node}
use Rattle.net_graph.specs.declared.name.Name.{Name}
use Rattle.net_graph.specs.declared.name.NameKind.TheVariants.{Output}
use Rattle.net_graph.specs.Cells.{cell_at}
use Rattle.net_graph.proofs.CellLemmas.{cell_at-is}
use Rattle.pipeline_balance.specs.Numbered.{IsRegister, name_of}
use Rattle.fir_pieces.proofs.PeakLemmas.{bits_least}
use Rattle.stage_law.specs.Least.{named_peak}
use Rattle.stage_law.specs.Registers.{HeldSum, NamedPeak, bits_for, needs_high, peak_at, peaks_of}
use Rattle.stage_law.specs.Streams.{HasRoom}
use Rattle.stage_law.specs.Weights.{weights_of}
use Rattle.stage_law.specs.declared.ranges.Class.{Class}
use Rattle.stage_law.specs.declared.ranges.Range.{Range}
use Rattle.stage_law.specs.declared.stage.Peak.{Peak}
use Rattle.width_extreme.specs.declared.prefix.PrefixRanges.{PrefixRanges}
use Rattle.width_extreme.specs.Prefix.{IsStream}
use Rattle.width_extreme.specs.Walk.{transform_of}
use Rattle.chain_build.specs.Linear.{each_index, output_register}
use Rattle.chain_build.specs.Peaks.{HasPlace, AreWithPlace, AreOutputPeaks, listed_value}
use Rattle.chain_build.proofs.OutputRange.{room-value}
use Rattle.chain_build.proofs.PeakLists.{named-there}

-- each value
abbrev value_sum : HeldSum
value_sum = record { form = pos 1 ∷ []; class = each_index; lag = 1 }

pub output_one : (register : Node) (range : Range) (w : ℕ) (peak : Peak) → IsLeastWidth range.lo range.hi w → 1 < w → peak.register ≡ register → weights_of peak.sum ≡ pos 1 ∷ [] → peak.class ≡ each_index → peak.lag ≡ 1 → peak.high ≡ needs_high range w
    → AreOutputPeaks register range (peak ∷ [])
output_one register range w peak least wide node form class lag high = record {
  are = λ cells name named.
      let bits = bits_least range w least in
      let more : nat_eq (bits_for range) 1 ≡ false = ne_eqb (bits_for range) 1 (λ e. absurd (omega (arith, e, bits, wide))) in
      ap (λ (n : Node). record { name = (cell_at cells n.place).name; sum = record { form = weights_of peak.sum; class = peak.class; lag = peak.lag }; high = peak.high } ∷ []) node
      ∙ ap (λ n. record { name = n; sum = record { form = weights_of peak.sum; class = peak.class; lag = peak.lag }; high = peak.high } ∷ []) named
      ∙ ap (λ (f : List ℤ). record { name = Some name; sum = record { form = f; class = peak.class; lag = peak.lag }; high = peak.high } ∷ []) form
      ∙ ap (λ (c : Class). record { name = Some name; sum = record { form = pos 1 ∷ []; class = c; lag = peak.lag }; high = peak.high } ∷ []) class
      ∙ ap (λ (l : ℕ). record { name = Some name; sum = record { form = pos 1 ∷ []; class = each_index; lag = l }; high = peak.high } ∷ []) lag
      ∙ ap (λ (h : Bool). record { name = Some name; sum = value_sum; high = h } ∷ []) (high ∙ ap (needs_high range) (sym bits))
      ∙ sym (ap (λ (b : Bool). cond b [] (record { name = Some name; sum = value_sum; high = needs_high range (bits_for range) } ∷ [])) more);
}

pub output_none : (register : Node) (range : Range) (w : ℕ) → IsLeastWidth range.lo range.hi w → w ≤ 1 → AreOutputPeaks register range []
output_none register range w least narrow = record {
  are = λ cells name named.
      let bits = bits_least range w least in
      let some = least.positive in
      sym (ap (λ (b : Bool). cond b [] (record { name = Some name; sum = value_sum; high = needs_high range (bits_for range) } ∷ [])) (eq-eqb (bits_for range) 1 (omega (arith, bits, some, narrow))));
}

-- they are those of the list
pub listed_output : (range : List ℤ → Class → Range) → listed_value (name_of 0 Output 0) (range (pos 1 ∷ []) each_index) ≡ peaks_of range 0 (output_register ∷ [])
listed_output range = by (bits_for (range (pos 1 ∷ []) each_index)) (bits_some (range (pos 1 ∷ []) each_index))
  where
    some_bits : (z : ℤ) → 1 ≤ signed_bits z
    some_bits (pos n) = omega arith
    some_bits (negsuc n) = omega arith

    bits_some : (r : Range) → 1 ≤ bits_for r
    bits_some r = let low = some_bits r.lo in omega (arith, low)

    -- one sum's bits are those of the register
    by : (own : ℕ) → 1 ≤ own
        → cond (nat_eq own 1) [] (record { name = Some (name_of 0 Output 0); sum = value_sum; high = needs_high (range (pos 1 ∷ []) each_index) own } ∷ [])
        ≡ cond (nat_eq (max own 1) 1) [] (peak_at range (name_of 0 Output 0) (max own 1) (cond (nat_eq own (max own 1)) (Some value_sum) None)) ++ []
    by own some =
        let same : max own 1 ≡ own = omega (arith, some) in
        sym (append-nil (cond (nat_eq own 1) [] (record { name = Some (name_of 0 Output 0); sum = value_sum; high = needs_high (range (pos 1 ∷ []) each_index) own } ∷ [])))
        ∙ sym (ap (λ (b : Bool). cond (nat_eq own 1) [] (peak_at range (name_of 0 Output 0) own (cond b (Some value_sum) None)) ++ []) (eq-eqb own own refl))
        ∙ sym (ap (λ (n : ℕ). cond (nat_eq n 1) [] (peak_at range (name_of 0 Output 0) n (cond (nat_eq own n) (Some value_sum) None)) ++ []) same)

pub named_output : (cells : List Cell) (node : Node) (group w : ℕ) (name : Name) → IsRegister cells node.place group name w → (cell_at cells node.place).name ≡ Some name
named_output cells node group w name r = ap (λ (c : Cell). c.name) (cell_at-is cells node.place r.cell r.there) ∙ r.named

-- their class has indices, and there is room for their sums
pub places_out : {width : ℕ} (elements : List Element) (room : HasRoom (IsStream (chain elements) width) 1) (ranges : PrefixRanges) → transform_of ranges.table ≡ chain elements → ranges.width ≡ width
    → (cells : List Cell) (name : Name) (range : Range) (peaks : List Peak) → map (named_peak cells) peaks ≡ listed_value name range → AreWithPlace ranges peaks
places_out {width} elements room ranges streams wide cells name range peaks are = record {
  each = λ k peak there. by (nat_eq (bits_for range) 1) k peak (ap (λ (ps : List NamedPeak). slice_get ps k) (sym are) ∙ named-there cells peaks k peak there);
}
  where
    by : (b : Bool) (k : ℕ) (peak : Peak) → slice_get (cond b [] (record { name = Some name; sum = value_sum; high = needs_high range (bits_for range) } ∷ [])) k ≡ Some (named_peak cells peak) → HasPlace ranges peak
    by true k peak is = absurd (cc)
    by false (suc k) peak is = absurd (cc)
    by false zero peak is =
        let same : record { name = Some name; sum = value_sum; high = needs_high range (bits_for range) } ≡ named_peak cells peak = cc in
        let form : weights_of peak.sum ≡ pos 1 ∷ [] = sym (ap (λ (p : NamedPeak). p.sum.form) same) in
        let class : each_index ≡ peak.class = ap (λ (p : NamedPeak). p.sum.class) same in
        let own = room-value elements room (transform_of ranges.table) ranges.width (weights_of peak.sum) streams wide form in
        record {
          below = subst (λ (c : Class). c.residue < c.modulus) class (omega arith);
          room = record { most = own.0; within = own.1; room = own.2 };
        }
