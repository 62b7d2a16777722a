-- The peaks of all linear registers of a plan, and what is told of them.
use Rattle.std.proofs.Common.{◌≡◌, ◌∙◌, ℕ, ◌*◌, ◌^◌, ◌<◌, Bool, true, false, if◌then◌else◌, refl, sym, ap, subst, arith, List, [], ◌∷◌, ◌++◌, append-nil, length, map, take, pos}
use Rattle.std.proofs.lemmas.List.{take_all}
use Rattle.std.proofs.lemmas.Option.{slice_get-map}
use Rattle.std.specs.Option.{option_map}
use Rattle.mr_values.specs.declared.plan.Element.{Element}
use Rattle.mr_values.specs.Timing.{groups, last_stream}
use Rattle.net_graph.specs.declared.cell.Cell.{Cell}
use Rattle.net_graph.specs.declared.cell.Stream.{Stream}
use Rattle.net_graph.specs.Grow.{Extends}
use Rattle.impulse_phase.specs.Reach.{extent}
use Rattle.impulse_phase.specs.Response.{AreLinear}
use Rattle.stage_law.specs.Registers.{peaks_of}
use Rattle.chain_build.specs.declared.extremes.LinearPeak.{LinearPeak}
use Rattle.chain_build.specs.declared.extremes.RegisterExtreme.{RegisterExtreme}
use Rattle.chain_build.specs.Built.{has_rounding}
use Rattle.chain_build.specs.Linear.{LinearRegister, each_index, linear, output_register, prefix_range, register_of}
use Rattle.chain_build.specs.Peaks.{AreKept, IsKeptPeak, AddsChainPeak, AddsOutputPeak, ArePeaksOf, HasGroupPeaks, as_extreme}
use Rattle.chain_build.specs.Soon.{ReadsFew}
use Rattle.chain_build.specs.Told.{TellsRegister, TellsRegisters}
use Rattle.chain_build.proofs.PeakPlaces.{peaks-of, ArePeaksOf-append, ArePeaksOf-later}
use Rattle.chain_build.proofs.SoonRead.{output-reads}
use Rattle.chain_build.proofs.StepLemmas.{mapped}

module _ (width ticks : ℕ) (elements : List Element) (mid new : List Cell) (stream : Stream) (before after : List LinearPeak) (linear_is : has_rounding (groups elements) ≡ false → AreLinear elements) (reads_is : has_rounding (groups elements) ≡ false → ReadsFew elements (pos 1 ∷ []) each_index) (period : stream.period ≡ (last_stream width ticks elements).period)
    (offset : stream.offset ≡ (last_stream width ticks elements).offset) (balance : stream.period * (extent elements).up ≡ ticks * (extent elements).down) (long : stream.period < 2 ^ 31) (early : stream.offset < 2 ^ 31) (extends : Extends mid new)
    (own : HasGroupPeaks width ticks elements mid before) (adds : AddsChainPeak (has_rounding (groups elements)) width elements new stream before after) where
  of_output : has_rounding (groups elements) ≡ false → (o : AddsOutputPeak width elements new stream (length elements) before after)
      → ArePeaksOf width ticks elements new (register_of width 0 (record { elements = elements; period = (last_stream width ticks elements).period; offset = (last_stream width ticks elements).offset }) output_register ∷ []) o.adds.own
  of_output none o =
      let whole : take (length elements) elements ≡ elements = take_all (length elements) elements (omega arith) in
      subst (λ (es : List Element). ArePeaksOf width ticks elements new (register_of width 0 (record { elements = es; period = (last_stream width ticks elements).period; offset = (last_stream width ticks elements).offset }) output_register ∷ []) o.adds.own) whole
      (peaks-of width ticks elements (length elements) (last_stream width ticks elements).period (last_stream width ticks elements).offset stream (omega arith) (subst AreLinear (sym whole) (linear_is none)) (sym period) (sym offset)
      (subst (λ (es : List Element). stream.period * (extent es).up ≡ ticks * (extent es).down) (sym whole) balance) long early new 0 (output_register ∷ []) o.peaks o.adds.own
      (o.are ∙ ap (λ (es : List Element). peaks_of (prefix_range width es) 0 (output_register ∷ [])) (sym whole))
      (subst (λ (es : List Element). AreKept (IsKeptPeak width es stream (length elements)) o.peaks o.adds.own) (sym whole) (o.adds.each refl))
      (λ i r s there needed. output-reads (prefix_range width (take (length elements) elements)) (take (length elements) elements) i r s (subst (λ (es : List Element). ReadsFew es (pos 1 ∷ []) each_index) (sym whole) (reads_is none)) there needed))

  later : ArePeaksOf width ticks elements new own.listed before
  later = ArePeaksOf-later extends own.are

  by : (b : Bool) → has_rounding (groups elements) ≡ b → AddsChainPeak b width elements new stream before after
      → ArePeaksOf width ticks elements new
      (own.listed ++ (if b then [] else register_of width 0 (record { elements = elements; period = (last_stream width ticks elements).period; offset = (last_stream width ticks elements).offset }) output_register ∷ [])) after
  by true is same =
      subst (λ (rs : List LinearRegister). ArePeaksOf width ticks elements new rs after) (sym (append-nil own.listed)) (subst (λ (ps : List LinearPeak). ArePeaksOf width ticks elements new own.listed ps) (sym same) later)
  by false is o =
      subst (λ (ps : List LinearPeak). ArePeaksOf width ticks elements new (own.listed ++ (register_of width 0 (record { elements = elements; period = (last_stream width ticks elements).period; offset = (last_stream width ticks elements).offset }) output_register ∷ [])) ps) (sym o.adds.is)
      (ArePeaksOf-append own.listed (register_of width 0 (record { elements = elements; period = (last_stream width ticks elements).period; offset = (last_stream width ticks elements).offset }) output_register ∷ []) before o.adds.own later (of_output is o))

  pub all_peaks : ArePeaksOf width ticks elements new (linear width ticks elements) after
  all_peaks = subst (λ (rs : List LinearRegister). ArePeaksOf width ticks elements new rs after) own.parts (by (has_rounding (groups elements)) refl adds)

-- it is told of each
pub tells_registers : {width ticks : ℕ} {elements : List Element} {cells : List Cell} {peaks : List LinearPeak} {told : List RegisterExtreme} → ArePeaksOf width ticks elements cells (linear width ticks elements) peaks → told ≡ map as_extreme peaks
    → TellsRegisters width ticks elements cells told
tells_registers {width} {ticks} {elements} {cells} {peaks} {told} are is = subst (λ (ts : List RegisterExtreme). TellsRegisters width ticks elements cells ts) (sym is) (record {
  each = λ r s wide.
      let f = are.each wide.place r s wide.there wide.needed in
      (f.place, as_extreme f.kept, slice_get-map as_extreme peaks f.place ∙ ap (option_map as_extreme) f.there, record { inside = f.is.inside; named = f.is.named; reached = f.is.reached });
  only = λ j t there.
      let m = mapped as_extreme peaks j t there in
      let f = are.only j m.from m.there in
      (f.r, f.s, record { place = f.place; there = f.there; needed = f.needed }, subst (λ (x : RegisterExtreme). TellsRegister width ticks cells f.r f.s x) m.is (record { inside = f.is.inside; named = f.is.named; reached = f.is.reached }));
})
