-- Peaks that are kept one after another.
use Rattle.std.proofs.Common.{◌≡◌, ◌∙◌, ℕ, ◌+◌, ◌*◌, ◌/◌, ◌<◌, ◌≤◌, refl, sym, ap, subst, suc, All, Bool, true, false, List, [], ◌∷◌, ◌++◌, append_assoc, append-nil, length, map, take, get_or, ℤ, pos}
use Rattle.std.proofs.lemmas.List.{map-append, take_all, take_more}
use Rattle.std.proofs.lemmas.Option.{slice_get_read}
use Rattle.mr_values.specs.declared.plan.Element.{Element}
use Rattle.mr_values.specs.Sequence.{Sequence, samples, filter}
use Rattle.mr_values.specs.Value.{size, chain}
use Rattle.mr_values.specs.Width.{FitsWidth}
use Rattle.net_graph.specs.declared.cell.Stream.{Stream}
use Rattle.impulse_phase.specs.Reading.{IsResponseOf, rows_of, responses_of}
use Rattle.impulse_phase.specs.Reach.{extent}
use Rattle.impulse_phase.specs.Response.{AreLinear, Response, Responses, full_cycle, responses}
use Rattle.impulse_phase.proofs.Reach.{weights-within_reach}
use Rattle.stage_law.specs.Streams.{Streams, AreWithin}
use Rattle.stage_law.specs.Weights.{weights_of}
use Rattle.stage_law.specs.declared.stage.Peak.{Peak}
use Rattle.width_extreme.specs.declared.prefix.PrefixRanges.{PrefixRanges}
use Rattle.width_extreme.specs.Furthest.{end_of, whole_of, IsEndReached}
use Rattle.width_extreme.specs.Prefix.{range_of, finer_classes}
use Rattle.width_extreme.specs.Walk.{transform_of, needed_for, HasFormRoom}
use Rattle.width_extreme.proofs.Lawful.{tells}
use Rattle.chain_build.specs.declared.extremes.LinearPeak.{LinearPeak}
use Rattle.chain_build.specs.declared.extremes.RegisterExtreme.{RegisterExtreme}
use Rattle.chain_build.specs.Peaks.{HasPlace, AreWithPlace, AreKept, AddsKeptOver, IsKeptOver, IsEndBy, HasSumRoom, IsKeptPeak, AddsPeaks, as_extreme}
use Rattle.chain_build.specs.Soon.{soon_after}
use Rattle.chain_build.proofs.PeakLists.{kept-push, kept-weaker}
use Rattle.chain_build.proofs.SameStreams.{same_streams, streams_same}
use Rattle.chain_build.proofs.SampleBounds.{soon-than}

module _ (ranges : PrefixRanges) (from : Stream) (taken : ℕ) where
  pub kept_none : (peaks : List Peak) (old : List LinearPeak) → AddsKeptOver ranges from taken (take 0 peaks) old old
  kept_none peaks old = record { own = []; is = sym (append-nil old); each = tt }

  pub kept_more : (peaks : List Peak) (i : ℕ) (old items new : List LinearPeak) (peak : Peak) (own : LinearPeak) → AddsKeptOver ranges from taken (take i peaks) old items → i < length peaks → peak ≡ get_or peaks i peak → IsKeptOver ranges from taken peak own
      → new ≡ items ++ own ∷ [] → AddsKeptOver ranges from taken (take (i + 1) peaks) old new
  kept_more peaks i old items new peak own h below is holds pushed = record {
    own = h.own ++ own ∷ [];
    is = pushed ∙ ap (λ (ps : List LinearPeak). ps ++ own ∷ []) h.is ∙ append_assoc old h.own (own ∷ []);
    each = subst (λ (ps : List Peak). AreKept (IsKeptOver ranges from taken) ps (h.own ++ own ∷ [])) (sym (take_more peaks i peak below ∙ ap (λ (p : Peak). take i peaks ++ p ∷ []) (sym is)))
        (kept-push (IsKeptOver ranges from taken) (take i peaks) h.own peak own h.each holds);
  }

  pub kept_all : (peaks : List Peak) (i : ℕ) (old new : List LinearPeak) → length peaks ≤ i → AddsKeptOver ranges from taken (take i peaks) old new → AddsKeptOver ranges from taken peaks old new
  kept_all peaks i old new past h = subst (λ (ps : List Peak). AddsKeptOver ranges from taken ps old new) (take_all i peaks past) h

pub place_read : (ranges : PrefixRanges) (peaks : List Peak) (i : ℕ) (peak : Peak) → AreWithPlace ranges peaks → i < length peaks → peak ≡ get_or peaks i peak → HasPlace ranges peak
place_read ranges peaks i peak h below is = h.each i peak (slice_get_read peaks (length peaks) i peak refl below is)

-- ---- what a table tells is what the elements say

module _ {width : ℕ} {elements : List Element} (linear : AreLinear elements) (ranges : PrefixRanges) (streams : transform_of ranges.table ≡ chain elements) (wide : ranges.width ≡ width) (table : IsResponseOf elements ranges.table) where
  same_responses : responses_of ranges.table ≡ responses elements
  same_responses = tells elements ranges.table linear table

  -- no row of the table has more weights than values depend on samples
  longest-within : ranges.longest ≤ (extent elements).reach
  longest-within =
      ranges.long.least (extent elements).reach
      (λ class below.
      let row = table.rows class (subst (λ (n : ℕ). class < n) table.classes below) in
      subst (λ (r : Response). length r.weights ≤ (extent elements).reach) (sym row) (weights-within_reach elements (pos class) linear))

  soon-by : (peak : Peak) (index : ℕ) → index ≤ needed_for ranges.table ranges.longest (length (weights_of peak.sum)) + whole_of ranges.table peak.class → index ≤ soon_after elements (weights_of peak.sum) peak.class
  soon-by peak index soon =
      let values = length (weights_of peak.sum) in
      let m = peak.class.modulus in
      soon-than elements (weights_of peak.sum) peak.class ranges.longest index values linear longest-within refl
      (subst (λ (n : ℕ). index ≤ values + (full_cycle elements).classes * (ranges.longest / n + 1) + finer_classes (full_cycle elements).classes m * m) table.step
      (subst (λ (n : ℕ). index ≤ values + n * (ranges.longest / ranges.table.step + 1) + finer_classes n m * m) table.classes soon))

  pub end-by : (peak : Peak) (xs : List ℤ) (index : ℕ) (value : ℤ) → IsEndReached ranges.table ranges.width ranges.longest peak.sum peak.class peak.high xs index value → IsEndBy width elements (weights_of peak.sum) peak.class peak.high xs index value
  end-by peak xs index value r = record {
    fits = subst (λ (w : ℕ). All (FitsWidth w) xs) wide r.reaches.fits;
    in_class = r.reaches.in_class;
    is = ap (λ (t : Sequence → Sequence). filter (weights_of peak.sum) (t (samples xs)) (pos index)) (sym streams) ∙ r.reaches.is;
    end = r.end
        ∙ ap (λ (w : ℕ). end_of peak.high (range_of w (weights_of peak.sum) (responses_of ranges.table) peak.class (finer_classes (length (rows_of ranges.table)) peak.class.modulus))) wide
        ∙ ap (λ (f : Responses). end_of peak.high (range_of width (weights_of peak.sum) f peak.class (finer_classes (length (rows_of ranges.table)) peak.class.modulus))) same_responses
        ∙ ap (λ (n : ℕ). end_of peak.high (range_of width (weights_of peak.sum) (responses elements) peak.class (finer_classes n peak.class.modulus))) table.classes;
    soon = soon-by peak index r.soon;
    few = subst (λ (f : Responses). length xs ≤ suc (size (f (pos index)).newest)) same_responses r.few;
  }

  -- a sum that has room over the elements' streams has it over the table's
  pub form_room : (form : List ℤ) → HasSumRoom width elements form → HasFormRoom ranges.table ranges.width form
  form_room form r = record { most = r.most; within = same_streams (λ (s : Streams). AreWithin s r.most) streams wide r.within; room = r.room }

  sum_room : (form : List ℤ) → HasFormRoom ranges.table ranges.width form → HasSumRoom width elements form
  sum_room form r = record { most = r.most; within = streams_same (λ (s : Streams). AreWithin s r.most) streams wide r.within; room = r.room }

  kept_peak : (from : Stream) (taken : ℕ) (peak : Peak) (own : LinearPeak) → HasPlace ranges peak → IsKeptOver ranges from taken peak own → IsKeptPeak width elements from taken peak own
  kept_peak from taken peak own place k = record {
    same = k.same;
    from_is = k.from_is;
    taken_is = k.taken_is;
    below = place.below;
    room = sum_room (weights_of peak.sum) place.room;
    xs = k.reached.xs;
    index = k.index;
    tick = k.tick;
    reached = end-by peak k.reached.xs k.index own.value k.reached.reached;
  }

  pub adds_peaks : (told : Bool) (from : Stream) (taken : ℕ) (peaks : List Peak) (old new : List LinearPeak) → told ≡ true → AreWithPlace ranges peaks → AddsKeptOver ranges from taken peaks old new → AddsPeaks told width elements from taken peaks old new
  adds_peaks told from taken peaks old new is places h = record {
    own = h.own;
    is = h.is;
    none = λ none. absurd (let e : true ≡ false = sym is ∙ none in cc);
    each = λ _. kept-weaker (IsKeptOver ranges from taken) (IsKeptPeak width elements from taken) peaks h.own (λ j p k there holds. kept_peak from taken p k (places.each j p there) holds) h.each;
  }

pub adds_none : (told : Bool) (width : ℕ) (elements : List Element) (from : Stream) (taken : ℕ) (peaks : List Peak) (old : List LinearPeak) → told ≡ false → AddsPeaks told width elements from taken peaks old old
adds_none told width elements from taken peaks old is = record {
  own = [];
  is = sym (append-nil old);
  none = λ _. refl;
  each = λ some. absurd (let e : false ≡ true = sym is ∙ some in cc);
}

-- ---- what is told of them

pub extremes_more : (peaks : List LinearPeak) (i : ℕ) (items new : List RegisterExtreme) (kept : LinearPeak) (one : RegisterExtreme) → items ≡ map as_extreme (take i peaks) → i < length peaks → kept ≡ get_or peaks i kept → one ≡ as_extreme kept → new ≡ items ++ one ∷ []
    → new ≡ map as_extreme (take (i + 1) peaks)
extremes_more peaks i items new kept one so below is told pushed =
    pushed ∙ ap (λ (xs : List RegisterExtreme). xs ++ one ∷ []) so ∙ ap (λ (x : RegisterExtreme). map as_extreme (take i peaks) ++ x ∷ []) (told ∙ ap as_extreme is) ∙ sym (map-append as_extreme (take i peaks) (get_or peaks i kept ∷ []))
    ∙ ap (map as_extreme) (sym (take_more peaks i kept below))

pub extremes_all : (peaks : List LinearPeak) (i : ℕ) (items : List RegisterExtreme) → items ≡ map as_extreme (take i peaks) → length peaks ≤ i → items ≡ map as_extreme peaks
extremes_all peaks i items so past = so ∙ ap (map as_extreme) (take_all i peaks past)
