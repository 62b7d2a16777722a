-- The peak of the register with a name.
use Rattle.std.proofs.Common.{◌≡◌, ◌∙◌, ℕ, ◌+◌, ◌<◌, ◌≤◌, refl, sym, ap, subst, arith, List, length, take, get_or, Some, slice_get, inl, inr}
use Rattle.std.proofs.lemmas.Bool.{cases_lt}
use Rattle.std.proofs.lemmas.Option.{slice_get_read, slice_get_within}
use Rattle.mr_values.specs.declared.plan.Element.{Element}
use Rattle.net_graph.specs.declared.cell.Cell.{Cell}
use Rattle.net_graph.specs.declared.cell.Item.TheVariants.{Register}
use Rattle.net_graph.specs.declared.name.NameKind.{NameKind}
use Rattle.net_graph.specs.declared.name.NameKind.TheVariants.{Valid}
use Rattle.net_graph.specs.Name.{IsRegisterKind, written_name}
use Rattle.net_graph.specs.WellFormed.{IsNamed, IsNetlist}
use Rattle.stage_law.specs.Weights.{weights_of}
use Rattle.chain_build.specs.declared.extremes.LinearPeak.{LinearPeak}
use Rattle.chain_build.specs.declared.extremes.RegisterSamples.{RegisterSamples}
use Rattle.chain_build.specs.Linear.{LinearRegister, linear}
use Rattle.chain_build.specs.LinearNet.{HasLinearRegisters}
use Rattle.chain_build.specs.Peaks.{ArePeaksOf, AreInside, HasNoneTo, HasText, IsSmallNamed, IsPeakTo, IsDriven, IsKeptPlace, IsOneOf}
use Rattle.chain_build.specs.Told.{IsRegisterExtreme, HasNoRegister}
use Rattle.chain_build.proofs.PeakPlaces.{extreme-input}
use Rattle.chain_build.proofs.SampleBounds.{few-samples}

pub inside_of : {width ticks : ℕ} {elements : List Element} (cells : List Cell) (peaks : List LinearPeak) → ArePeaksOf width ticks elements cells (linear width ticks elements) peaks → AreInside cells peaks
inside_of cells peaks are = record { each = λ j kept there. (are.only j kept there).is.inside }

pub inside_read : (cells : List Cell) (peaks : List LinearPeak) (i : ℕ) (kept : LinearPeak) → AreInside cells peaks → i < length peaks → kept ≡ get_or peaks i kept → kept.peak.register.place < length cells
inside_read cells peaks i kept h below is = h.each i kept (slice_get_read peaks (length peaks) i kept refl below is)

pub peak_to : (cells : List Cell) (peaks : List LinearPeak) (i place : ℕ) (text : List ℕ) (kept : LinearPeak) → place ≡ i → i < length peaks → kept ≡ get_or peaks i kept → HasText cells kept.peak.register.place text → IsSmallNamed cells kept.peak.register.place → IsPeakTo cells peaks place text
peak_to cells peaks i place text kept at below is has small = record { kept = kept; there = ap (slice_get peaks) at ∙ slice_get_read peaks (length peaks) i kept refl below is; has = has; small = small }

pub none_all : (cells : List Cell) (peaks : List LinearPeak) (i : ℕ) (text : List ℕ) → HasNoneTo cells peaks i text → length peaks ≤ i → HasNoneTo cells peaks (length peaks) text
none_all cells peaks i text h past = record { none = λ j kept less there has. h.none j kept (omega (arith, less, past)) there has }

pub none_first : (cells : List Cell) (peaks : List LinearPeak) (text : List ℕ) → HasNoneTo cells peaks 0 text
none_first cells peaks text = record { none = λ j kept less there has. absurd (omega (arith, less)) }

pub none_more : (cells : List Cell) (peaks : List LinearPeak) (i : ℕ) (text : List ℕ) (kept : LinearPeak) → HasNoneTo cells peaks i text → i < length peaks → kept ≡ get_or peaks i kept → (HasText cells kept.peak.register.place text → ⊥) → HasNoneTo cells peaks (i + 1) text
none_more cells peaks i text kept h below is apart = record {
  none = λ j other less there has. elim (cases_lt j i) [
    | inl before ↦ h.none j other before there has
    | inr here ↦
        let at : j ≡ i = omega (arith, less, here) in
        let own : slice_get peaks i ≡ Some kept = slice_get_read peaks (length peaks) i kept refl below is in
        let both : Some other ≡ Some kept = sym there ∙ ap (slice_get peaks) at ∙ own in
        let same : other ≡ kept = cc in
        apart (subst (λ (k : LinearPeak). HasText cells k.peak.register.place text) same has)
  ];
}

pub peak_read : {width ticks : ℕ} {elements : List Element} {cells : List Cell} (peaks : List LinearPeak) (i : ℕ) (kept : LinearPeak) → ArePeaksOf width ticks elements cells (linear width ticks elements) peaks → i < length peaks → kept ≡ get_or peaks i kept
    → IsOneOf width ticks elements cells (linear width ticks elements) kept
peak_read peaks i kept are below is = are.only i kept (slice_get_read peaks (length peaks) i kept refl below is)

pub kept_place : {width ticks : ℕ} {elements : List Element} {cells : List Cell} {kept : LinearPeak} → IsOneOf width ticks elements cells (linear width ticks elements) kept → IsKeptPlace width elements kept
kept_place one = let p = one.is.place in record { within = p.within; linear = p.linear; long = p.long; early = p.early; below = p.below; room = p.room }

pub register_found : {width ticks : ℕ} {elements : List Element} {cells : List Cell} {kept : LinearPeak} {text : List ℕ} {x : RegisterSamples} → IsOneOf width ticks elements cells (linear width ticks elements) kept → HasText cells kept.peak.register.place text × IsSmallNamed cells kept.peak.register.place
    → IsDriven width (take kept.taken elements) kept x.samples.items x.tick x.value → IsRegisterExtreme width ticks elements text x
register_found {width} {ticks} {elements} {cells} {kept} {text} {x} one has d = record {
  r = one.r;
  s = one.s;
  wide = record { place = one.place; there = one.there; needed = one.needed };
  named =
      let both : Some one.r.name ≡ Some has.0.name = sym one.is.named ∙ has.0.is_named in
      let same : one.r.name ≡ has.0.name = cc in
      ap written_name same ∙ has.0.written;
  small = has.1.each one.r.name one.is.named;
  input = extreme-input one.is.place x.samples.items d.index x.tick x.value d.reached d.is_tick;
  few = few-samples (take kept.taken elements) (weights_of kept.peak.sum) kept.peak.class (length x.samples.items) d.index one.is.place.linear one.is.place.reads d.reached.soon d.reached.few;
}

-- a linear register of the plan is no node that is shown as `out_valid`
no_shown : {width ticks : ℕ} {elements : List Element} {cells : List Cell} → IsNetlist cells → HasLinearRegisters width ticks elements cells → (i : ℕ) (r : LinearRegister) → slice_get (linear width ticks elements) i ≡ Some r → r.name.kind ≡ Valid → ⊥
no_shown {width} {ticks} {elements} {cells} net has i r there is =
    let own = has.each i r there in
    let reg = own.register in
    let named : IsNamed (Some r.name) (Some (Register reg.registered.0)) = subst (λ o. IsNamed o (Some (Register reg.registered.0))) reg.named (subst (IsNamed reg.cell.name) reg.registered.1 (net.well_formed.each own.node.place reg.cell reg.there).named) in
    let none : IsRegisterKind Valid r.name.group r.name.number = subst (λ (k : NameKind). IsRegisterKind k r.name.group r.name.number) is named in
    none

pub register_none : {width ticks : ℕ} {elements : List Element} {cells : List Cell} {peaks : List LinearPeak} {text : List ℕ} (count : ℕ) → IsNetlist cells → HasLinearRegisters width ticks elements cells → ArePeaksOf width ticks elements cells (linear width ticks elements) peaks
    → length peaks ≤ count → HasNoneTo cells peaks count text → HasNoRegister width ticks elements text
register_none {width} {ticks} {elements} {cells} {peaks} {text} count net has are past h = record {
  none = λ r s wide named.
      let f = are.each wide.place r s wide.there wide.needed in
      let inside = slice_get_within peaks f.place f.kept f.there in
      h.none f.place f.kept (omega (arith, inside, past)) f.there (record { name = r.name; is_named = f.is.named; shown = no_shown net has wide.place r wide.there; written = named });
}

pub text_read : (cells : List Cell) (peaks : List LinearPeak) (place : ℕ) (text : List ℕ) (kept : LinearPeak) → IsPeakTo cells peaks place text → kept ≡ get_or peaks place kept → HasText cells kept.peak.register.place text × IsSmallNamed cells kept.peak.register.place
text_read cells peaks place text kept to is =
    let inside = slice_get_within peaks place to.kept to.there in
    let both : Some to.kept ≡ Some kept = sym to.there ∙ slice_get_read peaks (length peaks) place kept refl inside is in
    let same : to.kept ≡ kept = cc in (
      subst (λ (k : LinearPeak). HasText cells k.peak.register.place text) same to.has,
      subst (λ (k : LinearPeak). IsSmallNamed cells k.peak.register.place) same to.small,
    )

pub to_inside : (cells : List Cell) (peaks : List LinearPeak) (place : ℕ) (text : List ℕ) → IsPeakTo cells peaks place text → place < length peaks
to_inside cells peaks place text to = slice_get_within peaks place to.kept to.there
