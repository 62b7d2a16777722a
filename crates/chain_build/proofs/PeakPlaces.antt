-- A peak that is kept is that of a register of the plan, and the samples that are found drive the register to its extreme.
use Rattle.std.proofs.Common.{◌≡◌, ◌∙◌, ℕ, zero, suc, ◌+◌, ◌*◌, ◌^◌, ◌<◌, ◌≤◌, refl, sym, ap, subst, arith, Bool, List, [], ◌∷◌, ◌++◌, length, map, take, Option, Some, IsSome, slice_get, ℤ, pos, inl, inr}
use Rattle.std.proofs.lemmas.Bool.{cases_lt}
use Rattle.mr_values.specs.declared.plan.Element.{Element}
use Rattle.mr_values.specs.Sequence.{samples, filter}
use Rattle.mr_values.specs.Value.{chain}
use Rattle.net_graph.specs.declared.cell.Cell.{Cell}
use Rattle.net_graph.specs.declared.cell.Node.{Node}
use Rattle.net_graph.specs.declared.cell.Stream.{Stream}
use Rattle.net_graph.specs.declared.name.Name.{Name}
use Rattle.net_graph.specs.Cells.{cell_at}
use Rattle.net_graph.specs.Grow.{Extends}
use Rattle.net_graph.proofs.CellLemmas.{cell_at-is, cell_at-there}
use Rattle.impulse_phase.specs.Reach.{extent}
use Rattle.impulse_phase.specs.Response.{AreLinear}
use Rattle.stage_law.specs.Least.{named_peak}
use Rattle.stage_law.specs.Range.{InClass}
use Rattle.stage_law.specs.Registers.{HeldSum, StageRegister, NamedPeak, bits_of, needs_high, peaks_of}
use Rattle.stage_law.specs.Weights.{weights_of}
use Rattle.stage_law.specs.declared.ranges.Class.{Class}
use Rattle.stage_law.specs.declared.stage.Peak.{Peak}
use Rattle.chain_build.specs.declared.extremes.LinearPeak.{LinearPeak}
use Rattle.chain_build.specs.Extremes.{IsExtremeInput}
use Rattle.chain_build.specs.Linear.{LinearRegister, PrefixStream, prefix_range, register_of}
use Rattle.chain_build.specs.Peaks.{AreKept, IsEndBy, HasSumRoom, IsKeptPeak, IsPlaceOf, IsPeakOf, ArePeaksOf}
use Rattle.chain_build.specs.Soon.{ReadsFew}
use Rattle.chain_build.proofs.Bits.{end-over}
use Rattle.chain_build.proofs.Pace.{read-early}
use Rattle.chain_build.proofs.PeakLists.{needed_of, needed-more, peak_for, listed-each, listed-only, kept-each, kept-only, named-there}
use Rattle.chain_build.proofs.RegistersSoFar.{parted}
use Rattle.chain_build.proofs.StepLemmas.{mapped}

-- ---- the samples

pub extreme-input : {width ticks : ℕ} {whole : List Element} {r : LinearRegister} {s : HeldSum} {taken : ℕ} {from : Stream} {form : List ℤ} {class : Class} {lag : ℕ} {high : Bool} → IsPlaceOf width ticks whole r s taken from form class lag high
    → (xs : List ℤ) (index tick : ℕ) (value : ℤ) → IsEndBy width (take taken whole) form class high xs index value → tick ≡ from.offset + index * from.period + lag → IsExtremeInput width ticks r s xs tick value
extreme-input {width} {ticks} {whole} {r} {s} {taken} {from} {form} {class} {lag} {high} p xs index tick value e at = record {
  fit = e.fits;
  index = index;
  in_class = subst (λ (c : Class). InClass c index) (sym p.class_is) e.in_class;
  is_tick = at ∙ ap (λ (n : ℕ). n + index * from.period + lag) (sym p.offset) ∙ ap (λ (n : ℕ). r.stream.offset + index * n + lag) (sym p.period) ∙ ap (λ (n : ℕ). r.stream.offset + index * r.stream.period + n) (sym p.lag_is);
  early = λ i below.
      let few = e.few in
      let read = read-early (take taken whole) index i ticks from.period p.linear (omega (arith, few, below)) p.balance in
      omega (arith, read, at);
  is_value = sym e.is ∙ ap (λ (es : List Element). filter form (chain es (samples xs)) (pos index)) (sym p.elements) ∙ ap (λ (f : List ℤ). filter f (chain r.stream.elements (samples xs)) (pos index)) (sym p.form_is);
  over = end-over (prefix_range width (take taken whole) form class) r.width high value p.high_is p.bits p.some e.end;
}

-- ---- a peak of a stage's register

-- the stream that so many elements of the plan make
abbrev pub stream_over : List Element → ℕ → ℕ → ℕ → PrefixStream
stream_over whole taken period offset = record { elements = take taken whole; period = period; offset = offset }

-- the place with all that is the same
moved : (width ticks : ℕ) (whole : List Element) (r : LinearRegister) (s : HeldSum) (f g : List ℤ) (c d : Class) (l m : ℕ) (h k : Bool) (n o : ℕ) (a b : Stream) → IsPlaceOf width ticks whole r s n a f c l h → f ≡ g → c ≡ d → l ≡ m → h ≡ k → n ≡ o → a ≡ b → IsPlaceOf width ticks whole r s o b g d m k
moved width ticks whole r s f g c d l m h k n o a b p forms classes lags highs takens froms =
    subst (λ (x : Stream). IsPlaceOf width ticks whole r s o x g d m k) froms
    (subst (λ (x : ℕ). IsPlaceOf width ticks whole r s x a g d m k) takens
    (subst (λ (x : Bool). IsPlaceOf width ticks whole r s n a g d m x) highs
    (subst (λ (x : ℕ). IsPlaceOf width ticks whole r s n a g d x h) lags
    (subst (λ (x : Class). IsPlaceOf width ticks whole r s n a g x l h) classes
    (subst (λ (x : List ℤ). IsPlaceOf width ticks whole r s n a x c l h) forms p)))))

named_inside : (cells : List Cell) (place : ℕ) (name : Name) → (cell_at cells place).name ≡ Some name → place < length cells
named_inside cells place name is = elim (cases_lt place (length cells)) [
  | inl less ↦ less
  | inr past ↦ absurd (nameless cells place past is)
]
  where
    nameless : (cs : List Cell) (k : ℕ) → length cs ≤ k → (cell_at cs k).name ≡ Some name → ⊥
    nameless [] k h e = absurd (cc)
    nameless (c ∷ cs) zero h e = absurd (omega arith)
    nameless (c ∷ cs) (suc k) h e = nameless cs k (omega arith) e

mapped_there : (f : StageRegister → LinearRegister) (rs : List StageRegister) (i : ℕ) (r : StageRegister) → slice_get rs i ≡ Some r → slice_get (map f rs) i ≡ Some (f r)
mapped_there f [] i r is = absurd (cc)
mapped_there f (q ∷ rs) zero r is = let same : q ≡ r = cc in ap (λ (z : StageRegister). Some (f z)) same
mapped_there f (q ∷ rs) (suc i) r is = mapped_there f rs i r is

module _ (width ticks : ℕ) (whole : List Element) (taken period offset : ℕ) (from : Stream) (within : taken ≤ length whole) (linear : AreLinear (take taken whole)) (period_is : period ≡ from.period) (offset_is : offset ≡ from.offset)
    (balance : from.period * (extent (take taken whole)).up ≡ ticks * (extent (take taken whole)).down) (long : from.period < 2 ^ 31) (early : from.offset < 2 ^ 31) where
  place-of : (group : ℕ) (r : StageRegister) (s : HeldSum) → needed_of (prefix_range width (take taken whole)) r ≡ Some s → s.class.residue < s.class.modulus → HasSumRoom width (take taken whole) s.form → ReadsFew (take taken whole) s.form s.class
      → IsPlaceOf width ticks whole (register_of width group (stream_over whole taken period offset) r) s taken from s.form s.class s.lag (needs_high (prefix_range width (take taken whole) s.form s.class) (bits_of (prefix_range width (take taken whole)) r.sums))
  place-of group r s needed below room reads =
      let more = needed-more (prefix_range width (take taken whole)) r s needed in
      record {
        within = within;
        linear = linear;
        elements = refl;
        period = period_is;
        offset = offset_is;
        balance = balance;
        long = long;
        early = early;
        form_is = refl;
        class_is = refl;
        lag_is = refl;
        some = more.0;
        bits = more.1;
        high_is = refl;
        below = below;
        room = room;
        reads = reads;
      }

  peak-of : (cells : List Cell) (group : ℕ) (r : StageRegister) (s : HeldSum) (peak : Peak) (kept : LinearPeak) → needed_of (prefix_range width (take taken whole)) r ≡ Some s → peak_for (prefix_range width (take taken whole)) group r s ≡ named_peak cells peak
      → IsKeptPeak width (take taken whole) from taken peak kept → ReadsFew (take taken whole) s.form s.class → IsPeakOf width ticks whole cells (register_of width group (stream_over whole taken period offset) r) s kept
  peak-of cells group r s peak kept needed named e reads =
      let own = register_of width group (stream_over whole taken period offset) r in
      let form : s.form ≡ weights_of peak.sum = ap (λ (p : NamedPeak). p.sum.form) named in
      let class : s.class ≡ peak.class = ap (λ (p : NamedPeak). p.sum.class) named in
      let lag : s.lag ≡ peak.lag = ap (λ (p : NamedPeak). p.sum.lag) named in
      let high : needs_high (prefix_range width (take taken whole) s.form s.class) (bits_of (prefix_range width (take taken whole)) r.sums) ≡ peak.high = ap (λ (p : NamedPeak). p.high) named in
      let below : s.class.residue < s.class.modulus = subst (λ (c : Class). c.residue < c.modulus) (sym class) e.below in
      let room : HasSumRoom width (take taken whole) s.form = subst (λ (f : List ℤ). HasSumRoom width (take taken whole) f) (sym form) e.room in
      let first = place-of group r s needed below room reads in
      let place = moved width ticks whole own s s.form (weights_of peak.sum) s.class peak.class s.lag peak.lag _ peak.high taken taken from from first form class lag high refl refl in
      let name : (cell_at cells peak.register.place).name ≡ Some own.name = sym (ap (λ (p : NamedPeak). p.name) named) in
      let here : (cell_at cells kept.peak.register.place).name ≡ Some own.name = ap (λ (n : Node). (cell_at cells n.place).name) e.same.register ∙ name in
      record {
        place = moved width ticks whole own s (weights_of peak.sum) (weights_of kept.peak.sum) peak.class kept.peak.class peak.lag kept.peak.lag peak.high kept.peak.high taken kept.taken from kept.from place (sym e.same.sum) (sym e.same.class) (sym e.same.lag) (sym e.same.high) (sym e.taken_is) (sym e.from_is);
        inside = named_inside cells kept.peak.register.place own.name here;
        named = here;
        reached = record { xs = e.xs; input = extreme-input place e.xs e.index kept.tick kept.value e.reached e.tick };
      }

  -- the peaks of a list of a stage's registers
  pub peaks-of : (cells : List Cell) (group : ℕ) (registers : List StageRegister) (given : List Peak) (own : List LinearPeak) → map (named_peak cells) given ≡ peaks_of (prefix_range width (take taken whole)) group registers
      → AreKept (IsKeptPeak width (take taken whole) from taken) given own
      → ((i : ℕ) (r : StageRegister) (s : HeldSum) → slice_get registers i ≡ Some r → needed_of (prefix_range width (take taken whole)) r ≡ Some s → ReadsFew (take taken whole) s.form s.class)
      → ArePeaksOf width ticks whole cells (map (register_of width group (stream_over whole taken period offset)) registers) own
  peaks-of cells group registers given own told kept reads = record {
    each = λ i r s there needed.
        let m = mapped (register_of width group (stream_over whole taken period offset)) registers i r there in
        let needs : needed_of (prefix_range width (take taken whole)) m.from ≡ Some s = ap (λ (q : LinearRegister). q.needed) m.is ∙ needed in
        let l = listed-each (prefix_range width (take taken whole)) group registers i m.from s m.there needs in
        let p = mapped (named_peak cells) given l.place _ (ap (λ (ps : List NamedPeak). slice_get ps l.place) told ∙ l.there) in
        let k = kept-each (IsKeptPeak width (take taken whole) from taken) given own l.place p.from kept p.there in
        record {
          place = l.place;
          kept = k.own;
          there = k.there;
          is = subst (λ (q : LinearRegister). IsPeakOf width ticks whole cells q s k.own) m.is (peak-of cells group m.from s p.from k.own needs (sym p.is) k.holds (reads i m.from s m.there needs));
        };
    only = λ j k there.
        let p = kept-only (IsKeptPeak width (take taken whole) from taken) given own j k kept there in
        let l = listed-only (prefix_range width (take taken whole)) group registers j (named_peak cells p.peak) (ap (λ (ps : List NamedPeak). slice_get ps j) (sym told) ∙ named-there cells given j p.peak p.there) in
        record {
          place = l.place;
          r = register_of width group (stream_over whole taken period offset) l.r;
          s = l.s;
          there = mapped_there (register_of width group (stream_over whole taken period offset)) registers l.place l.r l.there;
          needed = l.needed;
          is = peak-of cells group l.r l.s p.peak k l.needed l.is p.holds (reads l.place l.r l.s l.there l.needed);
        };
  }

-- ---- lists one behind another, and a longer net

front : {A : Type 0} (xs ys : List A) (i : ℕ) (a : A) → slice_get xs i ≡ Some a → slice_get (xs ++ ys) i ≡ Some a
front [] ys i a is = absurd (cc)
front (x ∷ xs) ys zero a is = is
front (x ∷ xs) ys (suc i) a is = front xs ys i a is

back : {A : Type 0} (xs ys : List A) (i : ℕ) (a : A) → slice_get ys i ≡ Some a → slice_get (xs ++ ys) (length xs + i) ≡ Some a
back [] ys i a is = subst (λ (k : ℕ). slice_get ys k ≡ Some a) (let e : i ≡ 0 + i = omega arith in e) is
back (x ∷ xs) ys i a is = subst (λ (k : ℕ). slice_get (x ∷ (xs ++ ys)) k ≡ Some a) (let e : suc (length xs + i) ≡ suc (length xs) + i = omega arith in e) (back xs ys i a is)

pub ArePeaksOf-none : (width ticks : ℕ) (whole : List Element) (cells : List Cell) → ArePeaksOf width ticks whole cells [] []
ArePeaksOf-none width ticks whole cells = record { each = λ i r s there needed. absurd (cc); only = λ j k there. absurd (cc) }

pub ArePeaksOf-append : {width ticks : ℕ} {whole : List Element} {cells : List Cell} (rs more : List LinearRegister) (ps own : List LinearPeak) → ArePeaksOf width ticks whole cells rs ps → ArePeaksOf width ticks whole cells more own
    → ArePeaksOf width ticks whole cells (rs ++ more) (ps ++ own)
ArePeaksOf-append {width} {ticks} {whole} {cells} rs more ps own a b = record {
  each = λ i r s there needed. elim (parted rs more i r there) [
    | inl before ↦ let f = a.each i r s before needed in record { place = f.place; kept = f.kept; there = front ps own f.place f.kept f.there; is = f.is }
    | inr here ↦ let f = b.each here.0 r s here.1 needed in record { place = length ps + f.place; kept = f.kept; there = back ps own f.place f.kept f.there; is = f.is }
  ];
  only = λ j k there. elim (parted ps own j k there) [
    | inl before ↦ let f = a.only j k before in record { place = f.place; r = f.r; s = f.s; there = front rs more f.place f.r f.there; needed = f.needed; is = f.is }
    | inr here ↦ let f = b.only here.0 k here.1 in record { place = length rs + f.place; r = f.r; s = f.s; there = back rs more f.place f.r f.there; needed = f.needed; is = f.is }
  ];
}

IsPeakOf-later : {width ticks : ℕ} {whole : List Element} {old new : List Cell} {r : LinearRegister} {s : HeldSum} {kept : LinearPeak} → Extends old new → IsPeakOf width ticks whole old r s kept → IsPeakOf width ticks whole new r s kept
IsPeakOf-later {width} {ticks} {whole} {old} {new} {r} {s} {kept} extends p =
    let place = kept.peak.register.place in
    let k = extends.keeps place (cell_at old place) (cell_at-there old place p.inside) in
    record {
      place = p.place;
      inside = let longer = extends.longer in let inside = p.inside in omega (arith, longer, inside);
      named = ap (λ (c : Cell). c.name) (cell_at-is new place k.cell k.there) ∙ k.name (subst (λ (o : Option Name). IsSome o) (sym p.named) refl) ∙ p.named;
      reached = p.reached;
    }

pub ArePeaksOf-later : {width ticks : ℕ} {whole : List Element} {old new : List Cell} {rs : List LinearRegister} {ps : List LinearPeak} → Extends old new → ArePeaksOf width ticks whole old rs ps → ArePeaksOf width ticks whole new rs ps
ArePeaksOf-later extends a = record {
  each = λ i r s there needed. let f = a.each i r s there needed in record { place = f.place; kept = f.kept; there = f.there; is = IsPeakOf-later extends f.is };
  only = λ j k there. let f = a.only j k there in record { place = f.place; r = f.r; s = f.s; there = f.there; needed = f.needed; is = IsPeakOf-later extends f.is };
}
