-- The peaks of the linear registers of the groups that were added so far.
use Rattle.std.proofs.Common.{◌≡◌, ℕ, ◌+◌, ◌-◌, ◌*◌, Bool, true, false, if◌then◌else◌, List, [], ◌∷◌, ◌++◌, append_assoc, map, take, nat_eq, slice_get, refl, sym, ◌∙◌, ap, subst, arith}
use Rattle.mr_values.specs.declared.plan.Element.{Element}
use Rattle.mr_values.specs.declared.plan.Plan.{Plan}
use Rattle.mr_values.specs.Timing.{Group, Fir, DownCic, UpCic, Rounding, Clipping, Stream as Timed, groups, input, after, after_all, last_stream}
use Rattle.mr_values.specs.Value.{size}
use Rattle.net_graph.specs.declared.cell.Cell.{Cell}
use Rattle.net_graph.specs.declared.cell.Stream.{Stream}
use Rattle.net_graph.specs.Cells.{NetView}
use Rattle.net_graph.specs.Grow.{Extends}
use Rattle.impulse_phase.specs.Reach.{extent}
use Rattle.plan_check.specs.declared.facts.GroupFacts.{GroupFacts}
use Rattle.plan_check.specs.Accepted.{IsAccepted}
use Rattle.plan_check.specs.Groups.{size_of, IsSplit}
use Rattle.plan_laws.proofs.Passes.{passes_of}
use Rattle.stage_law.specs.Kinds.{is_linear}
use Rattle.stage_law.specs.Least.{named_peak}
use Rattle.stage_law.specs.Registers.{StageRegister, TellsRanges, bits_of, peaks_of}
use Rattle.stage_law.specs.Streams.{Streams}
use Rattle.chain_build.specs.declared.extremes.LinearPeak.{LinearPeak}
use Rattle.chain_build.specs.declared.groups.Added.{Added}
use Rattle.chain_build.specs.Added.{IsGroupAdded}
use Rattle.chain_build.specs.Built.{kind_of, rounds, has_rounding}
use Rattle.chain_build.specs.Linear.{LinearRegister, linear, linear_from, prefix_range, register_of, group_registers}
use Rattle.chain_build.specs.Peaks.{AreKept, IsKeptPeak, AddsPeaks, ArePeaksOf, HasGroupPeaks, keeps}
use Rattle.chain_build.specs.Prefixes.{flow_before, streams_before, elements_before}
use Rattle.chain_build.proofs.GroupFacts.{facts-is, some-down}
use Rattle.chain_build.proofs.ExactPrefixes.{prefix-linear, prefix-tells}
use Rattle.chain_build.proofs.Pace.{pace_all, at_once, extent-pace}
use Rattle.chain_build.proofs.PeakPlaces.{peaks-of, ArePeaksOf-none, ArePeaksOf-append, ArePeaksOf-later}
use Rattle.chain_build.proofs.Prefixes.{sizes, sizes-more, sizes-within, after-more, prefixed}
use Rattle.chain_build.proofs.RegisterLemmas.{needed-member}
use Rattle.chain_build.proofs.RegistersSoFar.{coming, coming-none, linear_from-more, linear_from-none, own_registers, stream_at}
use Rattle.chain_build.proofs.Roundings.{has_rounding-more}
use Rattle.chain_build.proofs.SoFar.{SoFar, SoFar-all, SoFar-none, balanced, head_walk, flow_is, is_built_head}
use Rattle.chain_build.proofs.SoonRead.{reads-group}
use Rattle.chain_build.proofs.StepLemmas.{TellsOwn, unlinear, tells_own}
use Rattle.chain_build.proofs.Taking.{exact_streams, taken-is}

pub record PeaksSoFar (width ticks : ℕ) (whole : List Element) (cells : List Cell) (front rest : List Group) (s : Timed) (number : ℕ) (peaks : List LinearPeak) : Type 0 where
  pub listed : List LinearRegister
  pub parts : listed ++ coming (has_rounding front) width whole number (sizes front) s rest ≡ linear width ticks whole
  pub are : ArePeaksOf width ticks whole cells listed peaks

pub PeaksSoFar-start : (width ticks : ℕ) (whole : List Element) (cells : List Cell) (gs : List Group) (peaks : List LinearPeak) → gs ≡ groups whole → peaks ≡ [] → PeaksSoFar width ticks whole cells [] gs (input width ticks) 1 peaks
PeaksSoFar-start width ticks whole cells gs peaks are none =
    subst (λ (hs : List Group). PeaksSoFar width ticks whole cells [] hs (input width ticks) 1 peaks) (sym are)
    (subst (λ (ps : List LinearPeak). PeaksSoFar width ticks whole cells [] (groups whole) (input width ticks) 1 ps) (sym none)
    (record { listed = []; parts = refl; are = ArePeaksOf-none width ticks whole cells }))

-- ---- one group more

-- the registers that the group adds to the list
abbrev added_registers : Bool → ℕ → List Element → ℕ → ℕ → Timed → Group → List LinearRegister
added_registers true width whole number taken s g = []
added_registers false width whole number taken s g = own_registers width whole number taken s g

pub record IsPeakStep (width ticks : ℕ) (whole : List Element) (old new : List Cell) (front : List Group) (g : Group) (s : Timed) (number : ℕ) (before after : List LinearPeak) : Type 0 where
  pub extends : Extends old new
  pub own : List LinearPeak
  pub is : after ≡ before ++ own
  pub are : ArePeaksOf width ticks whole new (added_registers (has_rounding front) width whole number (sizes front) s g) own

module _ {width ticks : ℕ} {whole : List Element} {old new : List Cell} {front rest others : List Group} {g : Group} {s : Timed} {number : ℕ} {before after_it : List LinearPeak} (so : PeaksSoFar width ticks whole old front rest s number before)
    (split : rest ≡ g ∷ others) (step : IsPeakStep width ticks whole old new front g s number before after_it) where
  next : (b r : Bool) → has_rounding front ≡ b → rounds g ≡ r → (so.listed ++ added_registers b width whole number (sizes front) s g) ++ coming (if b then true else r) width whole (number + 1) (sizes front + size_of g) (after g s) others ≡ linear width ticks whole
  next b r b_is r_is = by b r b_is r_is (subst (λ (gs : List Group). so.listed ++ coming b width whole number (sizes front) s gs ≡ linear width ticks whole) split (subst (λ (c : Bool). so.listed ++ coming c width whole number (sizes front) s rest ≡ linear width ticks whole) b_is so.parts))
    where
      own_none : (h : Group) → rounds h ≡ true → own_registers width whole number (sizes front) s h ≡ []
      own_none (Fir u f d) is = absurd (cc)
      own_none (DownCic a b c) is = absurd (cc)
      own_none (UpCic a b c) is = absurd (cc)
      own_none (Rounding k m) is = refl
      own_none (Clipping bits) is = refl

      by : (b r : Bool) → has_rounding front ≡ b → rounds g ≡ r → so.listed ++ coming b width whole number (sizes front) s (g ∷ others) ≡ linear width ticks whole
          → (so.listed ++ added_registers b width whole number (sizes front) s g) ++ coming (if b then true else r) width whole (number + 1) (sizes front + size_of g) (after g s) others ≡ linear width ticks whole
      by true r b_is r_is parts = append_assoc so.listed [] [] ∙ parts
      by false true b_is r_is parts =
          ap (λ (rs : List LinearRegister). (so.listed ++ rs) ++ []) (own_none g r_is) ∙ append_assoc so.listed [] [] ∙ ap (λ (rs : List LinearRegister). so.listed ++ rs) (sym (linear_from-none width whole number (sizes front) s g others r_is)) ∙ parts
      by false false b_is r_is parts =
          append_assoc so.listed (own_registers width whole number (sizes front) s g) (linear_from width whole (number + 1) (sizes front + size_of g) (after g s) others)
          ∙ ap (λ (rs : List LinearRegister). so.listed ++ rs) (sym (linear_from-more width whole number (sizes front) s g others r_is)) ∙ parts

  pub PeaksSoFar-next : PeaksSoFar width ticks whole new (front ++ g ∷ []) others (after g s) (number + 1) after_it
  PeaksSoFar-next = record {
    listed = so.listed ++ added_registers (has_rounding front) width whole number (sizes front) s g;
    parts = subst (λ (c : Bool). (so.listed ++ added_registers (has_rounding front) width whole number (sizes front) s g) ++ coming c width whole (number + 1) (sizes (front ++ g ∷ [])) (after g s) others ≡ linear width ticks whole) (sym (has_rounding-more front g))
        (subst (λ (n : ℕ). (so.listed ++ added_registers (has_rounding front) width whole number (sizes front) s g) ++ coming (if has_rounding front then true else rounds g) width whole (number + 1) n (after g s) others ≡ linear width ticks whole)
        (sym (sizes-more front g)) (next (has_rounding front) (rounds g) refl refl));
    are = subst (λ (ps : List LinearPeak). ArePeaksOf width ticks whole new (so.listed ++ added_registers (has_rounding front) width whole number (sizes front) s g) ps) (sym step.is)
        (ArePeaksOf-append so.listed (added_registers (has_rounding front) width whole number (sizes front) s g) before step.own (ArePeaksOf-later step.extends so.are) step.are);
  }

-- ---- all groups

pub PeaksSoFar-end : {width ticks : ℕ} {whole : List Element} {cells : List Cell} {rest : List Group} {number : ℕ} {peaks : List LinearPeak} → PeaksSoFar width ticks whole cells (groups whole) rest (last_stream width ticks whole) number peaks → rest ≡ []
    → HasGroupPeaks width ticks whole cells peaks
PeaksSoFar-end {width} {ticks} {whole} {cells} {rest} {number} {peaks} so none = record {
  listed = so.listed;
  parts = ap (λ (rs : List LinearRegister). so.listed ++ rs) (sym (coming-none width ticks whole number (sizes (groups whole)) (has_rounding (groups whole)) refl))
      ∙ ap (λ (gs : List Group). so.listed ++ coming (has_rounding (groups whole)) width whole number (sizes (groups whole)) (last_stream width ticks whole) gs) (sym none) ∙ so.parts;
  are = so.are;
}

-- ---- the step of a group

module _ {plan : Plan} {old net mid new : NetView} {from last : Stream} {rest : List Element} {fact : GroupFacts} {left : List GroupFacts} {number : ℕ} {front : List Group} {g : Group} {others : List Element} {added : Added} {before after_it : List LinearPeak}
    (accepted : IsAccepted plan) (so : SoFar (size plan.width) (size plan.ticks) plan.elements old net from last rest (fact ∷ left) number front) (split : IsSplit rest g others) (rounded : Bool) (rounded_is : rounded ≡ has_rounding front)
    (mid_is : mid ≡ record { cells = net.cells; group = number }) (adds : IsGroupAdded g (flow_before last.period fact) (streams_before rounded (size plan.width) (elements_before plan fact) fact.span_lo fact.span_hi) mid new last added)
    (peaks : AddsPeaks (keeps rounded g) (size plan.width) (elements_before plan fact) last (fact.first - 1) added.emitted.peaks.items before after_it) where
  abbrev W : ℕ
  W = size plan.width

  abbrev at_front : List Element
  at_front = take (sizes front) plan.elements

  extends : Extends net.cells new.cells
  extends = subst (λ (cells : List Cell). Extends cells new.cells) (ap (λ (n : NetView). n.cells) mid_is) adds.realises.grows.extends

  -- of what is no linear group before any rounding nothing is kept, and it has no register in the list
  unkept : keeps rounded g ≡ false → added_registers (has_rounding front) W plan.elements number (sizes front) so.stream g ≡ [] → ArePeaksOf W (size plan.ticks) plan.elements new.cells (added_registers (has_rounding front) W plan.elements number (sizes front) so.stream g) peaks.own
  unkept none empty =
      subst (λ (rs : List LinearRegister). ArePeaksOf W (size plan.ticks) plan.elements new.cells rs peaks.own) (sym empty)
      (subst (λ (ps : List LinearPeak). ArePeaksOf W (size plan.ticks) plan.elements new.cells [] ps) (sym (peaks.none none)) (ArePeaksOf-none W (size plan.ticks) plan.elements new.cells))

  keeps_is : has_rounding front ≡ false → keeps rounded g ≡ is_linear (kind_of g)
  keeps_is none = ap (λ (b : Bool). keeps b g) (rounded_is ∙ none)

  kept : has_rounding front ≡ false → is_linear (kind_of g) ≡ true → ArePeaksOf W (size plan.ticks) plan.elements new.cells (own_registers W plan.elements number (sizes front) so.stream g) peaks.own
  kept none linear =
      let tells : TellsOwn g (flow_before last.period fact) adds.facts = tells_own g (flow_before last.period fact) adds.facts adds.has_facts linear in
      let exact = exact_streams accepted so split rounded rounded_is none in
      let own_linear = prefix-linear plan.elements front (groups rest) (passes_of plan accepted).limits.elements so.parts none in
      let ranges : TellsRanges (streams_before rounded W (elements_before plan fact) fact.span_lo fact.span_hi) (prefix_range W at_front) =
      subst (λ (s : Streams). TellsRanges s (prefix_range W at_front)) (sym exact) (prefix-tells at_front W own_linear) in
      let registers = adds.realises.registers tells.linear in
      let list : adds.facts.registers last.period ≡ group_registers g so.stream = ap adds.facts.registers so.period ∙ tells.same so.stream (flow_is so split) in
      let told : map (named_peak new.cells) added.emitted.peaks.items ≡ peaks_of (prefix_range W at_front) number (group_registers g so.stream) =
      registers.told (prefix_range W at_front) ranges ∙ ap (λ (n : ℕ). peaks_of (prefix_range W at_front) n (adds.facts.registers last.period)) (ap (λ (n : NetView). n.group) mid_is) ∙ ap (peaks_of (prefix_range W at_front) number) list in
      let taken = taken-is accepted so split in
      let each : AreKept (IsKeptPeak W at_front last (sizes front)) added.emitted.peaks.items peaks.own =
      subst (λ (n : ℕ). AreKept (IsKeptPeak W (take n plan.elements) last n) added.emitted.peaks.items peaks.own) taken (peaks.each (keeps_is none ∙ linear)) in
      let walk = head_walk so split in
      let long = walk.long in
      let early = walk.early in
      let period = so.period in
      let offset = so.offset in
      let pace : last.period * (extent at_front).up ≡ size plan.ticks * (extent at_front).down =
      balanced (size plan.ticks) last.period front (extent at_front) so.period so.balance (extent-pace at_front ∙ ap (λ (gs : List Group). pace_all gs at_once) (prefixed plan.elements front (groups rest) so.parts)) in
      peaks-of W (size plan.ticks) plan.elements (sizes front) so.stream.period so.stream.offset last (sizes-within plan.elements front (groups rest) so.parts) own_linear (sym so.period) (sym so.offset) pace (omega (arith, long, period)) (omega (arith, early, offset)) new.cells number (group_registers g so.stream) added.emitted.peaks.items peaks.own told each
      (λ i r s there needed.
      let m = needed-member (prefix_range W at_front) r.sums s (nat_eq (bits_of (prefix_range W at_front) r.sums) 1) needed in
      let timely = registers.timely i m.place r s (ap (λ (rs : List StageRegister). slice_get rs i) list ∙ there) m.there in
      let own = facts-is g (flow_before last.period fact) adds.facts (is_built_head so split) adds.fits adds.has_facts in
      let some = some-down g adds.facts own split.within in
      reads-group plan at_front front accepted none own_linear (prefixed plan.elements front (groups rest) so.parts) g (groups others) (so.parts ∙ ap (λ (gs : List Group). front ++ gs) split.parts) (flow_before last.period fact) adds.facts (is_built_head so split) adds.fits adds.has_facts own.up own.down some linear last.period s timely)

  own_are : (rounds_before linear : Bool) → has_rounding front ≡ rounds_before → is_linear (kind_of g) ≡ linear
      → ArePeaksOf W (size plan.ticks) plan.elements new.cells (added_registers (has_rounding front) W plan.elements number (sizes front) so.stream g) peaks.own
  own_are true linear is own = unkept (ap (λ (b : Bool). keeps b g) (rounded_is ∙ is)) (ap (λ (b : Bool). added_registers b W plan.elements number (sizes front) so.stream g) is)
  own_are false true is own =
      subst (λ (b : Bool). ArePeaksOf W (size plan.ticks) plan.elements new.cells (added_registers b W plan.elements number (sizes front) so.stream g) peaks.own) (sym is) (kept is own)
  own_are false false is own =
      unkept (keeps_is is ∙ own)
      (ap (λ (b : Bool). added_registers b W plan.elements number (sizes front) so.stream g) is
      ∙ ap (λ (rs : List StageRegister). map (register_of W number (stream_at plan.elements (sizes front) so.stream)) rs) (unlinear g so.stream own))

  peak_step : IsPeakStep W (size plan.ticks) plan.elements net.cells new.cells front g so.stream number before after_it
  peak_step = record { extends = extends; own = peaks.own; is = peaks.is; are = own_are (has_rounding front) (is_linear (kind_of g)) refl refl }

  pub peaks_next : PeaksSoFar W (size plan.ticks) plan.elements net.cells front (groups rest) (after_all front (input W (size plan.ticks))) number before
      → PeaksSoFar W (size plan.ticks) plan.elements new.cells (front ++ g ∷ []) (groups others) (after_all (front ++ g ∷ []) (input W (size plan.ticks))) (number + 1) after_it
  peaks_next was =
      let start = input W (size plan.ticks) in
      let here : IsPeakStep W (size plan.ticks) plan.elements net.cells new.cells front g (after_all front start) number before after_it =
      subst (λ (s : Timed). IsPeakStep W (size plan.ticks) plan.elements net.cells new.cells front g s number before after_it) so.stream_is peak_step in
      subst (λ (s : Timed). PeaksSoFar W (size plan.ticks) plan.elements new.cells (front ++ g ∷ []) (groups others) s (number + 1) after_it) (sym (after-more front g start))
      (PeaksSoFar-next was split.parts here)

pub peaks_end : {width ticks : ℕ} {whole : List Element} {old net : NetView} {from last : Stream} {rest : List Element} {number : ℕ} {front : List Group} {peaks : List LinearPeak} → SoFar width ticks whole old net from last rest [] number front
    → PeaksSoFar width ticks whole net.cells front (groups rest) (after_all front (input width ticks)) number peaks → HasGroupPeaks width ticks whole net.cells peaks
peaks_end {width} {ticks} {whole} {old} {net} {from} {last} {rest} {number} {front} {peaks} so was =
    PeaksSoFar-end (subst (λ (gs : List Group). PeaksSoFar width ticks whole net.cells gs (groups rest) (after_all gs (input width ticks)) number peaks) (sym (SoFar-all so)) was) (SoFar-none so)
