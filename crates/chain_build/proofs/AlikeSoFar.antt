-- The registers of cascades while a net grows.
use Rattle.std.proofs.Common.{◌≡◌, ℕ, suc, ◌+◌, ◌<◌, ◌≤◌, Bool, true, false, if◌then◌else◌, List, [], ◌∷◌, ◌++◌, length, take, refl, sym, ◌∙◌, ap, subst, arith, inl, inr, ℤ}
use Rattle.mr_values.specs.declared.plan.Element.{Element}
use Rattle.mr_values.specs.declared.plan.Plan.{Plan}
use Rattle.mr_values.specs.Sequence.{Sequence, cic_down, cic_up}
use Rattle.mr_values.specs.Timing.{Group, Fir, DownCic, UpCic, Rounding, Clipping, Stream as Timed, groups, input, after, after_all}
use Rattle.mr_values.specs.Value.{size, chain}
use Rattle.net_graph.specs.declared.cell.Cell.{Cell}
use Rattle.net_graph.specs.declared.cell.Stream.{Stream}
use Rattle.net_graph.specs.declared.name.Name.{Name}
use Rattle.net_graph.specs.declared.name.NameKind.TheVariants.{Control}
use Rattle.net_graph.specs.Cells.{NetView}
use Rattle.net_graph.specs.Grow.{Extends}
use Rattle.net_graph.specs.WellFormed.{IsFree}
use Rattle.pipeline_balance.specs.Numbered.{name_of}
use Rattle.plan_check.specs.declared.facts.GroupFacts.{GroupFacts}
use Rattle.plan_check.specs.Accepted.{IsAccepted}
use Rattle.plan_check.specs.Groups.{size_of, IsSplit}
use Rattle.cic_chain.specs.Facts.{cascade_registers}
use Rattle.stage_law.specs.Alike.{HasAlike}
use Rattle.stage_law.specs.Facts.{StageFacts}
use Rattle.stage_law.specs.Kinds.{has_one_width}
use Rattle.stage_law.specs.Streams.{Streams}
use Rattle.stage_law.proofs.AlikeLemmas.{HasAlike-later}
use Rattle.chain_build.specs.declared.groups.Added.{Added}
use Rattle.chain_build.specs.declared.output.Outputs.{Outputs}
use Rattle.plan_check.specs.Forms.{Flow}
use Rattle.chain_build.specs.Added.{HasFacts, IsGroupAdded}
use Rattle.chain_build.specs.Alike.{OfCascade, HoldsOfCascade, HoldsOfCascades, HasCascades, in_net}
use Rattle.chain_build.specs.Built.{rounds, has_rounding}
use Rattle.chain_build.specs.Output.{AddsOutputs}
use Rattle.chain_build.specs.Prefixes.{flow_before, streams_before, elements_before}
use Rattle.chain_build.proofs.Prefixes.{sizes}
use Rattle.chain_build.proofs.SoFar.{SoFar, SoFar-all, span_low, span_high}
use Rattle.chain_build.proofs.Taking.{taken-is}

-- ---- what holds of cascades

-- one thing follows from another, for a group of this number
pub record Follows (number : ℕ) (first second : OfCascade) : Type 1 where
  pub each : (streams : Streams) (made : Sequence → Sequence) (count : ℕ) → first streams made number count → second streams made number count

one_follows : (first second : OfCascade) (streams : Streams) (g : Group) (number : ℕ) → Follows number first second → HoldsOfCascade first streams g number → HoldsOfCascade second streams g number
one_follows first second streams (Fir up filter down) number f has = tt
one_follows first second streams (DownCic factor stages delay) number f has = f.each streams (cic_down factor stages delay) (cascade_registers stages delay) has
one_follows first second streams (UpCic factor stages delay) number f has = f.each streams (cic_up factor stages delay) (cascade_registers stages delay) has
one_follows first second streams (Rounding shift mode) number f has = tt
one_follows first second streams (Clipping bits) number f has = tt

pub cascades_follow : (first second : OfCascade) (width : ℕ) (whole : List Element) (number taken : ℕ) (rounded : Bool) (s : Timed) (gs : List Group) → ((k : ℕ) → number ≤ k → k < number + length gs → Follows k first second)
    → HoldsOfCascades first width whole number taken rounded s gs → HoldsOfCascades second width whole number taken rounded s gs
cascades_follow first second width whole number taken rounded s [] f have = tt
cascades_follow first second width whole number taken rounded s (g ∷ gs) f have = (
  one_follows first second (streams_before rounded width (take taken whole) s.low s.high) g number (f number (omega arith) (omega arith)) have.0,
  cascades_follow first second width whole (number + 1) (taken + size_of g) (if rounded then true else rounds g) (after g s) gs (λ k low high. f k (omega (arith, low)) (omega (arith, high))) have.1,
)

-- the groups so far and one more
cascades_with : (has : OfCascade) (width : ℕ) (whole : List Element) (number taken : ℕ) (rounded : Bool) (s : Timed) (gs : List Group) (g : Group) → HoldsOfCascades has width whole number taken rounded s gs
    → HoldsOfCascade has (streams_before (if rounded then true else has_rounding gs) width (take (taken + sizes gs) whole) (after_all gs s).low (after_all gs s).high) g (number + length gs) → HoldsOfCascades has width whole number taken rounded s (gs ++ g ∷ [])
cascades_with has width whole number taken rounded s [] g have own = (
  subst (λ (n : ℕ). HoldsOfCascade has (streams_before rounded width (take taken whole) s.low s.high) g n) (let e : number + 0 ≡ number = omega arith in e)
      (subst (λ (n : ℕ). HoldsOfCascade has (streams_before rounded width (take n whole) s.low s.high) g (number + 0)) (let e : taken + 0 ≡ taken = omega arith in e)
      (subst (λ (b : Bool). HoldsOfCascade has (streams_before b width (take (taken + 0) whole) s.low s.high) g (number + 0)) (same rounded) own)),
  tt,
)
  where
    same : (b : Bool) → (if b then true else false) ≡ b
    same true = refl
    same false = refl
cascades_with has width whole number taken rounded s (h ∷ gs) g have own = (
  have.0,
  cascades_with has width whole (number + 1) (taken + size_of h) (if rounded then true else rounds h) (after h s) gs g have.1
      (subst (λ (n : ℕ). HoldsOfCascade has (streams_before (if (if rounded then true else rounds h) then true else has_rounding gs) width (take (taken + size_of h + sizes gs) whole) (after_all gs (after h s)).low (after_all gs (after h s)).high) g n)
      (let e : number + suc (length gs) ≡ number + 1 + length gs = omega arith in e)
      (subst (λ (n : ℕ). HoldsOfCascade has (streams_before (if (if rounded then true else rounds h) then true else has_rounding gs) width (take n whole) (after_all gs (after h s)).low (after_all gs (after h s)).high) g (number + suc (length gs)))
      (let e : taken + (size_of h + sizes gs) ≡ taken + size_of h + sizes gs = omega arith in e)
      (subst (λ (b : Bool). HoldsOfCascade has (streams_before b width (take (taken + (size_of h + sizes gs)) whole) (after_all gs (after h s)).low (after_all gs (after h s)).high) g (number + suc (length gs))) (either rounded (rounds h)) own))),
)
  where
    either : (a b : Bool) → (if a then true else (if b then true else has_rounding gs)) ≡ (if (if a then true else b) then true else has_rounding gs)
    either true b = refl
    either false b = refl

-- ---- a longer net

-- names of this group that were free are free, but for control
pub record LeavesGroup (group : ℕ) (old new : List Cell) : Type 0 where
  pub free : (name : Name) → (name.kind ≡ Control → ⊥) → name.group ≡ group → IsFree old name → IsFree new name

net_follows : {old new : List Cell} (number : ℕ) → Extends old new → LeavesGroup number old new → Follows number (in_net old) (in_net new)
net_follows number e leaves = record { each = λ streams made count has. HasAlike-later e (λ kind n data_kind free. leaves.free (name_of number kind n) data_kind refl free) has }

-- ---- the step of a group

-- what a stage of one width has
cascade_of : (streams : Streams) (g : Group) (flow : Flow) (facts : StageFacts) (number : ℕ) (cells : List Cell) → HasFacts g flow facts → (has_one_width facts.kind ≡ true → HasAlike streams (chain facts.elements) cells number facts.alike) → HoldsOfCascade (in_net cells) streams g number
cascade_of streams (Fir up filter down) flow facts number cells has alike = tt
cascade_of streams (DownCic factor stages delay) flow facts number cells has alike =
    subst (λ (f : StageFacts). (has_one_width f.kind ≡ true → HasAlike streams (chain f.elements) cells number f.alike)) has alike refl
cascade_of streams (UpCic factor stages delay) flow facts number cells has alike =
    subst (λ (f : StageFacts). (has_one_width f.kind ≡ true → HasAlike streams (chain f.elements) cells number f.alike)) has alike refl
cascade_of streams (Rounding shift mode) flow facts number cells has alike = tt
cascade_of streams (Clipping bits) flow facts number cells has alike = tt

module _ {plan : Plan} {old net mid new : NetView} {from last : Stream} {rest : List Element} {fact : GroupFacts} {left : List GroupFacts} {number : ℕ} {front : List Group} {g : Group} {others : List Element} {added : Added}
    (accepted : IsAccepted plan) (so : SoFar (size plan.width) (size plan.ticks) plan.elements old net from last rest (fact ∷ left) number front) (split : IsSplit rest g others) (rounded : Bool) (rounded_is : rounded ≡ has_rounding front)
    (mid_is : mid ≡ record { cells = net.cells; group = number }) (adds : IsGroupAdded g (flow_before last.period fact) (streams_before rounded (size plan.width) (elements_before plan fact) fact.span_lo fact.span_hi) mid new last added) where
  abbrev W : ℕ
  W = size plan.width

  abbrev here : Timed
  here = after_all front (input W (size plan.ticks))

  same_group : mid.group ≡ number
  same_group = ap (λ (n : NetView). n.group) mid_is

  extends : Extends net.cells new.cells
  extends = subst (λ (cells : List Cell). Extends cells new.cells) (ap (λ (n : NetView). n.cells) mid_is) adds.realises.grows.extends

  streams_is : streams_before rounded W (elements_before plan fact) fact.span_lo fact.span_hi ≡ streams_before (has_rounding front) W (take (sizes front) plan.elements) here.low here.high
  streams_is =
      ap (λ (b : Bool). streams_before b W (elements_before plan fact) fact.span_lo fact.span_hi) rounded_is
      ∙ ap (λ (n : ℕ). streams_before (has_rounding front) W (take n plan.elements) fact.span_lo fact.span_hi) (taken-is accepted so split)
      ∙ ap (λ (z : ℤ). streams_before (has_rounding front) W (take (sizes front) plan.elements) z fact.span_hi) (span_low so split ∙ ap (λ (s : Timed). s.low) so.stream_is)
      ∙ ap (streams_before (has_rounding front) W (take (sizes front) plan.elements) here.low) (span_high so split ∙ ap (λ (s : Timed). s.high) so.stream_is)

  own : HoldsOfCascade (in_net new.cells) (streams_before (has_rounding front) W (take (sizes front) plan.elements) here.low here.high) g (1 + length front)
  own =
      subst (λ (n : ℕ). HoldsOfCascade (in_net new.cells) (streams_before (has_rounding front) W (take (sizes front) plan.elements) here.low here.high) g n) (same_group ∙ so.number_is)
      (subst (λ (streams : Streams). HoldsOfCascade (in_net new.cells) streams g mid.group) streams_is
      (cascade_of (streams_before rounded W (elements_before plan fact) fact.span_lo fact.span_hi) g (flow_before last.period fact) adds.facts mid.group new.cells adds.has_facts adds.realises.alike))

  -- the group takes no name of another
  others_free : (k : ℕ) → k < 1 + length front → LeavesGroup k net.cells new.cells
  others_free k less = record {
    free = λ name data_kind of_group before.
        adds.realises.names.free name
        (λ touched. elim touched [ inl of_mid ↦ (let count = so.number_is in omega (arith, of_mid, same_group, of_group, count, less)) | inr control ↦ data_kind control ])
        (subst (λ (cells : List Cell). IsFree cells name) (sym (ap (λ (n : NetView). n.cells) mid_is)) before);
  }

  pub cascades_next : HoldsOfCascades (in_net net.cells) W plan.elements 1 0 false (input W (size plan.ticks)) front → HoldsOfCascades (in_net new.cells) W plan.elements 1 0 false (input W (size plan.ticks)) (front ++ g ∷ [])
  cascades_next was =
      cascades_with (in_net new.cells) W plan.elements 1 0 false (input W (size plan.ticks)) front g
      (cascades_follow (in_net net.cells) (in_net new.cells) W plan.elements 1 0 false (input W (size plan.ticks)) front (λ k low high. net_follows k extends (others_free k high)) was)
      (subst (λ (n : ℕ). HoldsOfCascade (in_net new.cells) (streams_before (has_rounding front) W (take n plan.elements) here.low here.high) g (1 + length front)) (let e : sizes front ≡ 0 + sizes front = omega arith in e) own)

-- ---- all groups

pub cascades_end : {width ticks : ℕ} {whole : List Element} {old net : NetView} {from last : Stream} {rest : List Element} {number : ℕ} {front : List Group} → SoFar width ticks whole old net from last rest [] number front
    → HoldsOfCascades (in_net net.cells) width whole 1 0 false (input width ticks) front → HasCascades width ticks whole net.cells
cascades_end {width} {ticks} {whole} {old} {net} so have = subst (λ (gs : List Group). HoldsOfCascades (in_net net.cells) width whole 1 0 false (input width ticks) gs) (sym (SoFar-all so)) have

-- the outputs take no name of a group
pub cascades_outputs : (width ticks : ℕ) (whole : List Element) {low high : ℤ} {old new : NetView} {from : Stream} {outputs : Outputs} → AddsOutputs low high old new from outputs → HasCascades width ticks whole old.cells → HasCascades width ticks whole new.cells
cascades_outputs width ticks whole {old = old} {new = new} outs have =
    cascades_follow (in_net old.cells) (in_net new.cells) width whole 1 0 false (input width ticks) (groups whole) (λ k low high. net_follows k outs.grown.extends (record {
      free = λ name data_kind of_group before. outs.names.free name (λ touched. elim touched [ inl none ↦ (omega (arith, none, of_group, low)) | inr control ↦ data_kind control ]) before;
    })) have
