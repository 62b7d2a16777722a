-- What a group adds to the linear registers so far.
use Rattle.std.proofs.Common.{◌≡◌, ℕ, zero, suc, ◌+◌, ◌<◌, Bool, true, false, List, [], ◌∷◌, ◌++◌, length, map, take, Option, Some, slice_get, refl, sym, ◌∙◌, ap, subst, arith, inl, inr, ℤ}
use Rattle.std.specs.Prelude.{All, unwrap_or}
use Rattle.std.proofs.lemmas.Bool.{cases_lt}
use Rattle.mr_values.specs.declared.plan.Element.{Element}
use Rattle.mr_values.specs.declared.plan.Form.{Form}
use Rattle.mr_values.specs.declared.plan.Plan.{Plan}
use Rattle.mr_values.specs.Sequence.{Sequence, samples}
use Rattle.mr_values.specs.Timing.{Group, Fir, DownCic, UpCic, Rounding, Clipping, groups, wide, taps_of, form_of, Stream as Timed}
use Rattle.mr_values.specs.Value.{size, chain}
use Rattle.mr_values.specs.Width.{FitsWidth}
use Rattle.net_graph.specs.declared.cell.Cell.{Cell}
use Rattle.net_graph.specs.declared.cell.Stream.{Stream}
use Rattle.net_graph.specs.declared.name.Name.{Name}
use Rattle.net_graph.specs.declared.name.NameKind.{NameKind}
use Rattle.net_graph.specs.declared.name.NameKind.TheVariants.{Control}
use Rattle.net_graph.specs.Grow.{Extends}
use Rattle.pipeline_balance.specs.Numbered.{name_of}
use Rattle.stage_law.specs.Realises.{IsOwnName}
use Rattle.width_extreme.specs.Prefix.{IsStream}
use Rattle.net_graph.specs.Cells.{NetView}
use Rattle.net_graph.specs.Cut.{cut_all, cut_control}
use Rattle.net_graph.specs.WellFormed.{IsFree}
use Rattle.pipeline_balance.specs.Gate.{Carries}
use Rattle.plan_check.specs.declared.facts.GroupFacts.{GroupFacts}
use Rattle.plan_check.specs.Accepted.{IsAccepted}
use Rattle.plan_check.specs.Groups.{IsSplit}
use Rattle.plan_laws.proofs.Passes.{passes_of}
use Rattle.plan_check.specs.Forms.{Flow, flow_of}
use Rattle.stage_law.specs.Facts.{StageFacts}
use Rattle.stage_law.specs.Kinds.{is_linear}
use Rattle.stage_law.specs.Least.{HasRegisters}
use Rattle.stage_law.specs.Registers.{StageRegister, TellsRanges}
use Rattle.stage_law.specs.Streams.{Streams}
use Rattle.chain_build.specs.declared.groups.Added.{Added}
use Rattle.chain_build.specs.Added.{HasFacts, IsGroupAdded}
use Rattle.chain_build.specs.Built.{rounds, has_rounding, kind_of}
use Rattle.chain_build.specs.Forms.{form_kind, fir_facts}
use Rattle.chain_build.specs.Linear.{LinearRegister, PrefixStream, prefix_range, register_of, group_registers, is_linear_group, is_linear_number}
use Rattle.chain_build.specs.LinearNet.{IsListed}
use Rattle.chain_build.proofs.ExactPrefixes.{prefix-linear, prefix-tells}
use Rattle.chain_build.proofs.FormFacts.{fir-kind, unlinear-fir}
use Rattle.chain_build.proofs.Prefixes.{sizes, chain-first}
use Rattle.chain_build.proofs.RegisterLemmas.{register_on}
use Rattle.chain_build.specs.LinearOn.{IsRegisterOn}
use Rattle.chain_build.proofs.RegisterOn.{CarriesPrefix}
use Rattle.chain_build.proofs.RegistersSoFar.{stream_at, own_registers, IsLinearTaken, IsOwn, IsStep}
use Rattle.chain_build.proofs.Samples.{the_samples}
use Rattle.chain_build.proofs.SoFar.{SoFar}

-- the registers that a stage tells are those of the group
pub record TellsOwn (g : Group) (flow : Flow) (facts : StageFacts) : Type 0 where
  pub linear : is_linear facts.kind ≡ true
  pub same : (s : Timed) → flow_of s ≡ flow → facts.registers s.period ≡ group_registers g s

tells-fir : (u : Option ℕ) (f : Option (List ℤ × Form)) (d : Option ℕ) (flow : Flow) (facts : StageFacts) → is_linear (form_kind (form_of f)) ≡ true → facts ≡ fir_facts (form_of f) (taps_of f) (unwrap_or u 1) (unwrap_or d 1) (wide flow.low flow.high) → TellsOwn (Fir u f d) flow facts
tells-fir u f d flow facts linear is = record {
  linear = ap (λ (e : StageFacts). is_linear e.kind) is ∙ ap is_linear (fir-kind (form_of f) (taps_of f) (unwrap_or u 1) (unwrap_or d 1) (wide flow.low flow.high)) ∙ linear;
  same = λ s flows.
      ap (λ (e : StageFacts). e.registers s.period) is
      ∙ ap (λ (w : Flow). (fir_facts (form_of f) (taps_of f) (unwrap_or u 1) (unwrap_or d 1) (wide w.low w.high)).registers s.period) (sym flows);
}

-- a group that is not linear has no linear registers
pub unlinear : (g : Group) (s : Timed) → is_linear (kind_of g) ≡ false → group_registers g s ≡ []
unlinear (Fir u f d) s e = unlinear-fir (form_of f) (taps_of f) (unwrap_or u 1) (unwrap_or d 1) (wide s.low s.high) s.period e
unlinear (DownCic r n m) s e = refl
unlinear (UpCic r n m) s e = refl
unlinear (Rounding k m) s e = refl
unlinear (Clipping bits) s e = refl

-- an element of a mapped list
pub record IsMapped {A B : Type 0} (f : A → B) (xs : List A) (i : ℕ) (b : B) : Type 0 where
  pub from : A
  pub there : slice_get xs i ≡ Some from
  pub is : f from ≡ b

pub mapped : {A B : Type 0} (f : A → B) (xs : List A) (i : ℕ) (b : B) → slice_get (map f xs) i ≡ Some b → IsMapped f xs i b
mapped f [] i b is = absurd (cc)
mapped f (x ∷ xs) zero b is = record { from = x; there = refl; is = cc }
mapped f (x ∷ xs) (suc i) b is = let m = mapped f xs i b is in record { from = m.from; there = m.there; is = m.is }

same_where : {s t : Streams} (P : Streams → Type 0) → s ≡ t → P t → P s
same_where P is h = subst P (sym is) h

-- a group that is linear by its number is no rounding, nor is one before it
pub record IsLinearAt (front : List Group) (g : Group) : Type 0 where
  pub before : has_rounding front ≡ false
  pub plain : rounds g ≡ false
  pub linear : is_linear (kind_of g) ≡ true

linear-place : (front : List Group) (g : Group) (left : List Group) → is_linear_group (front ++ g ∷ left) (length front) ≡ true → IsLinearAt front g
linear-place [] (Fir u f d) left is = record { before = refl; plain = refl; linear = is }
linear-place [] (DownCic a b c) left is = record { before = refl; plain = refl; linear = is }
linear-place [] (UpCic a b c) left is = record { before = refl; plain = refl; linear = is }
linear-place [] (Rounding s m) left is = absurd (cc)
linear-place [] (Clipping bits) left is = absurd (cc)
linear-place (Fir u f d ∷ front) g left is = let l = linear-place front g left is in record { before = l.before; plain = l.plain; linear = l.linear }
linear-place (DownCic a b c ∷ front) g left is = let l = linear-place front g left is in record { before = l.before; plain = l.plain; linear = l.linear }
linear-place (UpCic a b c ∷ front) g left is = let l = linear-place front g left is in record { before = l.before; plain = l.plain; linear = l.linear }
linear-place (Rounding s m ∷ front) g left is = absurd (cc)
linear-place (Clipping bits ∷ front) g left is = absurd (cc)

linear-at : (es : List Element) (front : List Group) (g : Group) (left : List Group) (number : ℕ) → groups es ≡ front ++ g ∷ left → number ≡ 1 + length front → is_linear_number (groups es) number ≡ true → IsLinearAt front g
linear-at es front g left number parts count is =
    let next : number ≡ suc (length front) = omega (arith, count) in
    linear-place front g left (subst (λ (gs : List Group). is_linear_group gs (length front) ≡ true) parts (subst (λ (n : ℕ). is_linear_number (groups es) n ≡ true) next is))

-- the list of a group has what its stage's list has
pub listed-mapped : (f : StageRegister → LinearRegister) (rs : List StageRegister) (i : ℕ) (r : StageRegister) (name : Name) → slice_get rs i ≡ Some r → (f r).name ≡ name → IsListed (map f rs) name
listed-mapped f [] i r name is named = absurd (cc)
listed-mapped f (x ∷ xs) zero r name is named = record { place = 0; r = f x; there = refl; named = ap (λ (y : StageRegister). (f y).name) (let e : x ≡ r = cc in e) ∙ named }
listed-mapped f (x ∷ xs) (suc i) r name is named = let m = listed-mapped f xs i r name is named in record { place = suc m.place; r = m.r; there = m.there; named = m.named }

-- the group adds registers if it is linear
pub tells_own : (g : Group) (flow : Flow) (facts : StageFacts) → HasFacts g flow facts → is_linear (kind_of g) ≡ true → TellsOwn g flow facts
tells_own (Fir u f d) flow facts has linear = tells-fir u f d flow facts linear has
tells_own (DownCic r n m) flow facts has linear = absurd (cc)
tells_own (UpCic r n m) flow facts has linear = absurd (cc)
tells_own (Rounding s m) flow facts has linear = absurd (cc)
tells_own (Clipping bits) flow facts has linear = absurd (cc)

-- ---- the step of a linear group

module _ {plan : Plan} {old net mid new : NetView} {from last : Stream} {rest : List Element} {left : List GroupFacts} {number : ℕ} {front : List Group} {g : Group} {others : List Element} {streams : Streams} {added : Added} {flow : Flow}
    (accepted : IsAccepted plan) (split : IsSplit rest g others) (so : SoFar (size plan.width) (size plan.ticks) plan.elements old net from last rest left number front) (flow_is : flow_of so.stream ≡ flow) (mid_is : mid ≡ record { cells = net.cells; group = number })
    (adds : IsGroupAdded g flow streams mid new last added) (exact : has_rounding front ≡ false → streams ≡ IsStream (chain (take (sizes front) plan.elements)) (size plan.width)) where
  abbrev at : PrefixStream
  at = stream_at plan.elements (sizes front) so.stream

  same_cells : mid.cells ≡ net.cells
  same_cells = ap (λ (n : NetView). n.cells) mid_is

  same_group : mid.group ≡ number
  same_group = ap (λ (n : NetView). n.group) mid_is

  extends : Extends net.cells new.cells
  extends = subst (λ (cells : List Cell). Extends cells new.cells) same_cells adds.realises.grows.extends

  carries_prefix : CarriesPrefix cut_all (size plan.width) at.elements net.cells from last
  carries_prefix inputs values xs fit run carried =
      subst (λ (v : Sequence). Carries values last v) (so.done_is (samples xs) ∙ sym (chain-first plan.elements front (groups rest) (samples xs) so.parts)) (so.carries inputs values (samples xs) (the_samples xs fit) run carried)

  whole_prefix : has_rounding front ≡ false → CarriesPrefix cut_control (size plan.width) at.elements net.cells from last
  whole_prefix none inputs values xs fit run carried =
      subst (λ (v : Sequence). Carries values last v) (so.done_is (samples xs) ∙ sym (chain-first plan.elements front (groups rest) (samples xs) so.parts)) (so.whole_carries none inputs values (samples xs) (the_samples xs fit) run carried)

  module _ (tells : TellsOwn g flow adds.facts) where
    has_registers : HasRegisters adds.facts streams new.cells number last added.emitted.peaks.items
    has_registers = subst (λ (n : ℕ). HasRegisters adds.facts streams new.cells n last added.emitted.peaks.items) same_group (adds.realises.registers tells.linear)

    told_registers : adds.facts.registers last.period ≡ group_registers g so.stream
    told_registers = ap adds.facts.registers so.period ∙ tells.same so.stream flow_is

    own_on : has_rounding front ≡ false → (i : ℕ) (r : LinearRegister) → slice_get (own_registers (size plan.width) plan.elements number (sizes front) so.stream g) i ≡ Some r → IsRegisterOn (size plan.width) new.cells from r
    own_on none i r there =
        let m = mapped (register_of (size plan.width) number at) (group_registers g so.stream) i r there in
        let told : slice_get (adds.facts.registers last.period) i ≡ Some m.from = ap (λ (rs : List StageRegister). slice_get rs i) told_registers ∙ m.there in
        let linear = prefix-linear plan.elements front (groups rest) (passes_of plan accepted).limits.elements so.parts none in
        let has : (xs : List ℤ) → All (FitsWidth (size plan.width)) xs → streams (chain at.elements (samples xs)) =
        λ xs fit. same_where (λ (s : Streams). s (chain at.elements (samples xs))) (exact none) (record { xs = xs; fits = fit; is = λ n. refl }) in
        let tells_ranges : TellsRanges streams (prefix_range (size plan.width) at.elements) =
        same_where (λ (s : Streams). TellsRanges s (prefix_range (size plan.width) at.elements)) (exact none) (prefix-tells at.elements (size plan.width) linear) in
        subst (IsRegisterOn (size plan.width) new.cells from) m.is
        (register_on at so.period so.offset extends has tells_ranges carries_prefix (whole_prefix none) m.from (has_registers.each i m.from told))

    own_only : (name : Name) → name.group ≡ number → (name.kind ≡ Control → ⊥) → (IsFree new.cells name → ⊥) → IsListed (own_registers (size plan.width) plan.elements number (sizes front) so.stream g) name
    own_only name group_is other taken =
        let own_name : name_of number name.kind name.number ≡ name = ap (λ (n : ℕ). name_of n name.kind name.number) (sym group_is) in
        let l = has_registers.only name.kind name.number other (λ free. taken (subst (IsFree new.cells) own_name free)) in
        let there : slice_get (group_registers g so.stream) l.index ≡ Some l.r = ap (λ (rs : List StageRegister). slice_get rs l.index) (sym told_registers) ∙ l.there in
        listed-mapped (register_of (size plan.width) number at) (group_registers g so.stream) l.index l.r name there
        (ap (λ (k : NameKind). name_of number k l.r.number) l.is_kind ∙ ap (name_of number name.kind) l.is_number ∙ own_name)

  own_each : has_rounding front ≡ false → rounds g ≡ false → (i : ℕ) (r : LinearRegister) → slice_get (own_registers (size plan.width) plan.elements number (sizes front) so.stream g) i ≡ Some r → IsRegisterOn (size plan.width) new.cells from r
  own_each none plain i r there = by (is_linear (kind_of g)) refl
    where
      by : (b : Bool) → is_linear (kind_of g) ≡ b → IsRegisterOn (size plan.width) new.cells from r
      by true linear = own_on (tells_own g flow adds.facts adds.has_facts linear) none i r there
      by false linear =
          absurd (let e : slice_get (map (register_of (size plan.width) number at) []) i ≡ Some r = subst (λ (rs : List StageRegister). slice_get (map (register_of (size plan.width) number at) rs) i ≡ Some r) (unlinear g so.stream linear) there in cc)

  pub is_step : IsStep (size plan.width) plan.elements net.cells new.cells from front g so.stream number
  is_step = record {
    extends = extends;
    own = own_each;
    only = λ name t. elim (cases_lt name.group number) [
      | inl less ↦ inl (record { taken = λ free. t.taken (still_free name t.is_data less free); is_data = t.is_data; some = t.some; below = less; linear_group = t.linear_group })
      | inr more ↦ inr (own name t (let below = t.below in omega (arith, more)))
    ];
  }
    where
      still_free : (name : Name) → (name.kind ≡ Control → ⊥) → name.group < number → IsFree net.cells name → IsFree new.cells name
      still_free name plain less free = adds.realises.names.free name (λ touched. untouched name plain less touched) (subst (λ (cells : List Cell). IsFree cells name) (sym same_cells) free)
        where
          untouched : (name : Name) → (name.kind ≡ Control → ⊥) → name.group < number → IsOwnName mid.group name → ⊥
          untouched name plain less (inl same) = absurd (let e : name.group ≡ number = same ∙ same_group in omega (arith, e))
          untouched name plain less (inr control) = plain control

      own : (name : Name) → IsLinearTaken plan.elements new.cells (number + 1) name → name.group ≡ number → IsOwn (size plan.width) plan.elements front g so.stream number name
      own name t group_is =
          let at_g = linear-at plan.elements front g (groups others) number (so.parts ∙ ap (λ (gs : List Group). front ++ gs) split.parts) so.number_is (subst (λ (n : ℕ). is_linear_number (groups plan.elements) n ≡ true) group_is t.linear_group) in
          record {
            before = at_g.before;
            plain = at_g.plain;
            is_listed = own_only (tells_own g flow adds.facts adds.has_facts at_g.linear) name group_is t.is_data t.taken;
          }
