-- Cascades realise their elements.
use Rattle.std.proofs.Common.{◌≡◌, ℕ, ◌+◌, ◌-◌, ◌*◌, ◌/◌, ◌%◌, ◌^◌, ◌<◌, ◌≤◌, List, length, refl, sym, ◌∙◌, ap, arith, inl, inr, subst, false, ℤ, pos, negsuc, ◌+ℤ◌, ◌*ℤ◌, ◌≤ℤ◌}
use Rattle.std.proofs.Math.Path.{fun_ext}
use Rattle.std.proofs.lemmas.Int.{ints}
use Rattle.std.proofs.Math.Nat.{mul-mod_left, mul-le-mul_left, mul-div_cancel}
use Rattle.mr_values.specs.Sequence.{Sequence, filter, filter_times, ones, up, phase, cic_down, cic_up}
use Rattle.mr_values.proofs.Polyphase.{filter-up}
use native.Mathlib.Nat.{mod-lt, div-add-mod'}
use Rattle.mr_values.specs.Value.{chain}
use Rattle.mr_values.specs.Width.{FitsWidth, IsLeastWidth, wrap}
use Rattle.net_graph.specs.declared.cell.Stream.{Stream}
use Rattle.net_graph.specs.declared.name.Name.{Name}
use Rattle.net_graph.specs.declared.name.NameKind.TheVariants.{Register}
use Rattle.net_graph.specs.Cells.{NetView}
use Rattle.net_graph.specs.Cut.{cut_all, cut_control}
use Rattle.net_graph.specs.Run.{Values}
use Rattle.net_graph.proofs.CutLemmas.{IsCut-all, IsCut-control}
use Rattle.net_graph.proofs.DepthLemmas.{IsShallow-none, IsPlain-untouched}
use Rattle.pipeline_balance.specs.Gate.{Carries}
use Rattle.pipeline_balance.specs.Numbered.{IsTouched}
use Rattle.stage_law.specs.Alike.{HasAlike}
use Rattle.stage_law.specs.Facts.{StageFacts}
use Rattle.stage_law.specs.Range.{IsRange}
use Rattle.stage_law.specs.Realises.{Realises, CarriesThrough, IsOwnName}
use Rattle.stage_law.specs.Streams.{Streams, AreWithin, AreCausal, HasRoom, magnitudes}
use Rattle.stage_law.specs.declared.ranges.Range.{Range}
use Rattle.stage_law.specs.Kinds.{is_linear}
use Rattle.stage_law.specs.declared.stage.Emitted.{Emitted}
use Rattle.cic_chain.specs.Cascade.{whole, decimator, interpolator}
use Rattle.cic_chain.specs.Facts.{cascade_registers, cic_down_facts, cic_up_facts}
use Rattle.cic_chain.specs.Pieces.{IsPiece, AddsDecimator, AddsInterpolator, sampled}
use Rattle.cic_chain.specs.Phases.{IsPhaseRange}
use Rattle.running_sums.specs.Weights.{cic_weights}
use Rattle.cic_chain.proofs.WeightLemmas.{filter-sums, magnitudes-sums}
use Rattle.cic_chain.proofs.WholeLemmas.{whole_down}
use Rattle.cic_chain.proofs.UpLemmas.{whole_up, wrapped_up}
use Rattle.cic_chain.proofs.WrapLemmas.{wrapped_down}

-- a stream carries what its values are as a sequence
pub carried_is : (streams : Streams) → AreCausal streams → (values : Values) (from : Stream) (v : Sequence) → streams v → Carries values from v → sampled values from ≡ v
carried_is streams causal values from v is carried = fun_ext at
  where
    at : (n : ℤ) → sampled values from n ≡ v n
    at (pos k) = carried k
    at (negsuc n) = sym (causal.each v is n)

pub fits_between : (w : ℕ) (lo v hi : ℤ) → FitsWidth w lo → FitsWidth w hi → lo ≤ℤ v → v ≤ℤ hi → FitsWidth w v
fits_between w lo v hi p q a b = record { low = omega (arith, ints, p.low, a); high = omega (arith, ints, q.high, b) }

own_register : (group : ℕ) (name : Name) → IsTouched group Register name → IsOwnName group name
own_register group name (inl h) = inl h.0
own_register group name (inr h) = inr h

-- what a piece of registers says of any stage
pub Realises-piece : {old new : NetView} {from to : Stream} {width registers adders : ℕ} (streams : Streams) (facts : StageFacts) (emitted : Emitted) → emitted.stream ≡ to → is_linear facts.kind ≡ false → 1 ≤ old.group → from.node.place < length old.cells
    → IsPiece old new from.node to.node width registers adders → adders ≡ facts.adders → facts.windows ≡ 0 → facts.tables ≡ 0 → to.period * facts.up ≡ from.period * facts.down → to.offset ≡ from.offset + facts.delay from.period
    → CarriesThrough cut_all streams facts.elements new.cells from to → CarriesThrough cut_control streams facts.elements new.cells from to → HasAlike streams (chain facts.elements) new.cells old.group facts.alike → Realises facts streams old new from emitted
Realises-piece {old} {new} {from} {to} streams facts emitted is not_linear data_group inside p adders windows tables period offset carries uncut alike = record {
  grows = p.grows;
  within = rw is p.within;
  period = rw is period;
  offset = rw is offset;
  carries = subst (λ (s : Stream). CarriesThrough cut_all streams facts.elements new.cells from s) (sym is) carries;
  whole = λ yes. subst (λ (s : Stream). CarriesThrough cut_control streams facts.elements new.cells from s) (sym is) uncut;
  adders = let a = p.adds in omega (arith, a, adders);
  windows = let n = p.named.windows old.group in omega (arith, n, windows);
  tables = let n = p.named.tables old.group in omega (arith, n, tables);
  own_tables = λ some. absurd (omega (arith, some, tables));
  names = record { free = λ name other f. p.names.free name (λ h. other (own_register old.group name h)) f };
  shallow = λ bound none. p.shallow (IsShallow-none old.cells old.group bound none) (IsPlain-untouched old.cells old.group from.node.place none inside);
  shapes = λ kind. p.linear.each old.group data_group;
  alike = λ kind. alike;
  registers = λ linear. absurd (cc);
}

-- there is room for every sum of the element
pub room_for : (streams : Streams) (stages m : ℕ) (form : List ℤ) → HasRoom streams (m ^ stages) → magnitudes form ≤ magnitudes (cic_weights stages m) → (most : ℕ) × AreWithin streams most × (most * magnitudes form ≤ 2 ^ 126)
room_for streams stages m form h few =
    let all : h.most * magnitudes form ≤ h.most * magnitudes (cic_weights stages m) = mul-le-mul_left h.most few in
    let after = h.after in
    let gain : h.most * magnitudes (cic_weights stages m) ≤ h.most * m ^ stages = mul-le-mul_left h.most (magnitudes-sums stages m) in
    (h.most, h.within, omega (arith, all, gain, after))

-- ---- the decimator

every_factor : (factor n : ℕ) → (n * factor) % factor ≡ 0
every_factor factor n = mul-mod_left n factor

module _ (streams : Streams) (factor stages delay : ℕ) where
  pub down_value : (v : Sequence) (n : ℕ) → cic_down factor stages delay v (pos n) ≡ filter (cic_weights stages (factor * delay)) v (pos (n * factor))
  down_value v n = let index : pos n *ℤ pos factor ≡ pos (n * factor) = omega (arith, ints) in ap (filter_times stages (ones (factor * delay)) v) index ∙ sym (filter-sums stages (factor * delay) v (pos (n * factor)))

  pub down_fits : (range : Range) (width : ℕ) → IsRange streams (cic_weights stages (factor * delay)) (record { modulus = factor; residue = 0 }) range → IsLeastWidth range.lo range.hi width
      → (v : Sequence) → streams v → (n : ℕ) → FitsWidth width (cic_down factor stages delay v (pos n))
  down_fits range width r w v is n =
      subst (FitsWidth width) (sym (down_value v n))
      (fits_between width range.lo (filter (cic_weights stages (factor * delay)) v (pos (n * factor))) range.hi w.holds_low w.holds_high (r.low v is (n * factor) (every_factor factor n)) (r.high v is (n * factor) (every_factor factor n)))

  pub Realises-down : {old new : NetView} {from to : Stream} {width : ℕ} {range : Range} (emitted : Emitted) → emitted.stream ≡ to → AreCausal streams → 1 ≤ stages → 1 ≤ old.group → from.node.place < length old.cells
      → IsRange streams (cic_weights stages (factor * delay)) (record { modulus = factor; residue = 0 }) range → IsLeastWidth range.lo range.hi width
      → AddsDecimator old new from width factor stages delay to → HasAlike streams (cic_down factor stages delay) new.cells old.group (cascade_registers stages delay) → Realises (cic_down_facts factor stages delay) streams old new from emitted
  Realises-down {old} {new} {from} {to} {width} {range} emitted is causal some data_group inside r w d alike =
      Realises-piece streams (cic_down_facts factor stages delay) emitted is refl data_group inside d.piece (omega arith) refl refl (let p = d.period in omega (arith, p)) d.offset
      (λ inputs values v in_streams run carried n.
      d.decimates cut_all IsCut-all inputs values run (pos n)
      ∙ ap (λ (x : Sequence). decimator (wrap width) factor stages delay x (pos n)) (carried_is streams causal values from v in_streams carried)
      ∙ wrapped_down width factor stages delay v w.positive some (causal.each v in_streams) (pos n) (down_fits range width r w v in_streams n))
      (λ inputs values v in_streams run carried n.
      d.decimates cut_control IsCut-control inputs values run (pos n)
      ∙ ap (λ (x : Sequence). decimator whole factor stages delay x (pos n)) (carried_is streams causal values from v in_streams carried)
      ∙ whole_down factor stages delay v (causal.each v in_streams) (pos n))
      alike

-- ---- the interpolator

in_every : (k : ℕ) → k % 1 ≡ 0
in_every k = omega arith

module _ (streams : Streams) (factor stages delay : ℕ) where
  up_value : (v : Sequence) (m : ℕ) → 1 ≤ factor → cic_up factor stages delay v (pos m) ≡ filter (phase factor (m % factor) (cic_weights stages (factor * delay))) v (pos (m / factor))
  up_value v m some =
      let w : List ℤ = cic_weights stages (factor * delay) in
      let split : pos m ≡ pos (m / factor) *ℤ pos factor +ℤ pos (m % factor) = omega (arith, ints, div-add-mod' m factor) in
      sym (filter-sums stages (factor * delay) (up factor v) (pos m)) ∙ ap (filter w (up factor v)) split ∙ filter-up w factor v (pos (m / factor)) (m % factor) (mod-lt m some)

  pub up_fits : (range : Range) (width : ℕ) → 1 ≤ factor → IsPhaseRange streams (cic_weights stages (factor * delay)) factor factor range → IsLeastWidth range.lo range.hi width
      → (v : Sequence) → streams v → (m : ℕ) → FitsWidth width (cic_up factor stages delay v (pos m))
  up_fits range width some r w v is m =
      let k : ℕ = m / factor in
      let value : ℤ = filter (phase factor (m % factor) (cic_weights stages (factor * delay))) v (pos k) in
      let own = r.each (m % factor) (mod-lt m some) in
      let own_low = own.1.is_range.low v is k (in_every k) in
      let own_high = own.1.is_range.high v is k (in_every k) in
      let low : range.lo ≤ℤ value = let l = own.2 in omega (arith, ints, own_low, l) in
      let high : value ≤ℤ range.hi = let h = own.3 in omega (arith, ints, own_high, h) in
      subst (FitsWidth width) (sym (up_value v m some)) (fits_between width range.lo value range.hi w.holds_low w.holds_high low high)

  -- the period of the faster stream
  fast_is : (q period : ℕ) → 1 ≤ factor → q * factor ≡ period → q ≡ period / factor
  fast_is q period some e = sym (ap (λ (n : ℕ). n / factor) (sym e) ∙ mul-div_cancel q some)

  pub Realises-up : {old new : NetView} {from to : Stream} {width : ℕ} {range : Range} (emitted : Emitted) → emitted.stream ≡ to → AreCausal streams → 1 ≤ stages → 1 ≤ factor → 1 ≤ old.group → from.node.place < length old.cells
      → IsPhaseRange streams (cic_weights stages (factor * delay)) factor factor range → IsLeastWidth range.lo range.hi width
      → AddsInterpolator old new from width factor stages delay to → HasAlike streams (cic_up factor stages delay) new.cells old.group (cascade_registers stages delay) → Realises (cic_up_facts factor stages delay) streams old new from emitted
  Realises-up {old} {new} {from} {to} {width} {range} emitted is causal some factor_some data_group inside r w d alike =
      Realises-piece streams (cic_up_facts factor stages delay) emitted is refl data_group inside d.piece (omega arith) refl refl (let p = d.period in omega (arith, p))
      (d.offset ∙ ap (λ (q : ℕ). from.offset + (stages + (stages - 1) * q + 1)) (fast_is to.period from.period factor_some d.period))
      (λ inputs values v in_streams run carried n.
      d.interpolates cut_all IsCut-all inputs values run (pos n)
      ∙ ap (λ (x : Sequence). interpolator (wrap width) factor stages delay x (pos n)) (carried_is streams causal values from v in_streams carried)
      ∙ wrapped_up width factor stages delay v w.positive factor_some some (causal.each v in_streams) (pos n) (up_fits range width factor_some r w v in_streams n))
      (λ inputs values v in_streams run carried n.
      d.interpolates cut_control IsCut-control inputs values run (pos n)
      ∙ ap (λ (x : Sequence). interpolator whole factor stages delay x (pos n)) (carried_is streams causal values from v in_streams carried)
      ∙ whole_up factor stages delay v factor_some (causal.each v in_streams) (pos n))
      alike
