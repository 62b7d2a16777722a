-- A rounding and a clipping realise their elements.
use Rattle.std.proofs.Common.{◌≡◌, ℕ, suc, ◌+◌, ◌*◌, ◌%◌, ◌^◌, ◌<◌, ◌≤◌, List, [], ◌∷◌, length, refl, sym, ◌∙◌, ap, arith, Bool, true, false, inl, inr, subst, ℤ, pos, negsuc, neg_ℤ, ◌-ℤ◌, ◌≤ℤ◌}
use Rattle.std.specs.Prelude.{unsigned_abs}
use Rattle.std.proofs.lemmas.Int.{ints}
use Rattle.mr_values.specs.declared.plan.Mode.{Mode}
use Rattle.mr_values.specs.Sequence.{Sequence, filter}
use Rattle.mr_values.specs.Rounding.{clip_value}
use Rattle.mr_values.specs.Value.{round_value, chain}
use Rattle.net_graph.specs.declared.cell.Node.{Node}
use Rattle.net_graph.specs.declared.cell.Stream.{Stream}
use Rattle.net_graph.specs.declared.name.Name.{Name}
use Rattle.net_graph.specs.declared.name.NameKind.TheVariants.{Register}
use Rattle.net_graph.specs.Cells.{NetView}
use Rattle.net_graph.specs.Cut.{cut_all}
use Rattle.net_graph.proofs.CutLemmas.{IsCut-all}
use Rattle.net_graph.proofs.GrowLemmas.{Grows-trans}
use Rattle.net_graph.proofs.DepthLemmas.{IsShallow-none, IsPlain-untouched}
use Rattle.pipeline_balance.specs.Gate.{HasTaken}
use Rattle.pipeline_balance.proofs.ShallowLemmas.{shallow_more}
use Rattle.pipeline_balance.specs.Numbered.{IsTouched}
use Rattle.pipeline_balance.proofs.NumberedLemmas.{LeavesFree-trans}
use Rattle.stage_law.specs.declared.ranges.Range.{Range}
use Rattle.stage_law.specs.declared.ranges.Class.{Class}
use Rattle.stage_law.specs.declared.stage.Emitted.{Emitted}
use Rattle.stage_law.specs.Streams.{Streams, HasRoom}
use Rattle.stage_law.specs.Range.{IsRange}
use Rattle.stage_law.specs.Realises.{Realises, CarriesThrough, IsOwnName}
use Rattle.rounding_stage.specs.Held.{IsHeld}
use Rattle.rounding_stage.specs.Map.{IsMap}
use Rattle.rounding_stage.specs.Clipping.{clipping_facts}
use Rattle.rounding_stage.specs.Rounding.{rounding_facts, rounding_adders}
use Rattle.net_graph.specs.Count.{adders_in}
use Rattle.stage_law.specs.Facts.{StageFacts}
use Rattle.stage_law.specs.Kinds.{carries_uncut, is_linear, has_linear_shape, has_one_width}

-- every index
abbrev pub every : Class
every = record { modulus = 1; residue = 0 }

abbrev pub one : List ℤ
one = pos 1 ∷ []

value_is : (v : Sequence) (k : ℕ) → filter one v (pos k) ≡ v (pos k)
value_is v k = let at : pos k -ℤ pos 0 ≡ pos k = omega (arith, ints) in rw at (omega (arith, ints))

in_every : (k : ℕ) → k % 1 ≡ 0
in_every k = omega arith

-- the values of the streams lie in the range of the form 1
pub value_range : {streams : Streams} {form : List ℤ} {range : Range} → form ≡ one → IsRange streams form every range → IsRange streams one every range
value_range {streams} {form} {range} e r = subst (λ (ws : List ℤ). IsRange streams ws every range) e r

pub value_low : (streams : Streams) (range : Range) → IsRange streams one every range → (v : Sequence) → streams v → (k : ℕ) → range.lo ≤ℤ v (pos k)
value_low streams range r v is k = subst (λ (z : ℤ). range.lo ≤ℤ z) (value_is v k) (r.low v is k (in_every k))

pub value_high : (streams : Streams) (range : Range) → IsRange streams one every range → (v : Sequence) → streams v → (k : ℕ) → v (pos k) ≤ℤ range.hi
value_high streams range r v is k = subst (λ (z : ℤ). z ≤ℤ range.hi) (value_is v k) (r.high v is k (in_every k))

small_low : (z : ℤ) (most : ℕ) → unsigned_abs z ≤ most → most ≤ 2 ^ 125 → neg_ℤ (pos (2 ^ 125)) ≤ℤ z
small_low (pos n) most h b = omega (arith, ints)
small_low (negsuc n) most h b = omega (arith, ints)

small_high : (z : ℤ) (most : ℕ) → unsigned_abs z ≤ most → most ≤ 2 ^ 125 → z ≤ℤ pos (2 ^ 125)
small_high (pos n) most h b = omega (arith, ints)
small_high (negsuc n) most h b = omega (arith, ints)

pub range_low : (streams : Streams) (gain : ℕ) (range : Range) → HasRoom streams gain → IsRange streams one every range → neg_ℤ (pos (2 ^ 125)) ≤ℤ range.lo
range_low streams gain range h r =
    let w = r.low_reached in
    let is : w.stream (pos w.index) ≡ range.lo = sym (value_is w.stream w.index) ∙ w.is in
    subst (λ (z : ℤ). neg_ℤ (pos (2 ^ 125)) ≤ℤ z) is (small_low (w.stream (pos w.index)) h.most (h.within.each w.stream w.is_one (pos w.index)) h.before)

pub range_high : (streams : Streams) (gain : ℕ) (range : Range) → HasRoom streams gain → IsRange streams one every range → range.hi ≤ℤ pos (2 ^ 125)
range_high streams gain range h r =
    let w = r.high_reached in
    let is : w.stream (pos w.index) ≡ range.hi = sym (value_is w.stream w.index) ∙ w.is in
    subst (λ (z : ℤ). z ≤ℤ pos (2 ^ 125)) is (small_high (w.stream (pos w.index)) h.most (h.within.each w.stream w.is_one (pos w.index)) h.before)

pub range_ordered : (streams : Streams) (form : List ℤ) (class : Class) (range : Range) → IsRange streams form class range → range.lo ≤ℤ range.hi
range_ordered streams form class range r =
    let w = r.high_reached in
    subst (λ (z : ℤ). range.lo ≤ℤ z) w.is (r.low w.stream w.is_one w.index w.in_class)

touched_own : (group : ℕ) (name : Name) → IsTouched group Register name → IsOwnName group name
touched_own group name (inl h) = inl h.0
touched_own group name (inr h) = inr h

-- a stage that is a function of each value, in a register
pub record IsPointwise (facts : StageFacts) (adders : ℕ) (of : ℤ → ℤ) : Type 0 where
  pub rates : (facts.up ≡ 1) × (facts.down ≡ 1)
  pub one_tick : (period : ℕ) → facts.delay period ≡ 1
  pub applies : (v : Sequence) (n : ℤ) → chain facts.elements v n ≡ of (v n)
  pub cost : (facts.adders ≡ adders) × ((facts.windows ≡ 0) × (facts.tables ≡ 0))
  pub no_kind : (carries_uncut facts.kind ≡ false) × ((has_linear_shape facts.kind ≡ false) × ((has_one_width facts.kind ≡ false) × (is_linear facts.kind ≡ false)))

not_both : {A : Type 0} (b : Bool) → b ≡ false → b ≡ true → A
not_both b e f = absurd (cc)

pub Realises-pointwise : {old mid new : NetView} {from : Stream} {sum register : Node} {range : Range} {adders : ℕ} {of : ℤ → ℤ} {facts : StageFacts} {streams : Streams} (emitted : Emitted) → IsPointwise facts adders of
    → emitted.stream ≡ record { node = register; period = from.period; offset = from.offset + 1 } → from.node.place < length old.cells → 1 ≤ old.group → 1 ≤ from.period
    → IsMap old mid from.node range of adders sum → IsHeld mid new (record { node = sum; period = from.period; offset = from.offset }) register → IsRange streams one every range
    → Realises facts streams old new from emitted
Realises-pointwise {old} {mid} {new} {from} {sum} {register} {range} {adders} {of} {facts} {streams} emitted f is inside data_group positive m d r = record {
  grows = Grows-trans m.grows d.grows;
  within = subst (λ (to : Stream). to.node.place < length new.cells) (sym is) d.holds.within;
  period = ap (λ (to : Stream). to.period * facts.up) is ∙ ap (λ (n : ℕ). from.period * n) (f.rates.0 ∙ sym f.rates.1);
  offset = ap (λ (to : Stream). to.offset) is ∙ ap (λ (n : ℕ). from.offset + n) (sym (f.one_tick from.period));
  carries = subst (λ (to : Stream). CarriesThrough cut_all streams facts.elements new.cells from to) (sym is)
      (λ x values v in_streams run carried k.
      let t : ℕ = from.offset + k * from.period in
      let tick : from.offset + 1 + k * from.period ≡ suc t = omega arith in
      let shown_is : values t from.node.place ≡ v (pos k) = carried k in
      let taken : HasTaken from.period from.offset (suc k) (suc t) = (omega arith, omega arith) in
      subst (λ (u : ℕ). values u register.place ≡ chain facts.elements v (pos k)) (sym tick)
      (d.holds.holds cut_all IsCut-all x values run (suc t) (suc k) taken
      ∙ m.maps x values (d.grows.extends.runs cut_all IsCut-all x values run) t
      (subst (λ (z : ℤ). range.lo ≤ℤ z) (sym shown_is) (value_low streams range r v in_streams k))
      (subst (λ (z : ℤ). z ≤ℤ range.hi) (sym shown_is) (value_high streams range r v in_streams k))
      ∙ ap of shown_is ∙ sym (f.applies v (pos k))));
  whole = λ kind. not_both (carries_uncut facts.kind) f.no_kind.0 kind;
  shapes = λ kind. not_both (has_linear_shape facts.kind) f.no_kind.1.0 kind;
  alike = λ kind. not_both (has_one_width facts.kind) f.no_kind.1.1.0 kind;
  registers = λ kind. not_both (is_linear facts.kind) f.no_kind.1.1.1 kind;
  adders = d.same_adders.each old.group data_group ∙ m.counts ∙ ap (λ (n : ℕ). adders_in old.group old.cells + n) (sym f.cost.0);
  windows = d.same_named.windows old.group ∙ m.same_named.windows old.group ∙ omega (arith, f.cost.1.0);
  tables = d.same_named.tables old.group ∙ m.same_named.tables old.group ∙ omega (arith, f.cost.1.1);
  own_tables = λ some. absurd (omega (arith, some, f.cost.1.1));
  shallow = λ bound none.
      shallow_more old.group data_group d.grows d.same_adders (m.shallow.shallow (IsShallow-none old.cells old.group bound none) (IsPlain-untouched old.cells old.group from.node.place none inside));
  names = LeavesFree-trans old.cells mid.cells new.cells (λ name. ⊥) (IsTouched mid.group Register) (IsOwnName old.group) (λ name h. absurd h)
      (λ name h. touched_own old.group name (subst (λ (g : ℕ). IsTouched g Register name) m.grows.group h)) m.names d.names;
}

pub rounds_each : (shift : ℕ) (mode : Mode) → IsPointwise (rounding_facts shift mode) (rounding_adders mode) (round_value mode shift)
rounds_each shift mode = record { rates = (refl, refl); one_tick = λ period. refl; applies = λ v n. refl; cost = (refl, (refl, refl)); no_kind = (refl, (refl, (refl, refl))) }

pub clips_each : (bits : ℕ) → IsPointwise (clipping_facts bits) 0 (clip_value bits)
clips_each bits = record { rates = (refl, refl); one_tick = λ period. refl; applies = λ v n. refl; cost = (refl, (refl, refl)); no_kind = (refl, (refl, (refl, refl))) }
