-- Combs, zeros between their values, and integrators.
use Rattle.std.proofs.Common.{◌≡◌, ℕ, zero, suc, ◌+◌, ◌-◌, ◌*◌, ◌/◌, ◌%◌, ◌<◌, ◌≤◌, length, refl, sym, ◌∙◌, ap, arith, inl, inr, subst, ℤ, pos, negsuc, ◌-ℤ◌, ◌+ℤ◌, ◌*ℤ◌, Bool, true, false, not, ◌&&◌, Option, Some, None}
use Rattle.std.proofs.Math.Path.{fun_ext}
use Rattle.std.proofs.lemmas.Bool.{cases_eq}
use Rattle.std.proofs.lemmas.Int.{ints}
use Rattle.std.proofs.Math.Nat.{mul-le-mul_right}
use Rattle.std.proofs.lemmas.Option.{slice_get_within}
use native.Mathlib.Nat.{mod-lt, div-add-mod'}
use Rattle.mr_values.specs.Sequence.{Sequence, up}
use Rattle.mr_values.specs.Width.{set_bit, chosen, wrap}
use Rattle.mr_values.proofs.Polyphase.{up-at, up-between}
use Rattle.mr_values.proofs.WidthLemmas.{wrap_zero}
use Rattle.net_graph.specs.declared.cell.Node.{Node}
use Rattle.net_graph.specs.declared.cell.Stream.{Stream}
use Rattle.net_graph.specs.declared.cell.Item.{Item}
use Rattle.net_graph.specs.declared.cell.Item.TheVariants.{Constant, Mux}
use Rattle.net_graph.specs.declared.cell.Cell.{Cell}
use Rattle.net_graph.specs.declared.name.Name.{Name}
use Rattle.net_graph.specs.declared.name.NameKind.TheVariants.{Register}
use Rattle.net_graph.specs.Cells.{NetView}
use Rattle.net_graph.specs.Count.{is_adder}
use Rattle.net_graph.specs.Cut.{Cut, IsCut}
use Rattle.net_graph.specs.Depth.{IsPlain, of_other, begins, chooses, IsShallow}
use Rattle.net_graph.specs.Grow.{Adds, Grows}
use Rattle.net_graph.specs.Name.{is_control_name, is_input}
use Rattle.net_graph.specs.Run.{Values, IsRun}
use Rattle.net_graph.proofs.CountLemmas.{adders_plain}
use Rattle.net_graph.proofs.DepthLemmas.{IsPlain-later}
use Rattle.net_graph.proofs.GroupLemmas.{nameless_data, nameless_control}
use Rattle.net_graph.proofs.GrowLemmas.{Grows-data, IsOfControl-later}
use Rattle.net_graph.proofs.NetLemmas.{cell_of_added}
use Rattle.pipeline_balance.specs.Gate.{IsTickOf, IsCounter, HasTaken}
use Rattle.pipeline_balance.specs.Numbered.{IsCounted, LeavesFree}
use Rattle.pipeline_balance.proofs.CostLemmas.{SameNamed-adds}
use Rattle.pipeline_balance.proofs.NumberedLemmas.{free_adds, IsCounted-leaves}
use Rattle.pipeline_balance.specs.Shapes.{IsLinearItem}
use Rattle.pipeline_balance.proofs.ShallowLemmas.{shallow_same}
use Rattle.pipeline_balance.proofs.ShapeLemmas.{KeepsShapes-adds}
use Rattle.pipeline_balance.proofs.TakenLemmas.{off_tick}
use Rattle.cic_chain.specs.Cascade.{integrators, combs}
use Rattle.cic_chain.specs.Pieces.{IsPiece, AddsStuffed, AddsIntegrators, AddsCombs, AddsInterpolator, sampled}
use Rattle.cic_chain.proofs.PieceLemmas.{IsPiece-control, IsPiece-then, IsPiece-counts}
use Rattle.cic_chain.proofs.SampleLemmas.{cut_zero, integrators-causal, sampled-causal}
use Rattle.cic_chain.proofs.UpLemmas.{up-causal}

-- ---- nodes without a register or an adder

IsPiece-node : {old new : NetView} {node : Node} {width : ℕ} {item : Item} (from to : Node) (wide : ℕ) → 1 ≤ old.group → to.place < length new.cells → Adds old new node width item → is_input (Some item) ≡ false → is_adder (Some item) ≡ false → IsLinearItem old.cells (Some item)
    → (IsShallow old.cells old.group → IsPlain old.cells old.group from.place → IsPlain new.cells old.group to.place) → IsPiece old new from to wide 0 0
IsPiece-node {old} {new} {node} {width} {item} from to wide some inside a plain no_adder linear leads =
    let g : Grows old new = Grows-data some a plain in
    let leaves : LeavesFree old.cells new.cells (λ name. ⊥) = record { free = λ name other f. free_adds a name f } in
    let same = adders_plain old.group a no_adder in
    record {
      grows = g;
      within = inside;
      adds = same ∙ omega arith;
      named = SameNamed-adds a;
      names = record { free = λ name other f. free_adds a name f };
      counted = λ count c. let more : count ≡ count + 0 = omega arith in subst (λ (n : ℕ). IsCounted new.cells old.group Register n) more (IsCounted-leaves old.group Register count g.extends leaves (λ number h. h) c);
      wide = λ count c j h. absurd (omega arith);
      shallow = λ s p. shallow_same old.group g same s;
      plain = leads;
      linear = KeepsShapes-adds a linear;
    }

-- a control node without a name is of group 0
control_plain : {old new : NetView} {ticks : ℕ → Type 0} {bit : Node} → IsCounter old new ticks bit → (group : ℕ) → 1 ≤ group → IsPlain new.cells group bit.place
control_plain {old} {new} {ticks} {bit} c group some =
    let cell : Cell = c.shape.cell in
    let is : is_control_name None cell.group && not (is_input cell.item) ≡ true = subst (λ (n : Option Name). is_control_name n cell.group && not (is_input cell.item) ≡ true) c.nameless c.shape.same_control in
    let zero_group : cell.group ≡ 0 = nameless_control cell.group (not (is_input cell.item)) is in
    of_other bit.place cell c.shape.there (λ e. omega (arith, zero_group, e, some))

-- ---- zeros between values

-- the tick of a value of the faster stream
tick_of : (offset period q factor m : ℕ) → q * factor ≡ period → 1 ≤ factor → offset + m * q ≡ offset + (m / factor) * period + (m % factor) * q
tick_of offset period q factor m e some =
    let split : m ≡ (m / factor) * factor + m % factor = sym (div-add-mod' m factor) in
    let scaled : m * q ≡ ((m / factor) * factor + m % factor) * q = ap (λ (n : ℕ). n * q) split in
    let period_is : (m / factor) * (q * factor) ≡ (m / factor) * period = ap (λ (n : ℕ). (m / factor) * n) e in
    omega (arith, scaled, period_is)

pub AddsStuffed-circuit : {old n1 n2 new : NetView} {bit zero_node node : Node} (from : Stream) (width factor q : ℕ) → 1 ≤ old.group → from.node.place < length old.cells → 1 ≤ width → 1 ≤ from.period → 1 ≤ factor → q * factor ≡ from.period
    → IsCounter old n1 (IsTickOf from.period from.offset) bit → Adds n1 n2 zero_node width (Constant (wrap width (pos 0))) → Adds n2 new node width (Mux bit from.node zero_node)
    → AddsStuffed old new from width factor (record { node = node; period = q; offset = from.offset })
AddsStuffed-circuit {old} {n1} {n2} {new} {bit} {zero_node} {node} from width factor q some inside wide positive factor_some whole c z a =
    let some1 : 1 ≤ n1.group = rw c.grows.group some in
    let some2 : 1 ≤ n2.group = rw z.group some1 in
    let g2 : Grows n1 n2 = Grows-data some1 z refl in
    let g3 : Grows n2 new = Grows-data some2 a refl in
    let first : IsPiece old n1 from.node from.node width 0 0 = IsPiece-control from.node width some inside c.grows c.adders c.named c.names c.linear in
    let inside2 : from.node.place < length n2.cells = let l1 = c.grows.extends.longer in let l2 = g2.extends.longer in omega (arith, inside, l1, l2) in
    let second : IsPiece n1 n2 from.node from.node width 0 0 = IsPiece-node from.node from.node width some1 inside2 z refl refl tt (λ s p. IsPlain-later n1.cells n2.cells n1.group s.bound g2.extends from.node.place p) in
    let third : IsPiece n2 new from.node node width 0 0 = IsPiece-node from.node node width some2 (slice_get_within new.cells node.place _ (cell_of_added a)) a refl refl (IsOfControl-later n1.cells n2.cells bit.place g2.extends c.bit_of.control)
    (λ s p.
    let later : (place : ℕ) → IsPlain n2.cells n2.group place → IsPlain new.cells n2.group place = IsPlain-later n2.cells new.cells n2.group s.bound g3.extends in
    chooses node.place _ bit from.node zero_node (cell_of_added a) refl
    (later_bit c g2 g3 n2.group some2) (later from.node.place p) (later zero_node.place (begins zero_node.place _ (cell_of_added z) refl))) in
    record {
      piece = IsPiece-then first (IsPiece-then second third);
      period = whole;
      offset = refl;
      stuffs = at;
    }
  where
    later_bit : {a b d e : NetView} {ticks : ℕ → Type 0} {bit : Node} → IsCounter a b ticks bit → Grows b d → Grows d e → (group : ℕ) → 1 ≤ group → IsPlain e.cells group bit.place
    later_bit {a} {b} {d} {e} {ticks} {bit} c g h group some =
        let k = g.extends.keeps bit.place c.shape.cell c.shape.there in
        let l = h.extends.keeps bit.place k.cell k.there in
        let cell : Cell = c.shape.cell in
        let is : is_control_name None cell.group && not (is_input cell.item) ≡ true = subst (λ (n : Option Name). is_control_name n cell.group && not (is_input cell.item) ≡ true) c.nameless c.shape.same_control in
        let zero_group : cell.group ≡ 0 = nameless_control cell.group (not (is_input cell.item)) is in
        let same = l.group ∙ k.group in
        of_other bit.place l.cell l.there (λ e. omega (arith, zero_group, same, e, some))

    at : (cut : Cut) → IsCut cut → (inputs : ℕ → ℤ) (values : Values) → IsRun cut new.cells inputs values
        → (m : ℤ) → sampled values (record { node = node; period = q; offset = from.offset }) m ≡ up factor (λ n. cut false width (sampled values from n)) m
    at cut law inputs values run (pos m) =
        let y : Sequence = λ n. cut false width (sampled values from n) in
        let k : ℕ = m / factor in
        let r : ℕ = m % factor in
        let below : r < factor = mod-lt m factor_some in
        let t : ℕ = from.offset + m * q in
        let tick : t ≡ from.offset + k * from.period + r * q = tick_of from.offset from.period q factor m whole factor_some in
        let split : pos m ≡ pos k *ℤ pos factor +ℤ pos r = omega (arith, ints, div-add-mod' m factor) in
        let some1 : 1 ≤ n1.group = rw c.grows.group some in
        let some2 : 1 ≤ n2.group = rw z.group some1 in
        let run2 = (Grows-data {item = Mux bit from.node zero_node} some2 a refl).extends.runs cut law inputs values run in
        let run1 = (Grows-data {item = Constant (wrap width (pos 0))} some1 z refl).extends.runs cut law inputs values run2 in
        let mux : values t node.place ≡ cut false width (chosen (values t bit.place) (values t from.node.place) (values t zero_node.place)) =
        run.each node.place _ (cell_of_added a) t ∙ ap (λ (b : Bool). cut b width (chosen (values t bit.place) (values t from.node.place) (values t zero_node.place))) (nameless_data n2.group true some2) in
        let zero_is : values t zero_node.place ≡ pos 0 =
        run2.each zero_node.place _ (cell_of_added z) t ∙ ap (λ (b : Bool). cut b width (wrap width (pos 0))) (nameless_data n1.group true some1) ∙ ap (cut false width) (wrap_zero width wide) ∙ cut_zero cut law width wide in
        elim (cases_eq r 0) [
          | inl none ↦
              let on_tick : t ≡ from.offset + k * from.period = tick ∙ ap (λ (n : ℕ). from.offset + k * from.period + n * q) none ∙ omega arith in
              let set : values t bit.place ≡ set_bit = c.bit_of.sets cut law inputs values run1 t (k, on_tick) in
              let first : pos m ≡ pos k *ℤ pos factor +ℤ pos 0 = split ∙ ap (λ (n : ℕ). pos k *ℤ pos factor +ℤ pos n) none in
              mux ∙ ap (λ (b : ℤ). cut false width (chosen b (values t from.node.place) (values t zero_node.place))) set ∙ ap (λ (u : ℕ). cut false width (values u from.node.place)) on_tick
              ∙ sym (ap (up factor y) first ∙ up-at factor y (pos k) factor_some)
          | inr more ↦
              let low : 0 < r = omega arith in
              let q_some : 1 ≤ q = some_quotient q factor from.period whole positive in
              let high : r * q < from.period = less_period r q factor from.period whole below q_some in
              let start : 1 ≤ r * q = product_some r q low q_some in
              let off : (IsTickOf from.period from.offset t → ⊥) = off_tick from.period from.offset k t (omega (arith, tick, start)) (omega (arith, tick, high)) in
              let clear : values t bit.place ≡ pos 0 = c.bit_of.clears cut law inputs values run1 t off in
              mux ∙ ap (λ (b : ℤ). cut false width (chosen b (values t from.node.place) (values t zero_node.place))) clear ∙ ap (cut false width) zero_is ∙ cut_zero cut law width wide
              ∙ sym (ap (up factor y) split ∙ up-between factor y (pos k) r low below)
        ]
      where
        some_quotient : (q factor period : ℕ) → q * factor ≡ period → 1 ≤ period → 1 ≤ q
        some_quotient zero factor period e h = absurd (omega (arith, e, h))
        some_quotient (suc q) factor period e h = omega arith

        product_some : (a b : ℕ) → 0 < a → 1 ≤ b → 1 ≤ a * b
        product_some zero b h k = absurd (omega (arith, h))
        product_some (suc a) b h k = omega (arith, k)

        less_period : (r q factor period : ℕ) → q * factor ≡ period → r < factor → 1 ≤ q → r * q < period
        less_period r q factor period e h k = let more : suc r * q ≤ factor * q = mul-le-mul_right q h in omega (arith, more, e, k)
    at cut law inputs values run (negsuc m) =
        let causal : (n : ℕ) → cut false width (sampled values from (negsuc n)) ≡ pos 0 = λ n. cut_zero cut law width wide in
        sym (up-causal factor factor_some (λ n. cut false width (sampled values from n)) causal m)

-- ---- all of it

-- a comb's value is cut already
combs_cut : (cut : Cut) → IsCut cut → (width : ℕ) → 1 ≤ width → (stages delay : ℕ) → 1 ≤ stages → (x : Sequence) → (λ (n : ℤ). cut false width (combs (cut false width) stages delay x n)) ≡ combs (cut false width) stages delay x
combs_cut cut law width wide zero delay some x = absurd (omega (arith, some))
combs_cut cut law width wide (suc stages) delay some x = fun_ext (λ n. law.again false width _ wide)

pub AddsInterpolator-all : {old n1 n2 new : NetView} {slow fast : Stream} {last : Node} (from : Stream) (width factor stages delay : ℕ) → 1 ≤ from.period → 1 ≤ width → 1 ≤ factor → 1 ≤ stages → 1 ≤ fast.period
    → AddsCombs old n1 from width stages delay slow → AddsStuffed n1 n2 slow width factor fast → AddsIntegrators n2 new fast width stages last
    → AddsInterpolator old new from width factor stages delay (record { node = last; period = fast.period; offset = fast.offset + (stages - 1) * fast.period + 1 })
AddsInterpolator-all {old} {n1} {n2} {new} {slow} {fast} {last} from width factor stages delay positive wide factor_some some fast_some p s i = record {
  piece = IsPiece-counts (omega arith) (omega arith) (IsPiece-then p.piece (IsPiece-then s.piece i.piece));
  period = s.period ∙ p.period;
  offset = let e = s.offset in let f = p.offset in omega (arith, e, f);
  interpolates = at;
}
  where
    stuffed : (cut : Cut) → IsCut cut → (inputs : ℕ → ℤ) (values : Values) → IsRun cut n2.cells inputs values → sampled values fast ≡ up factor (combs (cut false width) stages delay (sampled values from))
    stuffed cut law inputs values run =
        let slow_is : sampled values slow ≡ combs (cut false width) stages delay (sampled values from) = fun_ext (p.differs cut law inputs values (s.piece.grows.extends.runs cut law inputs values run)) in
        fun_ext (s.stuffs cut law inputs values run)
        ∙ ap (λ (y : Sequence). up factor (λ n. cut false width (y n))) slow_is
        ∙ ap (up factor) (combs_cut cut law width wide stages delay some (sampled values from))

    at : (cut : Cut) → IsCut cut → (inputs : ℕ → ℤ) (values : Values) → IsRun cut new.cells inputs values
        → (n : ℤ) → sampled values (record { node = last; period = fast.period; offset = fast.offset + (stages - 1) * fast.period + 1 }) n ≡ integrators (cut false width) stages (up factor (combs (cut false width) stages delay (sampled values from))) n
    at cut law inputs values run (pos m) =
        let t : ℕ = fast.offset + (stages - 1) * fast.period + 1 + m * fast.period in
        let k : ℕ = stages - 1 + m in
        let tick : t ≡ fast.offset + k * fast.period + 1 = omega arith in
        let taken : HasTaken fast.period fast.offset (suc k) t = rw tick (omega arith, omega (arith, fast_some)) in
        let index : pos (suc k) -ℤ pos stages ≡ pos m = omega (arith, ints) in
        i.holds.sums cut law inputs values run t (suc k) taken
        ∙ ap (integrators (cut false width) stages (sampled values fast)) index
        ∙ ap (λ (y : Sequence). integrators (cut false width) stages y (pos m)) (stuffed cut law inputs values (i.piece.grows.extends.runs cut law inputs values run))
    at cut law inputs values run (negsuc m) =
        let causal = integrators-causal (cut false width) (cut_zero cut law width wide) stages (sampled values fast) (sampled-causal values fast) m in
        sym (sym (ap (λ (y : Sequence). integrators (cut false width) stages y (negsuc m)) (stuffed cut law inputs values (i.piece.grows.extends.runs cut law inputs values run))) ∙ causal)

pub whole_times : (period factor : ℕ) → period % factor ≡ 0 → period / factor * factor ≡ period
whole_times period factor e = let split = div-add-mod' period factor in omega (arith, split, e)

-- the faster stream has a period
pub fast_period : {old n1 n2 : NetView} {from slow fast : Stream} {width factor stages delay : ℕ} → AddsStuffed n1 n2 slow width factor fast → AddsCombs old n1 from width stages delay slow → 1 ≤ from.period → 1 ≤ fast.period
fast_period {old} {n1} {n2} {from} {slow} {fast} {width} {factor} s p positive = some fast.period (s.period ∙ p.period)
  where
    some : (q : ℕ) → q * factor ≡ from.period → 1 ≤ q
    some zero e = absurd (omega (arith, e, positive))
    some (suc q) e = omega arith
