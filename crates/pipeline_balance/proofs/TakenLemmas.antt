-- A gated register has the last value that was taken, and one that takes it at the same ticks the value before.
use Rattle.std.proofs.Common.{◌≡◌, ℕ, zero, suc, ◌+◌, ◌*◌, ◌<◌, ◌≤◌, List, length, refl, sym, ◌∙◌, ap, arith, Some, None, Option, inl, inr, ℤ, pos, negsuc, Bool, true, false, ◌&&◌}
use Rattle.std.proofs.lemmas.Bool.{cases_eq, cases_lt}
use Rattle.std.proofs.lemmas.Option.{slice_get_within}
use Rattle.std.proofs.Math.Nat.{mul-le-mul_right}
use Rattle.mr_values.specs.Width.{set_bit, chosen}
use Rattle.net_graph.specs.declared.cell.Cell.{Cell}
use Rattle.net_graph.specs.declared.cell.Node.{Node}
use Rattle.net_graph.specs.declared.cell.Stream.{Stream}
use Rattle.net_graph.specs.declared.cell.Item.TheVariants.{Mux}
use Rattle.net_graph.specs.declared.name.Name.{Name}
use Rattle.net_graph.specs.Cells.{NetView, cell_at}
use Rattle.net_graph.specs.Name.{is_control, is_control_kind}
use Rattle.net_graph.specs.Cut.{Cut, IsCut}
use Rattle.net_graph.specs.Run.{Values, IsRun}
use Rattle.net_graph.specs.Grow.{Extends, Lengthens, Grows, Adds, AddsRegister, IsBoundTo}
use Rattle.net_graph.proofs.CellLemmas.{cell_at-there}
use Rattle.net_graph.proofs.GroupLemmas.{nameless_data}
use Rattle.net_graph.proofs.NetLemmas.{IsRun-keeps, cell_of_added, Extends-register}
use Rattle.net_graph.proofs.GrowLemmas.{IsOfControl-later, named_own, GrowsBut, GrowsBut-register, GrowsBut-adds, GrowsBut-unbound, Lengthens-bind, Grows-bind, Extends-grown, cell_of_grown}
use Rattle.pipeline_balance.proofs.CostLemmas.{SameAdders-trans, SameAdders-register, SameAdders-plain, SameAdders-bind, SameNamed-adds, SameNamed-bind, windows-register, tables-register}
use Rattle.pipeline_balance.proofs.NumberedLemmas.{free_register, free_adds, free_bind}
use Rattle.pipeline_balance.proofs.ShapeLemmas.{KeepsShapes-trans, KeepsShapes-adds, KeepsShapes-register, KeepsShapes-bind}
use Rattle.pipeline_balance.specs.Numbered.{IsRegister}
use Rattle.pipeline_balance.specs.Gate.{IsTickOf, IsBitOf, IsGate, HasTaken, taken_value, shown, Holds, IsTaken}

-- ---- ticks

-- between two ticks of the period there is none
pub off_tick : (period first k t : ℕ) → first + k * period < t → t < first + suc k * period → IsTickOf period first t → ⊥
off_tick period first k t after before tick = elim (cases_lt tick.0 (suc k)) [
  | inl less ↦ let few : tick.0 * period ≤ k * period = mul-le-mul_right period (omega arith) in let e = tick.1 in omega arith
  | inr more ↦ let many : suc k * period ≤ tick.0 * period = mul-le-mul_right period more in let e = tick.1 in omega arith
]

-- at the tick of value k, the k values before it have been taken
pub HasTaken-at : (period first k : ℕ) → 1 ≤ period → HasTaken period first k (first + k * period)
HasTaken-at period first zero positive = omega arith
HasTaken-at period first (suc k) positive = (omega arith, omega arith)

-- at each tick some number of values has been taken
pub taken : (period first t : ℕ) → 1 ≤ period → (n : ℕ) × HasTaken period first n t
taken period first zero positive = (0, omega arith)
taken period first (suc t) positive = let before = taken period first t positive in more before.0 before.1
  where
    more : (n : ℕ) → HasTaken period first n t → (n : ℕ) × HasTaken period first n (suc t)
    more zero h = elim (cases_eq t first) [
      | inl e ↦ (1, (omega arith, omega arith))
      | inr ne ↦ (0, omega arith)
    ]
    more (suc k) h = let after = h.0 in let until = h.1 in elim (cases_eq t (first + suc k * period)) [
      | inl e ↦ (suc (suc k), (omega arith, omega arith))
      | inr ne ↦ (suc k, (omega arith, omega arith))
    ]

-- a tick of the period is that of the next value
pub tick_is : (period first n t : ℕ) → HasTaken period first n t → IsTickOf period first t → t ≡ first + n * period
tick_is period first zero t h tick = let e = tick.1 in omega arith
tick_is period first (suc k) t h tick = let after = h.0 in let until = h.1 in elim (cases_eq t (first + suc k * period)) [
  | inl e ↦ e
  | inr ne ↦ absurd (off_tick period first k t after (omega arith) tick)
]

-- the values that were taken decide
pub taken_value-same : (f g : ℕ → ℤ) → ((k : ℕ) → f k ≡ g k) → (n age : ℕ) → taken_value f n age ≡ taken_value g n age
taken_value-same f g e zero age = refl
taken_value-same f g e (suc k) zero = e k
taken_value-same f g e (suc k) (suc age) = taken_value-same f g e k age

-- a register that begins with 0, has the value of `source` after the ticks of the period, and else keeps its own
module _ (period first : ℕ) (bit source own : ℕ → ℤ) (starts : own 0 ≡ pos 0) (steps : (t : ℕ) → own (suc t) ≡ chosen (bit t) (source t) (own t))
    (sets : (t : ℕ) → IsTickOf period first t → bit t ≡ set_bit) (clears : (t : ℕ) → (IsTickOf period first t → ⊥) → bit t ≡ pos 0) where
  takes : (t : ℕ) → IsTickOf period first t → own (suc t) ≡ source t
  takes t tick = steps t ∙ ap (λ (b : ℤ). chosen b (source t) (own t)) (sets t tick)

  keeps : (t : ℕ) → (IsTickOf period first t → ⊥) → own (suc t) ≡ own t
  keeps t off = steps t ∙ ap (λ (b : ℤ). chosen b (source t) (own t)) (clears t off)

  -- it has the last value that was taken
  pub taken_last : (t n : ℕ) → HasTaken period first n t → own t ≡ taken_value (λ k. source (first + k * period)) n 0
  taken_last zero zero h = starts
  taken_last zero (suc k) h = let after = h.0 in absurd (omega arith)
  taken_last (suc t) zero h = keeps t (λ tick. let e = tick.1 in omega arith) ∙ taken_last t zero (omega arith)
  taken_last (suc t) (suc k) h = let after = h.0 in let until = h.1 in elim (cases_eq t (first + k * period)) [
    | inl e ↦ takes t (k, e) ∙ ap source e
    | inr ne ↦ keeps t (off_tick period first k t (omega arith) (omega arith)) ∙ taken_last t (suc k) (omega arith, omega arith)
  ]

-- ---- one register

pub chosen_kept : (cut : ℤ → ℤ) (on a b : ℤ) → cut a ≡ a → cut b ≡ b → cut (chosen on a b) ≡ chosen on a b
chosen_kept cut (pos zero) a b p q = q
chosen_kept cut (pos (suc n)) a b p q = p
chosen_kept cut (negsuc n) a b p q = p

-- a bit's law in a longer net
pub IsBitOf-later : {old new : List Cell} {ticks : ℕ → Type 0} {bit : Node} → IsBitOf old ticks bit → Extends old new → IsBitOf new ticks bit
IsBitOf-later {old} {new} {ticks} {bit} is e = record {
  within = let l = e.longer in let w = is.within in omega arith;
  control = IsOfControl-later old new bit.place e is.control;
  sets = λ cut law x v r. is.sets cut law x v (e.runs cut law x v r);
  clears = λ cut law x v r. is.clears cut law x v (e.runs cut law x v r);
}

pub IsGate-later : (old new : List Cell) (period offset : ℕ) (gate : Option Node) → Extends old new → IsGate old period offset gate → IsGate new period offset gate
IsGate-later old new period offset None e g = g
IsGate-later old new period offset (Some bit) e g = IsBitOf-later g e

-- a data node keeps the value of a node of its width
pub node_kept : (cut : Cut) → IsCut cut → (cells : List Cell) (x : ℕ → ℤ) (v : Values) → IsRun cut cells x v → (place width more : ℕ) → place < length cells → width ≡ (cell_at cells place).width → 1 ≤ width → width ≤ more → (t : ℕ) → cut false more (v t place) ≡ v t place
node_kept cut law cells x v r place width more inside same wide less t =
    let cell = cell_at cells place in
    let own_wide : 1 ≤ cell.width = omega arith in
    law.data_keeps (is_control cell) cell.width more (v t place) own_wide (omega arith) (IsRun-keeps cut law cells x v place cell r (cell_at-there cells place inside) own_wide t)

data_own : (kind_control : Bool) → kind_control ≡ false → (kind_control && true) ≡ false
data_own c e = ap (λ (b : Bool). b && true) e

-- the parts that both registers share
module _ {old mid last new : NetView} {name : Name} {register next : Node} {width : ℕ} (from : Node) (wide : 1 ≤ width) (same : width ≡ (cell_at old.cells from.place).width) (data_name : is_control_kind name.kind old.group ≡ false)
    (a : AddsRegister old mid register name width) (p : GrowsBut old last register (record { group = old.group; name = Some name; width = width; item = None })) (b : IsBoundTo last new register next) where
  own : Cell
  own = record { group = old.group; name = Some name; width = width; item = None }

  no_control : is_control (record { group = old.group; name = Some name; width = width; item = None }) ≡ true → ⊥
  no_control is = let f : false ≡ true = sym (data_own (is_control_kind name.kind old.group) data_name) ∙ is in absurd (cc)

  pub register_lengthens : Lengthens old new
  register_lengthens = Lengthens-bind p wide b (λ is. absurd (no_control is))

  pub register_grows : 1 ≤ old.group → name.group ≡ old.group → Grows old new
  register_grows some own = Grows-bind (named_own _ name refl own some) p wide b (λ is. absurd (no_control is))

  pub register_is : IsRegister new.cells register.place old.group name (cell_at old.cells from.place).width
  register_is = record { cell = _; there = cell_of_grown p b; of_group = refl; named = refl; wide = same; registered = (next, refl) }

  -- it begins with 0, and then has what its next had
  pub register_obeys : (cut : Cut) → IsCut cut → (x : ℕ → ℤ) (v : Values) → IsRun cut new.cells x v → (v 0 register.place ≡ pos 0) × ((t : ℕ) → v (suc t) register.place ≡ cut false width (v t next.place))
  register_obeys cut law x v r =
      let o = r.each register.place _ (cell_of_grown p b) in
      (o.0, λ t. o.1 t ∙ ap (λ (c : Bool). cut c width (v t next.place)) (data_own (is_control_kind name.kind old.group) data_name))

  pub register_kept : (cut : Cut) → IsCut cut → (x : ℕ → ℤ) (v : Values) → IsRun cut new.cells x v → (t : ℕ) → cut false width (v t register.place) ≡ v t register.place
  register_kept cut law x v r t =
      let o = IsRun-keeps cut law new.cells x v register.place _ r (cell_of_grown p b) wide t in
      sym (ap (λ (c : Bool). cut c width (v t register.place)) (data_own (is_control_kind name.kind old.group) data_name)) ∙ o

-- a register that takes a node's value where the bit is set, and else its own
pub IsTaken-gate : {old mid last new : NetView} {from : Stream} {name : Name} {on register next : Node} {width : ℕ} → 1 ≤ width → 1 ≤ old.group → from.node.place < length old.cells → width ≡ (cell_at old.cells from.node.place).width → is_control_kind name.kind old.group ≡ false → IsBitOf old.cells (IsTickOf from.period from.offset) on
    → AddsRegister old mid register name width → Adds mid last next width (Mux on from.node register) → IsBoundTo last new register next → IsTaken old new from name register
IsTaken-gate {old} {mid} {last} {new} {from} {name} {on} {register} {next} {width} wide data_group inside same data_name gate a m b =
    let mid_group : 1 ≤ mid.group = rw a.group data_group in
    let p : GrowsBut old last register (record { group = old.group; name = Some name; width = width; item = None }) = GrowsBut-adds (GrowsBut-register a) m refl (λ zero_group. absurd (omega arith)) in
    let lengthens : Lengthens old new = register_lengthens from.node wide same data_name a p b in
    let bound_last = Extends-grown p wide b in
    record {
      lengthens = lengthens;
      grows = register_grows from.node wide same data_name a p b data_group;
      register = register_is from.node wide same data_name a p b;
      holds = record {
        within = slice_get_within new.cells register.place _ (cell_of_grown p b);
        holds = λ cut law x v r.
            let old_run = lengthens.extends.runs cut law x v r in
            let own = register_obeys from.node wide same data_name a p b cut law x v r in
            let own_kept = register_kept from.node wide same data_name a p b cut law x v r in
            let from_kept : (t : ℕ) → cut false width (v t from.node.place) ≡ v t from.node.place = node_kept cut law old.cells x v old_run from.node.place width width inside same wide (omega arith) in
            let kept : (t : ℕ) → cut false width (chosen (v t on.place) (v t from.node.place) (v t register.place)) ≡ chosen (v t on.place) (v t from.node.place) (v t register.place) = λ t. chosen_kept (cut false width) (v t on.place) (v t from.node.place) (v t register.place) (from_kept t) (own_kept t) in
            let mux : (t : ℕ) → v t next.place ≡ cut false width (chosen (v t on.place) (v t from.node.place) (v t register.place)) =
            λ t. (bound_last.runs cut law x v r).each next.place _ (cell_of_added m) t ∙ ap (λ (c : Bool). cut c width (chosen (v t on.place) (v t from.node.place) (v t register.place))) (nameless_data mid.group true mid_group) in
            taken_last from.period from.offset (λ t. v t on.place) (λ t. v t from.node.place) (λ t. v t register.place) own.0
            (λ t. own.1 t ∙ ap (cut false width) (mux t ∙ kept t) ∙ kept t)
            (gate.sets cut law x v old_run) (gate.clears cut law x v old_run);
      };
      names = record { free = λ other ne f. free_bind (GrowsBut-unbound p) b other (free_adds m other (free_register a other ne f)) };
      adders = SameAdders-trans (SameAdders-register a) (SameAdders-trans (SameAdders-plain m refl) (SameAdders-bind (GrowsBut-unbound p) b));
      windows = λ group. (SameNamed-bind (GrowsBut-unbound p) b).windows group ∙ (SameNamed-adds m).windows group ∙ windows-register group a;
      tables = λ group. (SameNamed-bind (GrowsBut-unbound p) b).tables group ∙ (SameNamed-adds m).tables group ∙ tables-register group a;
      linear = KeepsShapes-trans (KeepsShapes-register a) (KeepsShapes-trans (KeepsShapes-adds m (IsOfControl-later old.cells mid.cells on.place (Extends-register a) gate.control)) (KeepsShapes-bind bound_last (GrowsBut-unbound p) b));
    }

-- a register that takes a node's value at every tick
pub IsTaken-plain : {old mid new : NetView} {from : Node} {name : Name} {register : Node} {width : ℕ} → 1 ≤ width → 1 ≤ old.group → from.place < length old.cells → width ≡ (cell_at old.cells from.place).width → is_control_kind name.kind old.group ≡ false
    → AddsRegister old mid register name width → IsBoundTo mid new register from → IsTaken old new (record { node = from; period = 1; offset = 0 }) name register
IsTaken-plain {old} {mid} {new} {from} {name} {register} {width} wide data_group inside same data_name a b =
    let p : GrowsBut old mid register (record { group = old.group; name = Some name; width = width; item = None }) = GrowsBut-register a in
    let lengthens : Lengthens old new = register_lengthens from wide same data_name a p b in
    record {
      lengthens = lengthens;
      grows = register_grows from wide same data_name a p b data_group;
      register = register_is from wide same data_name a p b;
      holds = record {
        within = slice_get_within new.cells register.place _ (cell_of_grown p b);
        holds = λ cut law x v r.
            let old_run = lengthens.extends.runs cut law x v r in
            let own = register_obeys from wide same data_name a p b cut law x v r in
            let from_kept : (t : ℕ) → cut false width (v t from.place) ≡ v t from.place = node_kept cut law old.cells x v old_run from.place width width inside same wide (omega arith) in
            taken_last 1 0 (λ t. set_bit) (λ t. v t from.place) (λ t. v t register.place) own.0 (λ t. own.1 t ∙ from_kept t) (λ t tick. refl) (λ t off. absurd (off (t, omega arith)));
      };
      names = record { free = λ other ne f. free_bind (GrowsBut-unbound p) b other (free_register a other ne f) };
      adders = SameAdders-trans (SameAdders-register a) (SameAdders-bind (GrowsBut-unbound p) b);
      windows = λ group. (SameNamed-bind (GrowsBut-unbound p) b).windows group ∙ windows-register group a;
      tables = λ group. (SameNamed-bind (GrowsBut-unbound p) b).tables group ∙ tables-register group a;
      linear = KeepsShapes-trans (KeepsShapes-register a) (KeepsShapes-bind (Extends-grown p wide b) (GrowsBut-unbound p) b);
    }

-- every tick is one of such a stream
pub stream_plain : (from : Stream) → from.period ≡ 1 → from.offset ≡ 0 → (let plain : Stream = record { node = from.node; period = 1; offset = 0 } in plain) ≡ from
stream_plain from p o =
    ap (λ (n : ℕ). let s : Stream = record { node = from.node; period = n; offset = 0 } in s) (sym p)
    ∙ ap (λ (n : ℕ). let s : Stream = record { node = from.node; period = from.period; offset = n } in s) (sym o)

-- ---- more registers

-- what a register holds it holds in a longer net
pub Holds-later : {old new : List Cell} {from : Stream} {age : ℕ} {to : Node} → Extends old new → Holds old from age to → Holds new from age to
Holds-later {old} {new} e h = record {
  within = let l = e.longer in let w = h.within in omega arith;
  holds = λ cut law x v r. h.holds cut law x v (e.runs cut law x v r);
}

-- a register that takes at the same ticks what was taken before
pub Holds-more : {old new : List Cell} {from : Stream} {last to : Node} {age : ℕ} → 1 ≤ from.period → Extends old new → Holds old from age last → Holds new (record { node = last; period = from.period; offset = from.offset }) 0 to → Holds new from (suc age) to
Holds-more {old} {new} {from} {last} {to} {age} positive e p q = record {
  within = q.within;
  holds = λ cut law x v r t n h. q.holds cut law x v r t n h ∙ older (λ s. v s last.place) (shown v from) (p.holds cut law x v (e.runs cut law x v r)) n;
}
  where
    older : (own f : ℕ → ℤ) → ((t n : ℕ) → HasTaken from.period from.offset n t → own t ≡ taken_value f n age) → (n : ℕ) → taken_value (λ k. own (from.offset + k * from.period)) n 0 ≡ taken_value f n (suc age)
    older own f e zero = refl
    older own f e (suc k) = e (from.offset + k * from.period) k (HasTaken-at from.period from.offset k positive)
