-- A register that counts to a tick, and then over and over a period up to the same number, all modulo 2 ^ w.
use Rattle.std.proofs.Common.{◌≡◌, ℕ, zero, suc, ◌+◌, ◌*◌, ◌^◌, ◌<◌, ◌≤◌, refl, sym, ◌∙◌, ap, arith, Some, None, subst, ℤ, pos, negsuc, ◌+ℤ◌, ◌-ℤ◌, ◌≤ℤ◌, ◌<ℤ◌, ◌⊎◌, inl, inr, true, false, not, eqb, Bool, ◌&&◌, length, slice_get, List}
use Rattle.std.proofs.lemmas.Bool.{cases_eq, cases_lt}
use Rattle.std.proofs.lemmas.Int.{ints}
use Rattle.std.proofs.lemmas.Option.{slice_get_within}
use Rattle.std.proofs.Math.Nat.{mul-le-mul_right}
use Rattle.mr_values.specs.Width.{wrap, set_bit, chosen}
use Rattle.mr_values.proofs.WidthLemmas.{wrap_fits, wrap_zero, fits_in}
use Rattle.net_graph.specs.declared.cell.Cell.{Cell}
use Rattle.net_graph.specs.declared.cell.Node.{Node}
use Rattle.net_graph.specs.declared.cell.Item.{Item}
use Rattle.net_graph.specs.declared.cell.Item.TheVariants.{Constant, Add, Mux, Equal}
use Rattle.net_graph.specs.declared.name.Name.{Name}
use Rattle.net_graph.specs.declared.name.NameKind.TheVariants.{Control}
use Rattle.net_graph.specs.Cells.{NetView}
use Rattle.net_graph.specs.Name.{is_input}
use Rattle.net_graph.specs.Cut.{Cut, IsCut}
use Rattle.net_graph.specs.Run.{Values, IsRun, equality}
use Rattle.net_graph.specs.Control.{IsOfControl}
use Rattle.net_graph.specs.Grow.{Extends, Grows, Adds, IsBoundTo}
use Rattle.net_graph.proofs.Lists.{slice_get-append_left, slice_get-set_other}
use Rattle.net_graph.proofs.GroupLemmas.{nameless_zero}
use Rattle.net_graph.proofs.NetLemmas.{Extends-adds, cell_of_added, cell_of_register, cell_of_bound}
use Rattle.net_graph.proofs.CellLemmas.{cell_at-is}
use Rattle.net_graph.proofs.GrowLemmas.{IsOfControl-later, named_control, Grows-regroup, GrowsBut, GrowsBut-register, GrowsBut-adds, GrowsBut-unbound, Grows-bind, Extends-grown, cell_of_grown}
use Rattle.pipeline_balance.specs.Numbered.{AddsNext, name_of}
use Rattle.pipeline_balance.specs.Gate.{IsTickOf, IsCounter, IsCountOf, AddsCount}
use Rattle.pipeline_balance.specs.Bits.{IsBitsFor}
use Rattle.pipeline_balance.proofs.WrapLemmas.{wrap-+, wrap_twice, wrap_apart, wrap-one, equality-same, equality_apart}
use Rattle.pipeline_balance.proofs.CostLemmas.{SameAdders-trans, SameAdders-register, SameAdders-plain, SameAdders-control, SameAdders-bind, SameNamed-trans, SameNamed-adds, SameNamed-register, SameNamed-bind}
use Rattle.pipeline_balance.proofs.NumberedLemmas.{free_register, free_adds, free_bind}
use Rattle.pipeline_balance.proofs.ShapeLemmas.{KeepsShapes-trans, KeepsShapes-control, KeepsShapes-register, KeepsShapes-bind}

pub wrap-set_bit : wrap 1 set_bit ≡ set_bit
wrap-set_bit = wrap_fits 1 (negsuc 0) (omega arith) (fits_in 1 (negsuc 0) (omega arith) (omega arith))

-- a control node is cut to its width in every run
pub as_control : (cut : Cut) → IsCut cut → (control : Bool) (width : ℕ) (z : ℤ) → control ≡ true → cut control width z ≡ wrap width z
as_control cut law control width z e = ap (λ (c : Bool). cut c width z) e ∙ law.controls width z

-- a control constant, cut to its width, stays as it is
pub constant_control : (cut : Cut) → IsCut cut → (control : Bool) (width : ℕ) (z : ℤ) → 1 ≤ width → control ≡ true → cut control width (wrap width z) ≡ wrap width z
constant_control cut law control width z wide e = as_control cut law control width (wrap width z) e ∙ wrap_twice width z wide

-- the values of the seven nodes at every tick
record Counts (v : Values) (w first : ℕ) (restarts_at : ℤ) (count last restart one done more next : Node) : Type 0 where
  starts : v 0 count.place ≡ pos 0
  steps : (t : ℕ) → v (suc t) count.place ≡ wrap w (v t next.place)
  lasts : (t : ℕ) → v t last.place ≡ wrap w (pos first)
  restarts : (t : ℕ) → v t restart.place ≡ wrap w restarts_at
  ones : (t : ℕ) → v t one.place ≡ wrap w (pos 1)
  dones : (t : ℕ) → v t done.place ≡ wrap 1 (equality (v t count.place) (v t last.place))
  mores : (t : ℕ) → v t more.place ≡ wrap w (v t count.place +ℤ v t one.place)
  nexts : (t : ℕ) → v t next.place ≡ wrap w (chosen (v t done.place) (v t restart.place) (v t more.place))

-- no tick from `first` on yet: the count is the tick
record IsBefore (first t w : ℕ) (z : ℤ) : Type 0 where
  early : t ≤ first
  value : z ≡ wrap w (pos t)

-- i ticks after first + k * period, with i from 1 to the period
record IsAfter (period first t w : ℕ) (z : ℤ) : Type 0 where
  k : ℕ
  i : ℕ
  some : 1 ≤ i
  most : i ≤ period
  tick : t ≡ first + k * period + i
  value : z ≡ wrap w (pos (first + i) -ℤ pos period)

module _ (v : Values) (w period first : ℕ) (count last restart one done more next : Node) (wide : 1 ≤ w) (positive : 1 ≤ period) (room_first : first < 2 ^ w) (room_period : period ≤ 2 ^ w) (c : Counts v w first (pos (first + 1) -ℤ pos period) count last restart one done more next) where
  done_set : (t : ℕ) → v t count.place ≡ wrap w (pos first) → v t done.place ≡ set_bit
  done_set t e = c.dones t ∙ ap (wrap 1) (equality-same (v t count.place) (v t last.place) (e ∙ sym (c.lasts t))) ∙ wrap-one

  done_clear : (t : ℕ) (z : ℤ) → z ≤ℤ pos first → pos first <ℤ (z +ℤ pos (2 ^ w)) → v t count.place ≡ wrap w z → (z ≡ pos first → ⊥) → v t done.place ≡ pos 0
  done_clear t z below near e ne =
      c.dones t ∙ ap (wrap 1) (equality_apart (v t count.place) (v t last.place) (λ f. ne (wrap_apart w z (pos first) wide below near (sym e ∙ f ∙ c.lasts t)))) ∙ wrap_zero 1 (omega arith)

  again : (t : ℕ) → v t count.place ≡ wrap w (pos first) → v (suc t) count.place ≡ wrap w (pos (first + 1) -ℤ pos period)
  again t e =
      c.steps t ∙ ap (wrap w) (c.nexts t ∙ ap (λ (b : ℤ). wrap w (chosen b (v t restart.place) (v t more.place))) (done_set t e) ∙ ap (wrap w) (c.restarts t) ∙ wrap_twice w _ wide) ∙ wrap_twice w _ wide

  onward : (t : ℕ) (z : ℤ) → z ≤ℤ pos first → pos first <ℤ (z +ℤ pos (2 ^ w)) → v t count.place ≡ wrap w z → (z ≡ pos first → ⊥) → v (suc t) count.place ≡ wrap w (z +ℤ pos 1)
  onward t z below near e ne =
      c.steps t ∙ ap (wrap w) (c.nexts t ∙ ap (λ (b : ℤ). wrap w (chosen b (v t restart.place) (v t more.place))) (done_clear t z below near e ne)
      ∙ ap (wrap w) (c.mores t ∙ ap (λ (a : ℤ). wrap w (a +ℤ v t one.place)) e ∙ ap (λ (a : ℤ). wrap w (wrap w z +ℤ a)) (c.ones t) ∙ wrap-+ w z (pos 1) wide) ∙ wrap_twice w _ wide) ∙ wrap_twice w _ wide

  -- the count at each tick
  counted : (t : ℕ) → IsBefore first t w (v t count.place) ⊎ IsAfter period first t w (v t count.place)
  counted zero = inl (record { early = omega arith; value = c.starts ∙ sym (wrap_zero w wide) })
  counted (suc t) = elim (counted t) [
    | inl b ↦ elim (cases_eq t first) [
      | inl e ↦
          let full : v t count.place ≡ wrap w (pos first) = b.value ∙ ap (λ (n : ℕ). wrap w (pos n)) e in
          inr (record { k = 0; i = 1; some = omega arith; most = positive; tick = omega arith; value = again t full })
      | inr ne ↦
          let h = b.early in
          let sum : pos t +ℤ pos 1 ≡ pos (suc t) = omega (arith, ints) in
          inl (record { early = omega arith; value = onward t (pos t) (omega (arith, ints)) (omega (arith, ints)) b.value (λ f. ne (omega (arith, ints, f))) ∙ ap (wrap w) sum })
    ]
    | inr a ↦ elim (cases_eq a.i period) [
      | inl e ↦
          let full : v t count.place ≡ wrap w (pos first) = a.value ∙ ap (wrap w) (back a.i e) in
          let ticks = a.tick in
          inr (record { k = a.k + 1; i = 1; some = omega arith; most = positive; tick = omega arith; value = again t full })
      | inr ne ↦
          let m = a.most in
          let s = a.some in
          let ticks = a.tick in
          let less : a.i + 1 ≤ period = omega arith in
          let sum : (pos (first + a.i) -ℤ pos period) +ℤ pos 1 ≡ pos (first + (a.i + 1)) -ℤ pos period = omega (arith, ints) in
          inr (record {
            k = a.k;
            i = a.i + 1;
            some = omega arith;
            most = less;
            tick = omega arith;
            value = onward t (pos (first + a.i) -ℤ pos period) (omega (arith, ints)) (omega (arith, ints)) a.value (λ f. differs a.i ne f) ∙ ap (wrap w) sum;
          })
    ]
  ]
    where
      back : (i : ℕ) → i ≡ period → pos (first + i) -ℤ pos period ≡ pos first
      back i e = omega (arith, ints)

      differs : (i : ℕ) → (i ≡ period → ⊥) → pos (first + i) -ℤ pos period ≡ pos first → ⊥
      differs i ne f = omega (arith, ints)

  -- the count up to `first`, and after it
  counted_early : (t : ℕ) → t ≤ first → v t count.place ≡ wrap w (pos t)
  counted_early t h = elim (counted t) [
    | inl b ↦ b.value
    | inr a ↦ let s = a.some in let e = a.tick in absurd (omega arith)
  ]

  counted_again : (k i : ℕ) → 1 ≤ i → i ≤ period → v (first + k * period + i) count.place ≡ wrap w (pos (first + i) -ℤ pos period)
  counted_again k i low high = elim (counted (first + k * period + i)) [
    | inl b ↦ let h = b.early in absurd (omega arith)
    | inr a ↦ a.value ∙ ap (λ (n : ℕ). wrap w (pos (first + n) -ℤ pos period)) (same_step a.k k a.i i a.some a.most low high (sym a.tick))
  ]
    where
      same_step : (k m i j : ℕ) → 1 ≤ i → i ≤ period → 1 ≤ j → j ≤ period → first + k * period + i ≡ first + m * period + j → i ≡ j
      same_step k m i j some most some' most' e = elim (cases_lt k m) [
        | inl less ↦ let f : suc k * period ≤ m * period = mul-le-mul_right period less in absurd (omega arith)
        | inr le ↦ elim (cases_lt m k) [
          | inl less ↦ let f : suc m * period ≤ k * period = mul-le-mul_right period less in absurd (omega arith)
          | inr ge ↦ let same : k * period ≡ m * period = ap (λ (n : ℕ). n * period) (omega arith) in omega arith
        ]
      ]

  -- a tick of the period within i ticks after one is at the end
  tick_at_end : (k m i : ℕ) → 1 ≤ i → i ≤ period → first + k * period + i ≡ first + m * period → i ≡ period
  tick_at_end k m i h l e = elim (cases_eq i period) [
    | inl same ↦ same
    | inr ne ↦ elim (order m k) [
      | inl le ↦ let f : m * period ≤ k * period = mul-le-mul_right period le in absurd (omega arith)
      | inr lt ↦ let f : suc k * period ≤ m * period = mul-le-mul_right period lt in absurd (omega arith)
    ]
  ]
    where
      order : (a b : ℕ) → (a ≤ b) ⊎ (b < a)
      order zero b = inl (omega arith)
      order (suc a) zero = inr (omega arith)
      order (suc a) (suc b) = elim (order a b) [ inl h ↦ inl (omega arith) | inr h ↦ inr (omega arith) ]

  sets : (t : ℕ) → IsTickOf period first t → v t done.place ≡ set_bit
  sets t tick = elim (counted t) [
    | inl b ↦ let h = b.early in let e = tick.1 in let same : t ≡ first = omega arith in done_set t (b.value ∙ ap (λ (n : ℕ). wrap w (pos n)) same)
    | inr a ↦ let end = tick_at_end a.k tick.0 a.i a.some a.most (sym a.tick ∙ tick.1) in done_set t (a.value ∙ ap (wrap w) (back a.i end))
  ]
    where
      back : (i : ℕ) → i ≡ period → pos (first + i) -ℤ pos period ≡ pos first
      back i e = omega (arith, ints)

  clears : (t : ℕ) → (IsTickOf period first t → ⊥) → v t done.place ≡ pos 0
  clears t off = elim (counted t) [
    | inl b ↦ let h = b.early in done_clear t (pos t) (omega (arith, ints)) (omega (arith, ints)) b.value (λ f. let same : t ≡ first = omega (arith, ints, f) in off (0, omega arith))
    | inr a ↦
        let m = a.most in
        let s = a.some in
        done_clear t (pos (first + a.i) -ℤ pos period) (omega (arith, ints)) (omega (arith, ints)) a.value
        (λ f. let same : a.i ≡ period = omega (arith, ints, f) in let ticks = a.tick in off (a.k + 1, omega arith))
  ]

-- ---- in a net

-- a node that control adds is control
pub control_added : {old new : NetView} {node : Node} {width : ℕ} {item : Item} → Adds old new node width item → old.group ≡ 0 → is_input (Some item) ≡ false → IsOfControl new.cells node.place
control_added {old} {new} {node} {width} {item} a zero_group plain = record {
  cell = _;
  there = cell_of_added a;
  control = by_input (is_input (Some item)) plain;
}
  where
    by_input : (b : Bool) → b ≡ false → (eqb old.group 0 && not b) ≡ true
    by_input b e = ap (λ (c : Bool). eqb old.group 0 && not c) e ∙ nameless_zero old.group zero_group

pub control_then : {old new : NetView} {node : Node} {width place : ℕ} {item : Item} → IsOfControl old.cells place → Adds old new node width item → IsOfControl new.cells place
control_then {old} {new} {node} {width} {place} is a = IsOfControl-later old.cells new.cells place (Extends-adds a) is

-- other cells stay as they are
pub there_then : {old new : NetView} {node : Node} {width : ℕ} {item : Item} {cell : Cell} (place : ℕ) → Adds old new node width item → slice_get old.cells place ≡ Some cell → slice_get new.cells place ≡ Some cell
there_then {old} {new} {node} {width} {item} {cell} place a there = subst (λ (m : List Cell). slice_get m place ≡ Some cell) (sym a.cells) (slice_get-append_left old.cells _ place cell there)

pub there_bound : {old new : NetView} {register next : Node} {cell : Cell} (place : ℕ) → IsBoundTo old new register next → (place ≡ register.place → ⊥) → slice_get old.cells place ≡ Some cell → slice_get new.cells place ≡ Some cell
there_bound {old} {new} {register} {next} {cell} place b other there = subst (λ (m : List Cell). slice_get m place ≡ Some cell) (sym b.cells) (slice_get-set_other old.cells register.place place _ other ∙ there)

-- the circuit, node by node
pub count_circuit : {n0 n1 n2 n3 n4 n5 n6 n7 n8 : NetView} {w period first : ℕ} {count last restart one done more next : Node} → 1 ≤ w → 1 ≤ period → first < 2 ^ w → period ≤ 2 ^ w → n0.group ≡ 0
    → AddsNext n0 n1 0 Control w count → Adds n1 n2 last w (Constant (wrap w (pos first))) → Adds n2 n3 restart w (Constant (wrap w (pos (first + 1) -ℤ pos period))) → Adds n3 n4 one w (Constant (wrap w (pos 1))) → Adds n4 n5 done 1 (Equal count last)
    → Adds n5 n6 more w (Add count one) → Adds n6 n7 next w (Mux done restart more) → IsBoundTo n7 n8 count next → IsCounter n0 n8 (IsTickOf period first) done × IsCountOf n8.cells period first w count
count_circuit {n0} {n1} {n2} {n3} {n4} {n5} {n6} {n7} {n8} {w} {period} {first} {count} {last} {restart} {one} {done} {more} {next} wide positive room_first room_period g0 a1 a2 a3 a4 a5 a6 a7 b =
    let own : Cell = record { group = n0.group; name = Some (name_of 0 Control a1.number); width = w; item = None } in
    let g1 : n1.group ≡ 0 = a1.adds.group ∙ g0 in
    let g2 : n2.group ≡ 0 = a2.group ∙ g1 in
    let g3 : n3.group ≡ 0 = a3.group ∙ g2 in
    let g4 : n4.group ≡ 0 = a4.group ∙ g3 in
    let g5 : n5.group ≡ 0 = a5.group ∙ g4 in
    let g6 : n6.group ≡ 0 = a6.group ∙ g5 in
    let count1 : IsOfControl n1.cells count.place = record { cell = _; there = cell_of_register a1.adds; control = refl } in
    let count4 : IsOfControl n4.cells count.place = control_then (control_then (control_then count1 a2) a3) a4 in
    let last4 : IsOfControl n4.cells last.place = control_then (control_then (control_added a2 g1 refl) a3) a4 in
    let one5 : IsOfControl n5.cells one.place = control_then (control_added a4 g3 refl) a5 in
    let restart6 : IsOfControl n6.cells restart.place = control_then (control_then (control_then (control_added a3 g2 refl) a4) a5) a6 in
    let done6 : IsOfControl n6.cells done.place = control_then (control_added a5 g4 refl) a6 in
    let p1 : GrowsBut n0 n1 count own = GrowsBut-register a1.adds in
    let p2 : GrowsBut n0 n2 count own = GrowsBut-adds p1 a2 refl (λ z. tt) in
    let p3 : GrowsBut n0 n3 count own = GrowsBut-adds p2 a3 refl (λ z. tt) in
    let p4 : GrowsBut n0 n4 count own = GrowsBut-adds p3 a4 refl (λ z. tt) in
    let p5 : GrowsBut n0 n5 count own = GrowsBut-adds p4 a5 refl (λ z. (count4, last4)) in
    let p6 : GrowsBut n0 n6 count own = GrowsBut-adds p5 a6 refl (λ z. (control_then count4 a5, one5)) in
    let p7 : GrowsBut n0 n7 count own = GrowsBut-adds p6 a7 refl (λ z. (done6, restart6, control_added a6 g5 refl)) in
    let grows : Grows n0 n8 = Grows-bind (named_control own (name_of 0 Control a1.number) refl (sym g0) refl) p7 wide b (λ is. control_added a7 g6 refl) in
    let x7 : Extends n7.cells n8.cells = Extends-grown p7 wide b in
    let own_inside : count.place < length n1.cells = slice_get_within n1.cells count.place _ (cell_of_register a1.adds) in
    let longer : length n1.cells ≤ length n4.cells = let l2 = (Extends-adds a2).longer in let l3 = (Extends-adds a3).longer in let l4 = (Extends-adds a4).longer in omega arith in
    let there = there_bound done.place b (λ same. let at = a5.place in absurd (omega arith)) (there_then done.place a7 (there_then done.place a6 (cell_of_added a5))) in (
      record {
        grows = grows;
        shape = record { cell = _; there = there; same_control = nameless_zero n4.group g4; same_width = refl };
        nameless = refl;
        bit_of = record {
          within = slice_get_within n8.cells done.place _ there;
          control = record { cell = _; there = there; control = nameless_zero n4.group g4 };
          sets = λ cut law x v r. sets v w period first count last restart one done more next wide positive room_first room_period (counts p7 x7 cut law x v r);
          clears = λ cut law x v r. clears v w period first count last restart one done more next wide positive room_first room_period (counts p7 x7 cut law x v r);
        };
        names = record {
          free = λ name other f. free_bind (GrowsBut-unbound p7) b name
              (free_adds a7 name (free_adds a6 name (free_adds a5 name (free_adds a4 name (free_adds a3 name (free_adds a2 name (free_register a1.adds name (λ e. other (ap (λ (m : Name). m.kind) e)) f)))))));
        };
        adders = SameAdders-trans (SameAdders-register a1.adds) (SameAdders-trans (SameAdders-plain a2 refl) (SameAdders-trans (SameAdders-plain a3 refl) (SameAdders-trans (SameAdders-plain a4 refl)
            (SameAdders-trans (SameAdders-plain a5 refl) (SameAdders-trans (SameAdders-control g5 a6) (SameAdders-trans (SameAdders-plain a7 refl) (SameAdders-bind (GrowsBut-unbound p7) b)))))));
        named = SameNamed-trans (SameNamed-register refl refl a1.adds) (SameNamed-trans (SameNamed-adds a2) (SameNamed-trans (SameNamed-adds a3) (SameNamed-trans (SameNamed-adds a4)
            (SameNamed-trans (SameNamed-adds a5) (SameNamed-trans (SameNamed-adds a6) (SameNamed-trans (SameNamed-adds a7) (SameNamed-bind (GrowsBut-unbound p7) b)))))));
        linear = KeepsShapes-trans (KeepsShapes-register a1.adds) (KeepsShapes-trans (KeepsShapes-control g1 a2) (KeepsShapes-trans (KeepsShapes-control g2 a3) (KeepsShapes-trans (KeepsShapes-control g3 a4)
            (KeepsShapes-trans (KeepsShapes-control g4 a5) (KeepsShapes-trans (KeepsShapes-control g5 a6) (KeepsShapes-trans (KeepsShapes-control g6 a7) (KeepsShapes-bind x7 (GrowsBut-unbound p7) b)))))));
      },
      record {
        within = slice_get_within n8.cells count.place _ (cell_of_grown p7 b);
        control = record { cell = _; there = cell_of_grown p7 b; control = refl };
        early = λ cut law x v r. counted_early v w period first count last restart one done more next wide positive room_first room_period (counts p7 x7 cut law x v r);
        again = λ cut law x v r. counted_again v w period first count last restart one done more next wide positive room_first room_period (counts p7 x7 cut law x v r);
      },
    )
  where
    counts : GrowsBut n0 n7 count (record { group = n0.group; name = Some (name_of 0 Control a1.number); width = w; item = None }) → Extends n7.cells n8.cells → (cut : Cut) → IsCut cut → (x : ℕ → ℤ) (v : Values) → IsRun cut n8.cells x v → Counts v w first (pos (first + 1) -ℤ pos period) count last restart one done more next
    counts p7 x7 cut law x v r =
        let g1 : n1.group ≡ 0 = a1.adds.group ∙ g0 in
        let g2 : n2.group ≡ 0 = a2.group ∙ g1 in
        let g3 : n3.group ≡ 0 = a3.group ∙ g2 in
        let g4 : n4.group ≡ 0 = a4.group ∙ g3 in
        let g5 : n5.group ≡ 0 = a5.group ∙ g4 in
        let g6 : n6.group ≡ 0 = a6.group ∙ g5 in
        let r7 = x7.runs cut law x v r in
        let r6 = (Extends-adds a7).runs cut law x v r7 in
        let r5 = (Extends-adds a6).runs cut law x v r6 in
        let r4 = (Extends-adds a5).runs cut law x v r5 in
        let r3 = (Extends-adds a4).runs cut law x v r4 in
        let r2 = (Extends-adds a3).runs cut law x v r3 in
        let register = r.each count.place _ (cell_of_grown p7 b) in
        record {
          starts = register.0;
          steps = λ t. register.1 t ∙ law.controls w _;
          lasts = λ t. r2.each last.place _ (cell_of_added a2) t ∙ constant_control cut law _ w _ wide (nameless_zero n1.group g1);
          restarts = λ t. r3.each restart.place _ (cell_of_added a3) t ∙ constant_control cut law _ w _ wide (nameless_zero n2.group g2);
          ones = λ t. r4.each one.place _ (cell_of_added a4) t ∙ constant_control cut law _ w _ wide (nameless_zero n3.group g3);
          dones = λ t. r5.each done.place _ (cell_of_added a5) t ∙ as_control cut law _ 1 _ (nameless_zero n4.group g4);
          mores = λ t. r6.each more.place _ (cell_of_added a6) t ∙ as_control cut law _ w _ (nameless_zero n5.group g5);
          nexts = λ t. r7.each next.place _ (cell_of_added a7) t ∙ as_control cut law _ w _ (nameless_zero n6.group g6);
        }

-- the register that counts, when it has its next
pub AddsCount-circuit : {n0 n1 n2 n3 n4 n5 n6 n7 n8 : NetView} {w w5 : ℕ} {count last restart one done more next : Node} {i2 i3 i4 i5 i6 i7 : Item} (most : ℕ) → IsBitsFor most w → n0.group ≡ 0 → AddsNext n0 n1 0 Control w count → Adds n1 n2 last w i2 → Adds n2 n3 restart w i3 → Adds n3 n4 one w i4 → Adds n4 n5 done w5 i5
    → Adds n5 n6 more w i6 → Adds n6 n7 next w i7 → IsBoundTo n7 n8 count next → AddsCount n0.cells n8.cells most
AddsCount-circuit {n0} {n1} {n2} {n3} {n4} {n5} {n6} {n7} {n8} {w} {w5} {count} {last} {restart} {one} {done} {more} {next} most bits g0 a1 a2 a3 a4 a5 a6 a7 b =
    let there7 = there_then count.place a7 (there_then count.place a6 (there_then count.place a5 (there_then count.place a4 (there_then count.place a3 (there_then count.place a2 (cell_of_register a1.adds)))))) in
    let is = cell_at-is n7.cells count.place _ there7 in
    let inside = slice_get_within n7.cells count.place _ there7 in
    record {
      place = count.place;
      added = let at = a1.adds.place in omega arith;
      number = a1.number;
      width = w;
      register = record {
        cell = _;
        there = cell_of_bound (record { inside = inside; nextless = ap (λ (c : Cell). c.item) is }) b;
        of_group = ap (λ (c : Cell). c.group) is ∙ g0;
        named = ap (λ (c : Cell). c.name) is;
        wide = ap (λ (c : Cell). c.width) is;
        registered = (next, refl);
      };
      least = bits;
    }

-- ---- in a net whose group is another

-- nodes that were added as control are added to a net of any group
pub IsCounter-regroup : {old mid new last : NetView} {ticks : ℕ → Type 0} {bit : Node} {group : ℕ} → group ≡ old.group → (let alone : NetView = record { cells = old.cells; group = 0 } in mid ≡ alone) → (let back : NetView = record { cells = new.cells; group = group } in last ≡ back) → IsCounter mid new ticks bit → IsCounter old last ticks bit
IsCounter-regroup {old} {mid} {new} {last} {ticks} {bit} {group} same first put_back p =
    let alone : NetView = record { cells = old.cells; group = 0 } in
    let q : IsCounter alone new ticks bit = subst (λ (m : NetView). IsCounter m new ticks bit) first p in
    let back : NetView = record { cells = new.cells; group = old.group } in
    let r : IsCounter old back ticks bit = record {
      grows = Grows-regroup q.grows;
      shape = q.shape;
      nameless = q.nameless;
      bit_of = q.bit_of;
      names = q.names;
      adders = q.adders;
      named = q.named;
      linear = q.linear;
    } in
    subst (λ (m : NetView). IsCounter old m ticks bit) (sym (put_back ∙ ap (λ (g : ℕ). let n : NetView = record { cells = new.cells; group = g } in n) same)) r
