-- A control register that counts the values that were taken, modulo a count, and the bits of its numbers.
use Rattle.net_graph.proofs.CellLemmas.{cell_at-is}
use Rattle.net_graph.specs.declared.cell.Item.{Item}
use Rattle.std.proofs.Common.{◌≡◌, ℕ, zero, suc, ◌+◌, ◌-◌, ◌*◌, ◌/◌, ◌%◌, ◌^◌, ◌<◌, ◌≤◌, List, [], ◌∷◌, ◌++◌, length, refl, sym, ◌∙◌, ap, arith, Some, None, ◌⊎◌, inl, inr, subst, ℤ, pos, negsuc, ◌+ℤ◌, Bool, true}
use Rattle.std.proofs.lemmas.Bool.{cases_eq, cases_lt}
use Rattle.std.proofs.lemmas.Int.{ints}
use Rattle.std.proofs.lemmas.Option.{slice_get_within}
use native.Mathlib.Nat.{add-mul-mod_self_right, div-add-mod', mod-eq_of_lt, mod-lt}
use Rattle.mr_values.specs.Width.{wrap, set_bit, chosen}
use Rattle.mr_values.proofs.WidthLemmas.{wrap_zero}
use Rattle.net_graph.specs.declared.cell.Cell.{Cell}
use Rattle.net_graph.specs.declared.cell.Node.{Node}
use Rattle.net_graph.specs.declared.cell.Item.TheVariants.{Constant, Add, Mux, Equal}
use Rattle.net_graph.specs.declared.name.Name.{Name}
use Rattle.net_graph.specs.declared.name.NameKind.TheVariants.{Control}
use Rattle.net_graph.specs.Cells.{NetView}
use Rattle.net_graph.specs.Cut.{Cut, IsCut}
use Rattle.net_graph.specs.Run.{Values, IsRun, HasShape, equality}
use Rattle.net_graph.specs.Control.{IsOfControl}
use Rattle.net_graph.specs.Grow.{Extends, Grows, Adds, IsBoundTo}
use Rattle.net_graph.proofs.Lists.{slice_get_push_cases}
use Rattle.net_graph.proofs.GroupLemmas.{nameless_zero}
use Rattle.net_graph.proofs.NetLemmas.{Extends-adds, cell_of_added, cell_of_register, Extends-bind}
use Rattle.net_graph.proofs.GrowLemmas.{IsOfControl-later, named_control, Grows-trans, Grows-regroup, Grows-adds, GrowsBut, GrowsBut-register, GrowsBut-adds, GrowsBut-unbound, Grows-bind, Extends-grown, cell_of_grown}
use Rattle.pipeline_balance.specs.Numbered.{AddsNext, LeavesFree, name_of}
use Rattle.pipeline_balance.specs.Gate.{IsTickOf, IsBitOf, HasTaken, IsCounter}
use Rattle.pipeline_balance.specs.Phase.{IsTickOfPhase, IsIndex, IsIndexOf, IsPhases}
use Rattle.pipeline_balance.proofs.WrapLemmas.{wrap-+, wrap_twice, wrap_apart, wrap-one, equality-same, equality_apart}
use Rattle.pipeline_balance.specs.Costs.{SameAdders, SameNamed}
use Rattle.pipeline_balance.specs.Shapes.{KeepsShapes}
use Rattle.pipeline_balance.proofs.CostLemmas.{SameAdders-trans, SameAdders-register, SameAdders-plain, SameAdders-control, SameAdders-bind, SameNamed-trans, SameNamed-adds, SameNamed-register, SameNamed-bind}
use Rattle.pipeline_balance.proofs.NumberedLemmas.{free_register, free_adds, free_bind, LeavesFree-trans}
use Rattle.pipeline_balance.proofs.ShapeLemmas.{KeepsShapes-trans, KeepsShapes-control, KeepsShapes-register, KeepsShapes-bind}
use Rattle.pipeline_balance.proofs.CounterLemmas.{as_control, constant_control, control_added, control_then, wrap-set_bit, there_then}
use Rattle.pipeline_balance.proofs.TakenLemmas.{HasTaken-at, taken, off_tick, tick_is, IsBitOf-later}

-- the number after n modulo count
mod_last : (n count : ℕ) → n % count + 1 ≡ count → suc n % count ≡ 0
mod_last n count e =
    let whole = div-add-mod' n count in
    let more : suc n ≡ 0 + (n / count + 1) * count = omega (arith, whole) in
    ap (λ (m : ℕ). m % count) more ∙ add-mul-mod_self_right 0 (n / count + 1) count ∙ mod-eq_of_lt (omega arith)

mod_more : (n count : ℕ) → n % count + 1 < count → suc n % count ≡ n % count + 1
mod_more n count less =
    let whole = div-add-mod' n count in
    let more : suc n ≡ (n % count + 1) + (n / count) * count = omega (arith, whole) in
    ap (λ (m : ℕ). m % count) more ∙ add-mul-mod_self_right (n % count + 1) (n / count) count ∙ mod-eq_of_lt less

-- numbers below 2 ^ w that wrap alike are one
pub wrap_differs : (w a b : ℕ) → 1 ≤ w → a < 2 ^ w → b < 2 ^ w → wrap w (pos a) ≡ wrap w (pos b) → a ≡ b
wrap_differs w a b wide small small' e = elim (cases_lt a b) [
  | inl less ↦ let same = wrap_apart w (pos a) (pos b) wide (omega (arith, ints)) (omega (arith, ints)) e in omega (arith, ints, same)
  | inr le ↦ let same = wrap_apart w (pos b) (pos a) wide (omega (arith, ints)) (omega (arith, ints)) (sym e) in omega (arith, ints, same)
]

-- the values of the nodes of the index at every tick
record Numbers (v : Values) (w count : ℕ) (on index last none one done more next held : Node) : Type 0 where
  starts : v 0 index.place ≡ pos 0
  steps : (t : ℕ) → v (suc t) index.place ≡ wrap w (v t held.place)
  lasts : (t : ℕ) → v t last.place ≡ wrap w (pos (count - 1))
  nones : (t : ℕ) → v t none.place ≡ wrap w (pos 0)
  ones : (t : ℕ) → v t one.place ≡ wrap w (pos 1)
  dones : (t : ℕ) → v t done.place ≡ wrap 1 (equality (v t index.place) (v t last.place))
  mores : (t : ℕ) → v t more.place ≡ wrap w (v t index.place +ℤ v t one.place)
  nexts : (t : ℕ) → v t next.place ≡ wrap w (chosen (v t done.place) (v t none.place) (v t more.place))
  helds : (t : ℕ) → v t held.place ≡ wrap w (chosen (v t on.place) (v t next.place) (v t index.place))

module _ (v : Values) (w period first count : ℕ) (on index last none one done more next held : Node) (wide : 1 ≤ w) (positive : 1 ≤ period) (some : 1 ≤ count) (room : count ≤ 2 ^ w) (c : Numbers v w count on index last none one done more next held)
    (sets : (t : ℕ) → IsTickOf period first t → v t on.place ≡ set_bit) (clears : (t : ℕ) → (IsTickOf period first t → ⊥) → v t on.place ≡ pos 0) where
  -- the number after one below the count
  next_is : (t n : ℕ) → n < count → v t index.place ≡ wrap w (pos n) → (m : ℕ) → ((n + 1 ≡ count) × (m ≡ 0)) ⊎ ((n + 1 < count) × (m ≡ n + 1)) → v t next.place ≡ wrap w (pos m)
  next_is t n less e m way = elim way [
    | inl end ↦
        let full : v t index.place ≡ v t last.place = e ∙ ap (λ (k : ℕ). wrap w (pos k)) (omega (arith, end.0)) ∙ sym (c.lasts t) in
        let set : v t done.place ≡ set_bit = c.dones t ∙ ap (wrap 1) (equality-same (v t index.place) (v t last.place) full) ∙ wrap-one in
        c.nexts t ∙ ap (λ (b : ℤ). wrap w (chosen b (v t none.place) (v t more.place))) set ∙ ap (wrap w) (c.nones t) ∙ wrap_twice w (pos 0) wide ∙ ap (λ (k : ℕ). wrap w (pos k)) (sym end.1)
    | inr on_way ↦
        let apart : v t index.place ≡ v t last.place → ⊥ = λ f. let g : wrap w (pos n) ≡ wrap w (pos (count - 1)) = sym e ∙ f ∙ c.lasts t in let same = wrap_differs w n (count - 1) wide (omega arith) (omega arith) g in let h = on_way.0 in omega arith in
        let clear : v t done.place ≡ pos 0 = c.dones t ∙ ap (wrap 1) (equality_apart (v t index.place) (v t last.place) apart) ∙ wrap_zero 1 (omega arith) in
        let sum : pos n +ℤ pos 1 ≡ pos (n + 1) = omega (arith, ints) in
        let more_is : v t more.place ≡ wrap w (pos (n + 1)) = c.mores t ∙ ap (λ (a : ℤ). wrap w (a +ℤ v t one.place)) e ∙ ap (λ (a : ℤ). wrap w (wrap w (pos n) +ℤ a)) (c.ones t) ∙ wrap-+ w (pos n) (pos 1) wide ∙ ap (wrap w) sum in
        c.nexts t ∙ ap (λ (b : ℤ). wrap w (chosen b (v t none.place) (v t more.place))) clear ∙ ap (wrap w) more_is ∙ wrap_twice w _ wide ∙ ap (λ (k : ℕ). wrap w (pos k)) (sym on_way.1)
  ]

  -- what the register takes is wrapped already
  index_step : (t n m : ℕ) → v t index.place ≡ wrap w (pos n) → v t next.place ≡ wrap w (pos m) → v (suc t) index.place ≡ chosen (v t on.place) (v t next.place) (v t index.place)
  index_step t n m e f = c.steps t ∙ ap (wrap w) (c.helds t ∙ kept (v t on.place)) ∙ kept (v t on.place)
    where
      kept : (b : ℤ) → wrap w (chosen b (v t next.place) (v t index.place)) ≡ chosen b (v t next.place) (v t index.place)
      kept (pos zero) = ap (wrap w) e ∙ wrap_twice w (pos n) wide ∙ sym e
      kept (pos (suc b)) = ap (wrap w) f ∙ wrap_twice w (pos m) wide ∙ sym f
      kept (negsuc b) = ap (wrap w) f ∙ wrap_twice w (pos m) wide ∙ sym f

  -- the number after n modulo count, in both ways
  way_of : (n : ℕ) → ((n % count + 1 ≡ count) × (suc n % count ≡ 0)) ⊎ ((n % count + 1 < count) × (suc n % count ≡ n % count + 1))
  way_of n = elim (cases_eq (n % count + 1) count) [
    | inl e ↦ inl (e, mod_last n count e)
    | inr ne ↦ let small : n % count < count = mod-lt n some in let less : n % count + 1 < count = omega arith in inr (less, mod_more n count less)
  ]

  after : (t n : ℕ) → v t index.place ≡ wrap w (pos (n % count)) → v t next.place ≡ wrap w (pos (suc n % count))
  after t n e = next_is t (n % count) (mod-lt n some) e (suc n % count) (way_of n)

  -- the number of values that were taken, modulo the count
  index_is : (t n : ℕ) → HasTaken period first n t → v t index.place ≡ wrap w (pos (n % count))
  index_is zero zero h = c.starts ∙ sym (wrap_zero w wide) ∙ ap (λ (k : ℕ). wrap w (pos k)) (sym (mod-eq_of_lt some))
  index_is zero (suc k) h = let late = h.0 in absurd (omega arith)
  index_is (suc t) zero h =
      let before : HasTaken period first zero t = omega arith in
      let e = index_is t zero before in
      index_step t (0 % count) (1 % count) e (after t 0 e) ∙ ap (λ (b : ℤ). chosen b (v t next.place) (v t index.place)) (clears t (λ tick. let is = tick.1 in omega arith)) ∙ e
  index_is (suc t) (suc k) h = let late = h.0 in let until = h.1 in elim (cases_eq t (first + k * period)) [
    | inl e ↦
        let at : HasTaken period first k t = subst (λ (s : ℕ). HasTaken period first k s) (sym e) (HasTaken-at period first k positive) in
        let is = index_is t k at in
        index_step t (k % count) (suc k % count) is (after t k is) ∙ ap (λ (b : ℤ). chosen b (v t next.place) (v t index.place)) (sets t (k, e)) ∙ after t k is
    | inr ne ↦
        let before : HasTaken period first (suc k) t = (omega arith, omega arith) in
        let is = index_is t (suc k) before in
        index_step t (suc k % count) (suc (suc k) % count) is (after t (suc k) is)
        ∙ ap (λ (b : ℤ). chosen b (v t next.place) (v t index.place)) (clears t (off_tick period first k t (omega arith) (omega arith))) ∙ is
  ]

-- ---- the index in a net

pub IsIndex-circuit : {n0 n1 n2 n3 n4 n5 n6 n7 n8 n9 : NetView} {w count : ℕ} {on index last none one done more next held : Node} (period first : ℕ) → 1 ≤ w → 1 ≤ period → 1 ≤ count → count ≤ 2 ^ w → n0.group ≡ 0 → IsOfControl n0.cells on.place → IsBitOf n0.cells (IsTickOf period first) on
    → AddsNext n0 n1 0 Control w index → Adds n1 n2 last w (Constant (wrap w (pos (count - 1)))) → Adds n2 n3 none w (Constant (wrap w (pos 0))) → Adds n3 n4 one w (Constant (wrap w (pos 1))) → Adds n4 n5 done 1 (Equal index last)
    → Adds n5 n6 more w (Add index one) → Adds n6 n7 next w (Mux done none more) → Adds n7 n8 held w (Mux on next index) → IsBoundTo n8 n9 index held → IsIndex n0 n9 period first count w index
IsIndex-circuit {n0} {n1} {n2} {n3} {n4} {n5} {n6} {n7} {n8} {n9} {w} {count} {on} {index} {last} {none} {one} {done} {more} {next} {held} period first wide positive some room g0 on0 gate a1 a2 a3 a4 a5 a6 a7 a8 b =
    let own : Cell = record { group = n0.group; name = Some (name_of 0 Control a1.number); width = w; item = None } in
    let g1 : n1.group ≡ 0 = a1.adds.group ∙ g0 in
    let g2 : n2.group ≡ 0 = a2.group ∙ g1 in
    let g3 : n3.group ≡ 0 = a3.group ∙ g2 in
    let g4 : n4.group ≡ 0 = a4.group ∙ g3 in
    let g5 : n5.group ≡ 0 = a5.group ∙ g4 in
    let g6 : n6.group ≡ 0 = a6.group ∙ g5 in
    let g7 : n7.group ≡ 0 = a7.group ∙ g6 in
    let p1 : GrowsBut n0 n1 index own = GrowsBut-register a1.adds in
    let on1 : IsOfControl n1.cells on.place = IsOfControl-later n0.cells n1.cells on.place p1.extends on0 in
    let index1 : IsOfControl n1.cells index.place = record { cell = _; there = cell_of_register a1.adds; control = refl } in
    let index4 : IsOfControl n4.cells index.place = control_then (control_then (control_then index1 a2) a3) a4 in
    let index7 : IsOfControl n7.cells index.place = control_then (control_then (control_then index4 a5) a6) a7 in
    let on7 : IsOfControl n7.cells on.place = control_then (control_then (control_then (control_then (control_then (control_then on1 a2) a3) a4) a5) a6) a7 in
    let last4 : IsOfControl n4.cells last.place = control_then (control_then (control_added a2 g1 refl) a3) a4 in
    let one5 : IsOfControl n5.cells one.place = control_then (control_added a4 g3 refl) a5 in
    let none6 : IsOfControl n6.cells none.place = control_then (control_then (control_then (control_added a3 g2 refl) a4) a5) a6 in
    let done6 : IsOfControl n6.cells done.place = control_then (control_added a5 g4 refl) a6 in
    let p2 : GrowsBut n0 n2 index own = GrowsBut-adds p1 a2 refl (λ z. tt) in
    let p3 : GrowsBut n0 n3 index own = GrowsBut-adds p2 a3 refl (λ z. tt) in
    let p4 : GrowsBut n0 n4 index own = GrowsBut-adds p3 a4 refl (λ z. tt) in
    let p5 : GrowsBut n0 n5 index own = GrowsBut-adds p4 a5 refl (λ z. (index4, last4)) in
    let p6 : GrowsBut n0 n6 index own = GrowsBut-adds p5 a6 refl (λ z. (control_then index4 a5, one5)) in
    let p7 : GrowsBut n0 n7 index own = GrowsBut-adds p6 a7 refl (λ z. (done6, none6, control_added a6 g5 refl)) in
    let p8 : GrowsBut n0 n8 index own = GrowsBut-adds p7 a8 refl (λ z. (on7, control_added a7 g6 refl, index7)) in
    let grows : Grows n0 n9 = Grows-bind (named_control own (name_of 0 Control a1.number) refl (sym g0) refl) p8 wide b (λ is. control_added a8 g7 refl) in
    let x8 : Extends n8.cells n9.cells = Extends-grown p8 wide b in
    record {
      grows = grows;
      index_of = record {
        within = slice_get_within n9.cells index.place _ (cell_of_grown p8 b);
        control = record { cell = _; there = cell_of_grown p8 b; control = refl };
        holds = λ cut law x v r.
            index_is v w period first count on index last none one done more next held wide positive some room (numbers p8 x8 cut law x v r)
            (gate.sets cut law x v (grows.extends.runs cut law x v r)) (gate.clears cut law x v (grows.extends.runs cut law x v r));
      };
      names = record {
        free = λ name other f. free_bind (GrowsBut-unbound p8) b name
            (free_adds a8 name (free_adds a7 name (free_adds a6 name (free_adds a5 name (free_adds a4 name (free_adds a3 name (free_adds a2 name (free_register a1.adds name (λ e. other (ap (λ (m : Name). m.kind) e)) f))))))));
      };
      adders = SameAdders-trans (SameAdders-register a1.adds) (SameAdders-trans (SameAdders-plain a2 refl) (SameAdders-trans (SameAdders-plain a3 refl) (SameAdders-trans (SameAdders-plain a4 refl)
          (SameAdders-trans (SameAdders-plain a5 refl) (SameAdders-trans (SameAdders-control g5 a6) (SameAdders-trans (SameAdders-plain a7 refl) (SameAdders-trans (SameAdders-plain a8 refl) (SameAdders-bind (GrowsBut-unbound p8) b))))))));
      named = SameNamed-trans (SameNamed-register refl refl a1.adds) (SameNamed-trans (SameNamed-adds a2) (SameNamed-trans (SameNamed-adds a3) (SameNamed-trans (SameNamed-adds a4)
          (SameNamed-trans (SameNamed-adds a5) (SameNamed-trans (SameNamed-adds a6) (SameNamed-trans (SameNamed-adds a7) (SameNamed-trans (SameNamed-adds a8) (SameNamed-bind (GrowsBut-unbound p8) b))))))));
      linear = KeepsShapes-trans (KeepsShapes-register a1.adds) (KeepsShapes-trans (KeepsShapes-control g1 a2) (KeepsShapes-trans (KeepsShapes-control g2 a3) (KeepsShapes-trans (KeepsShapes-control g3 a4)
          (KeepsShapes-trans (KeepsShapes-control g4 a5) (KeepsShapes-trans (KeepsShapes-control g5 a6) (KeepsShapes-trans (KeepsShapes-control g6 a7) (KeepsShapes-trans (KeepsShapes-control g7 a8) (KeepsShapes-bind x8 (GrowsBut-unbound p8) b))))))));
    }
  where
    numbers : GrowsBut n0 n8 index (record { group = n0.group; name = Some (name_of 0 Control a1.number); width = w; item = None }) → Extends n8.cells n9.cells → (cut : Cut) → IsCut cut → (x : ℕ → ℤ) (v : Values) → IsRun cut n9.cells x v → Numbers v w count on index last none one done more next held
    numbers p8 x8 cut law x v r =
        let g1 : n1.group ≡ 0 = a1.adds.group ∙ g0 in
        let g2 : n2.group ≡ 0 = a2.group ∙ g1 in
        let g3 : n3.group ≡ 0 = a3.group ∙ g2 in
        let g4 : n4.group ≡ 0 = a4.group ∙ g3 in
        let g5 : n5.group ≡ 0 = a5.group ∙ g4 in
        let g6 : n6.group ≡ 0 = a6.group ∙ g5 in
        let g7 : n7.group ≡ 0 = a7.group ∙ g6 in
        let r8 = x8.runs cut law x v r in
        let r7 = (Extends-adds a8).runs cut law x v r8 in
        let r6 = (Extends-adds a7).runs cut law x v r7 in
        let r5 = (Extends-adds a6).runs cut law x v r6 in
        let r4 = (Extends-adds a5).runs cut law x v r5 in
        let r3 = (Extends-adds a4).runs cut law x v r4 in
        let r2 = (Extends-adds a3).runs cut law x v r3 in
        let register = r.each index.place _ (cell_of_grown p8 b) in
        record {
          starts = register.0;
          steps = λ t. register.1 t ∙ law.controls w _;
          lasts = λ t. r2.each last.place _ (cell_of_added a2) t ∙ constant_control cut law _ w _ wide (nameless_zero n1.group g1);
          nones = λ t. r3.each none.place _ (cell_of_added a3) t ∙ constant_control cut law _ w _ wide (nameless_zero n2.group g2);
          ones = λ t. r4.each one.place _ (cell_of_added a4) t ∙ constant_control cut law _ w _ wide (nameless_zero n3.group g3);
          dones = λ t. r5.each done.place _ (cell_of_added a5) t ∙ as_control cut law _ 1 _ (nameless_zero n4.group g4);
          mores = λ t. r6.each more.place _ (cell_of_added a6) t ∙ as_control cut law _ w _ (nameless_zero n5.group g5);
          nexts = λ t. r7.each next.place _ (cell_of_added a7) t ∙ as_control cut law _ w _ (nameless_zero n6.group g6);
          helds = λ t. r8.each held.place _ (cell_of_added a8) t ∙ as_control cut law _ w _ (nameless_zero n7.group g7);
        }

pub IsIndexOf-later : {old new : List Cell} {period first count width : ℕ} {index : Node} → IsIndexOf old period first count width index → Extends old new → IsIndexOf new period first count width index
IsIndexOf-later {old} {new} {period} {first} {count} {width} {index} is e = record {
  within = let l = e.longer in let w = is.within in omega arith;
  control = IsOfControl-later old new index.place e is.control;
  holds = λ cut law x v r. is.holds cut law x v (e.runs cut law x v r);
}

-- ---- the bit of a phase

-- a tick is one of the period, or none
is_tick : (period first t : ℕ) → 1 ≤ period → IsTickOf period first t ⊎ (IsTickOf period first t → ⊥)
is_tick period first t positive = let before = taken period first t positive in elim (cases_eq t (first + before.0 * period)) [
  | inl e ↦ inl (before.0, e)
  | inr ne ↦ inr (λ tick. ne (tick_is period first before.0 t before.1 tick))
]

-- the values of the nodes of a phase's bit
record Chooses (v : Values) (w phase : ℕ) (on index number same clear bit : Node) : Type 0 where
  numbers : (t : ℕ) → v t number.place ≡ wrap w (pos phase)
  sames : (t : ℕ) → v t same.place ≡ wrap 1 (equality (v t index.place) (v t number.place))
  clears : (t : ℕ) → v t clear.place ≡ wrap 1 (pos 0)
  bits : (t : ℕ) → v t bit.place ≡ wrap 1 (chosen (v t on.place) (v t same.place) (v t clear.place))

module _ (v : Values) (w period first count phase : ℕ) (on index number same clear bit : Node) (wide : 1 ≤ w) (positive : 1 ≤ period) (below : phase < count) (room : count ≤ 2 ^ w) (c : Chooses v w phase on index number same clear bit)
    (sets : (t : ℕ) → IsTickOf period first t → v t on.place ≡ set_bit) (clears : (t : ℕ) → (IsTickOf period first t → ⊥) → v t on.place ≡ pos 0) (counts : (t n : ℕ) → HasTaken period first n t → v t index.place ≡ wrap w (pos (n % count))) where
  clear_is : (t : ℕ) → v t clear.place ≡ pos 0
  clear_is t = c.clears t ∙ wrap_zero 1 (omega arith)

  index_at : (n : ℕ) → v (first + n * period) index.place ≡ wrap w (pos (n % count))
  index_at n = counts (first + n * period) n (HasTaken-at period first n positive)

  on_tick : (t : ℕ) → IsTickOf period first t → v t bit.place ≡ wrap 1 (v t same.place)
  on_tick t tick = c.bits t ∙ ap (λ (b : ℤ). wrap 1 (chosen b (v t same.place) (v t clear.place))) (sets t tick)

  phase_sets : (t : ℕ) → IsTickOfPhase period first count phase t → v t bit.place ≡ set_bit
  phase_sets t tick =
      let there : v t index.place ≡ v t number.place = ap (λ (s : ℕ). v s index.place) tick.1 ∙ index_at tick.0 ∙ ap (λ (k : ℕ). wrap w (pos k)) tick.2 ∙ sym (c.numbers t) in
      on_tick t (tick.0, tick.1) ∙ ap (wrap 1) (c.sames t ∙ ap (wrap 1) (equality-same (v t index.place) (v t number.place) there) ∙ wrap-one) ∙ wrap-set_bit

  phase_clears : (t : ℕ) → (IsTickOfPhase period first count phase t → ⊥) → v t bit.place ≡ pos 0
  phase_clears t off = elim (is_tick period first t positive) [
    | inl tick ↦
        let small : tick.0 % count < count = mod-lt tick.0 (omega arith) in
        let apart : v t index.place ≡ v t number.place → ⊥ = λ e.
        let f : wrap w (pos (tick.0 % count)) ≡ wrap w (pos phase) = sym (ap (λ (s : ℕ). v s index.place) tick.1 ∙ index_at tick.0) ∙ e ∙ c.numbers t in
        off (tick.0, tick.1, wrap_differs w (tick.0 % count) phase wide (omega arith) (omega arith) f) in
        on_tick t tick ∙ ap (wrap 1) (c.sames t ∙ ap (wrap 1) (equality_apart (v t index.place) (v t number.place) apart) ∙ wrap_zero 1 (omega arith)) ∙ wrap_zero 1 (omega arith)
    | inr silent ↦ c.bits t ∙ ap (λ (b : ℤ). wrap 1 (chosen b (v t same.place) (v t clear.place))) (clears t silent) ∙ ap (wrap 1) (clear_is t) ∙ wrap_zero 1 (omega arith)
  ]

pub IsPhase-circuit : {n0 n1 n2 n3 n4 : NetView} {w phase : ℕ} {on index number same clear bit : Node} (period first count : ℕ) → 1 ≤ w → 1 ≤ period → phase < count → count ≤ 2 ^ w → n0.group ≡ 0 → IsOfControl n0.cells on.place → IsOfControl n0.cells index.place → IsBitOf n0.cells (IsTickOf period first) on → IsIndexOf n0.cells period first count w index
    → Adds n0 n1 number w (Constant (wrap w (pos phase))) → Adds n1 n2 same 1 (Equal index number) → Adds n2 n3 clear 1 (Constant (wrap 1 (pos 0))) → Adds n3 n4 bit 1 (Mux on same clear) → IsCounter n0 n4 (IsTickOfPhase period first count phase) bit
IsPhase-circuit {n0} {n1} {n2} {n3} {n4} {w} {phase} {on} {index} {number} {same} {clear} {bit} period first count wide positive below room g0 on0 index0 gate counted a1 a2 a3 a4 =
    let g1 : n1.group ≡ 0 = a1.group ∙ g0 in
    let g2 : n2.group ≡ 0 = a2.group ∙ g1 in
    let g3 : n3.group ≡ 0 = a3.group ∙ g2 in
    let number1 : IsOfControl n1.cells number.place = control_added a1 g0 refl in
    let same3 : IsOfControl n3.cells same.place = control_then (control_added a2 g1 refl) a3 in
    let on3 : IsOfControl n3.cells on.place = control_then (control_then (control_then on0 a1) a2) a3 in
    let grows : Grows n0 n4 = Grows-trans (Grows-adds a1 refl (λ z. tt)) (Grows-trans (Grows-adds a2 refl (λ z. (control_then index0 a1, number1))) (Grows-trans (Grows-adds a3 refl (λ z. tt)) (Grows-adds a4 refl (λ z. (on3, same3, control_added a3 g2 refl))))) in
    let there = cell_of_added a4 in
    record {
      grows = grows;
      shape = record { cell = _; there = there; same_control = nameless_zero n3.group g3; same_width = refl };
      nameless = refl;
      bit_of = record {
        within = slice_get_within n4.cells bit.place _ there;
        control = record { cell = _; there = there; control = nameless_zero n3.group g3 };
        sets = λ cut law x v r. let r0 = grows.extends.runs cut law x v r in phase_sets v w period first count phase on index number same clear bit wide positive below room (chooses cut law x v r) (gate.sets cut law x v r0) (gate.clears cut law x v r0) (counted.holds cut law x v r0);
        clears = λ cut law x v r. let r0 = grows.extends.runs cut law x v r in phase_clears v w period first count phase on index number same clear bit wide positive below room (chooses cut law x v r) (gate.sets cut law x v r0) (gate.clears cut law x v r0) (counted.holds cut law x v r0);
      };
      names = record { free = λ name other f. free_adds a4 name (free_adds a3 name (free_adds a2 name (free_adds a1 name f))) };
      adders = SameAdders-trans (SameAdders-plain a1 refl) (SameAdders-trans (SameAdders-plain a2 refl) (SameAdders-trans (SameAdders-plain a3 refl) (SameAdders-plain a4 refl)));
      named = SameNamed-trans (SameNamed-adds a1) (SameNamed-trans (SameNamed-adds a2) (SameNamed-trans (SameNamed-adds a3) (SameNamed-adds a4)));
      linear = KeepsShapes-trans (KeepsShapes-control g0 a1) (KeepsShapes-trans (KeepsShapes-control g1 a2) (KeepsShapes-trans (KeepsShapes-control g2 a3) (KeepsShapes-control g3 a4)));
    }
  where
    chooses : (cut : Cut) → IsCut cut → (x : ℕ → ℤ) (v : Values) → IsRun cut n4.cells x v → Chooses v w phase on index number same clear bit
    chooses cut law x v r =
        let g1 : n1.group ≡ 0 = a1.group ∙ g0 in
        let g2 : n2.group ≡ 0 = a2.group ∙ g1 in
        let g3 : n3.group ≡ 0 = a3.group ∙ g2 in
        let r3 = (Extends-adds a4).runs cut law x v r in
        let r2 = (Extends-adds a3).runs cut law x v r3 in
        let r1 = (Extends-adds a2).runs cut law x v r2 in
        record {
          numbers = λ t. r1.each number.place _ (cell_of_added a1) t ∙ constant_control cut law _ w _ wide (nameless_zero n0.group g0);
          sames = λ t. r2.each same.place _ (cell_of_added a2) t ∙ as_control cut law _ 1 _ (nameless_zero n1.group g1);
          clears = λ t. r3.each clear.place _ (cell_of_added a3) t ∙ constant_control cut law _ 1 _ (omega arith) (nameless_zero n2.group g2);
          bits = λ t. r.each bit.place _ (cell_of_added a4) t ∙ as_control cut law _ 1 _ (nameless_zero n3.group g3);
        }

-- ---- all bits

pub HasShape-later : (old new : List Cell) (place : ℕ) (control : Bool) (width : ℕ) → Extends old new → HasShape old place control width → HasShape new place control width
HasShape-later old new place control width e h = let kept = e.keeps place h.cell h.there in record { cell = kept.cell; there = kept.there; same_control = kept.control ∙ h.same_control; same_width = kept.width ∙ h.same_width }

pub IsPhases-none : {old new : NetView} (period first count : ℕ) → Grows old new → LeavesFree old.cells new.cells (λ name. name.kind ≡ Control) → SameAdders old.cells new.cells → SameNamed old.cells new.cells → KeepsShapes old.cells new.cells → IsPhases old new period first count []
IsPhases-none {old} {new} period first count e names adders named linear = record { grows = e; shapes = λ phase bit is. absurd (cc); each = λ phase bit is. absurd (cc); names = names; adders = adders; named = named; linear = linear }

pub IsPhases-push : {a b c : NetView} {period first count : ℕ} (bit : Node) (bits : List Node) → IsPhases a b period first count bits → IsCounter b c (IsTickOfPhase period first count (length bits)) bit → IsPhases a c period first count (bits ++ bit ∷ [])
IsPhases-push {a} {b} {c} {period} {first} {count} bit bits p q = record {
  grows = Grows-trans p.grows q.grows;
  shapes = λ phase node is. elim (slice_get_push_cases bits bit phase node is) [
    | inl old ↦ HasShape-later b.cells c.cells node.place true 1 q.grows.extends (p.shapes phase node old)
    | inr last ↦ rw last.1 q.shape
  ];
  each = λ phase node is. elim (slice_get_push_cases bits bit phase node is) [
    | inl old ↦ IsBitOf-later (p.each phase node old) q.grows.extends
    | inr last ↦ rw (last.0, last.1) q.bit_of
  ];
  names = LeavesFree-trans a.cells b.cells c.cells (λ name. name.kind ≡ Control) (λ name. name.kind ≡ Control) (λ name. name.kind ≡ Control) (λ name h. h) (λ name h. h) p.names q.names;
  adders = SameAdders-trans p.adders q.adders;
  named = SameNamed-trans p.named q.named;
  linear = KeepsShapes-trans p.linear q.linear;
}

-- bits that were added as control are added to a net of any group
pub IsPhases-regroup : {old mid new last : NetView} {period first count group : ℕ} {bits : List Node} → group ≡ old.group → (let alone : NetView = record { cells = old.cells; group = 0 } in mid ≡ alone) → (let back : NetView = record { cells = new.cells; group = group } in last ≡ back) → IsPhases mid new period first count bits → IsPhases old last period first count bits
IsPhases-regroup {old} {mid} {new} {last} {period} {first} {count} {group} {bits} same alone_is put_back p =
    let alone : NetView = record { cells = old.cells; group = 0 } in
    let q : IsPhases alone new period first count bits = subst (λ (m : NetView). IsPhases m new period first count bits) alone_is p in
    let back : NetView = record { cells = new.cells; group = old.group } in
    let r : IsPhases old back period first count bits = record {
      grows = Grows-regroup q.grows;
      shapes = q.shapes;
      each = q.each;
      names = q.names;
      adders = q.adders;
      named = q.named;
      linear = q.linear;
    } in
    subst (λ (m : NetView). IsPhases old m period first count bits) (sym (put_back ∙ ap (λ (g : ℕ). let n : NetView = record { cells = new.cells; group = g } in n) same)) r

-- a bit that counts is control
pub counter_control : {old new : NetView} {ticks : ℕ → Type 0} {bit : Node} → IsCounter old new ticks bit → IsOfControl new.cells bit.place
counter_control b = record { cell = b.shape.cell; there = b.shape.there; control = b.shape.same_control }

pub names_of_control : {a b c : List Cell} → LeavesFree a b (λ name. name.kind ≡ Control) → LeavesFree b c (λ name. name.kind ≡ Control) → LeavesFree a c (λ name. name.kind ≡ Control)
names_of_control {a} {b} {c} p q = LeavesFree-trans a b c (λ name. name.kind ≡ Control) (λ name. name.kind ≡ Control) (λ name. name.kind ≡ Control) (λ name h. h) (λ name h. h) p q

-- the index gets its next
pub index_extends : {n0 n1 n2 n3 n4 n5 n6 n7 n8 n9 : NetView} {w w5 : ℕ} {index last none one done more next held : Node} {i2 i3 i4 i5 i6 i7 i8 : Item} → 1 ≤ w → AddsNext n0 n1 0 Control w index → Adds n1 n2 last w i2 → Adds n2 n3 none w i3 → Adds n3 n4 one w i4 → Adds n4 n5 done w5 i5
    → Adds n5 n6 more w i6 → Adds n6 n7 next w i7 → Adds n7 n8 held w i8 → IsBoundTo n8 n9 index held → Extends n8.cells n9.cells
index_extends {n0} {n1} {n2} {n3} {n4} {n5} {n6} {n7} {n8} {n9} {w} {w5} {index} {last} {none} {one} {done} {more} {next} {held} wide a1 a2 a3 a4 a5 a6 a7 a8 b =
    let there8 = there_then index.place a8 (there_then index.place a7 (there_then index.place a6 (there_then index.place a5 (there_then index.place a4 (there_then index.place a3 (there_then index.place a2 (cell_of_register a1.adds))))))) in
    let is = cell_at-is n8.cells index.place _ there8 in
    let inside = slice_get_within n8.cells index.place _ there8 in
    Extends-bind (subst (λ (c : Cell). 1 ≤ c.width) (sym is) wide) (record { inside = inside; nextless = ap (λ (c : Cell). c.item) is }) b
