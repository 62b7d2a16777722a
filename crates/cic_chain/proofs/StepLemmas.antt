-- A register that takes a node's value at the ticks of a gate.
use Rattle.std.proofs.Common.{◌≡◌, ℕ, zero, suc, ◌+◌, ◌*◌, ◌<◌, ◌≤◌, List, length, refl, sym, ◌∙◌, ap, arith, Option, Some, None, slice_get, inl, inr, subst, ℤ, pos, negsuc, ◌+ℤ◌, Bool, true, false}
use Rattle.std.proofs.lemmas.Bool.{cases_lt, cases_eq}
use Rattle.std.proofs.lemmas.Option.{slice_get_within}
use Rattle.mr_values.specs.Width.{set_bit, chosen}
use Rattle.net_graph.specs.declared.cell.Cell.{Cell}
use Rattle.net_graph.specs.declared.cell.Node.{Node}
use Rattle.net_graph.specs.declared.cell.Stream.{Stream}
use Rattle.net_graph.specs.declared.cell.Item.{Item}
use Rattle.net_graph.specs.declared.cell.Item.TheVariants.{Add}
use Rattle.net_graph.specs.declared.name.Name.{Name}
use Rattle.net_graph.specs.declared.name.NameKind.TheVariants.{Register}
use Rattle.net_graph.specs.Cells.{NetView, cell_at}
use Rattle.net_graph.specs.Count.{adders_in}
use Rattle.net_graph.specs.Cut.{Cut, IsCut}
use Rattle.net_graph.specs.Depth.{IsPlain, begins, TakesPlain, IsShallow}
use Rattle.net_graph.specs.Grow.{Extends, Grows, Adds, AddsRegister, IsBoundTo}
use Rattle.net_graph.specs.Run.{Values, IsRun}
use Rattle.net_graph.specs.WellFormed.{IsBound, IsFree, IsLeastFree}
use Rattle.net_graph.proofs.Lists.{slice_get_push_cases, slice_get-set_other}
use Rattle.pipeline_balance.proofs.ShallowLemmas.{shallow_same}
use Rattle.net_graph.proofs.CellLemmas.{cell_at-there, same_cell}
use Rattle.net_graph.proofs.CountLemmas.{adders_more, adders_register, adders_bind}
use Rattle.net_graph.proofs.DepthLemmas.{IsPlain-later, TakesPlain-later}
use Rattle.net_graph.proofs.GroupLemmas.{nameless_data}
use Rattle.net_graph.proofs.GrowLemmas.{named_own, GrowsBut, GrowsBut-register, GrowsBut-adds, GrowsBut-unbound, Grows-bind, Extends-grown, cell_of_grown}
use Rattle.net_graph.proofs.NetLemmas.{Extends-refl, Extends-trans, Extends-adds, IsRun-keeps, cell_of_added}
use Rattle.pipeline_balance.specs.Costs.{SameAdders, SameNamed}
use Rattle.pipeline_balance.specs.Gate.{IsGate, HasTaken, taken_value}
use Rattle.pipeline_balance.specs.Numbered.{AddsNext, IsRegister, IsCounted, IsTouched, LeavesFree, name_of}
use Rattle.pipeline_balance.proofs.CostLemmas.{SameAdders-refl, SameAdders-plain, SameNamed-refl, SameNamed-trans, SameNamed-adds, SameNamed-register, SameNamed-bind}
use Rattle.pipeline_balance.proofs.NumberedLemmas.{free_register, free_adds, free_bind, IsCounted-more, least_is}
use Rattle.pipeline_balance.specs.Shapes.{KeepsShapes}
use Rattle.pipeline_balance.proofs.ShapeLemmas.{KeepsShapes-refl, KeepsShapes-trans, KeepsShapes-adds, KeepsShapes-register, KeepsShapes-bind}
use Rattle.pipeline_balance.proofs.TakenLemmas.{IsGate-later, taken_last, taken_value-same}
use Rattle.stage_law.specs.Alike.{HasRegister}
use Rattle.cic_chain.specs.Pieces.{IsPiece, IsNext, Steps, AddsHeld, AddsIntegrator}

-- ---- the next of a register

module _ (mid last : NetView) (node register next : Node) (width : ℕ) where
  next_extends : (gate : Option Node) → IsNext mid last gate node register width next → Extends mid.cells last.cells
  next_extends None x = subst (λ (n : NetView). Extends mid.cells n.cells) (sym x.0) (Extends-refl mid.cells)
  next_extends (Some on) x = Extends-adds x

  next_grows : (old : NetView) (own : Cell) (gate : Option Node) → 1 ≤ mid.group → GrowsBut old mid register own → IsNext mid last gate node register width next → GrowsBut old last register own
  next_grows old own None some p x = subst (λ (n : NetView). GrowsBut old n register own) (sym x.0) p
  next_grows old own (Some on) some p x = GrowsBut-adds p x refl (λ zero_group. absurd (omega arith))

  next_adders : (gate : Option Node) → IsNext mid last gate node register width next → SameAdders mid.cells last.cells
  next_adders None x = subst (λ (n : NetView). SameAdders mid.cells n.cells) (sym x.0) (SameAdders-refl mid.cells)
  next_adders (Some on) x = SameAdders-plain x refl

  next_named : (gate : Option Node) → IsNext mid last gate node register width next → SameNamed mid.cells last.cells
  next_named None x = subst (λ (n : NetView). SameNamed mid.cells n.cells) (sym x.0) (SameNamed-refl mid.cells)
  next_named (Some on) x = SameNamed-adds x

  next_free : (gate : Option Node) → IsNext mid last gate node register width next → (name : Name) → IsFree mid.cells name → IsFree last.cells name
  next_free None x name f = subst (λ (n : NetView). IsFree n.cells name) (sym x.0) f
  next_free (Some on) x name f = free_adds x name f

  -- the register is chosen by a bit of control
  next_linear : (period first : ℕ) (gate : Option Node) → IsGate mid.cells period first gate → IsNext mid last gate node register width next → KeepsShapes mid.cells last.cells
  next_linear period first None is_gate x = subst (λ (n : NetView). KeepsShapes mid.cells n.cells) (sym x.0) (KeepsShapes-refl mid.cells)
  next_linear period first (Some on) is_gate x = KeepsShapes-adds x is_gate.control

chosen_cut : (cut : ℤ → ℤ) (on a b : ℤ) → cut b ≡ b → cut (chosen on a b) ≡ chosen on (cut a) b
chosen_cut cut (pos zero) a b e = e
chosen_cut cut (pos (suc n)) a b e = refl
chosen_cut cut (negsuc n) a b e = refl

-- ---- the circuit of one register

-- a register of the group before its next is bound
abbrev pub own_cell : ℕ → ℕ → ℕ → Cell
own_cell group number width = record { group = group; name = Some (name_of group Register number); width = width; item = None }

-- what is added from the register to the node that it will take
pub record IsBegun (old mid : NetView) (register : Node) (number width adders : ℕ) : Type 0 where
  pub some : 1 ≤ old.group
  pub wide : 1 ≤ width
  pub least : IsLeastFree old.cells old.group Register number
  pub but : GrowsBut old mid register (own_cell old.group number width)
  pub adds : adders_in old.group mid.cells ≡ adders_in old.group old.cells + adders
  pub named : SameNamed old.cells mid.cells
  pub free : (name : Name) → (name ≡ name_of old.group Register number → ⊥) → IsFree old.cells name → IsFree mid.cells name
  pub linear : KeepsShapes old.cells mid.cells

module _ (old mid last new : NetView) (gate : Option Node) (node register next : Node) (number width adders : ℕ) (begun : IsBegun old mid register number width adders) (x : IsNext mid last gate node register width next) (b : IsBoundTo last new register next) where
  mid_some : 1 ≤ mid.group
  mid_some = let some = begun.some in rw begun.but.group some

  all_but : GrowsBut old last register (own_cell old.group number width)
  all_but = next_grows mid last node register next width old (own_cell old.group number width) gate mid_some begun.but x

  pub circuit_grows : Grows old new
  circuit_grows = Grows-bind (named_own (own_cell old.group number width) (name_of old.group Register number) refl refl begun.some) all_but begun.wide b (λ is. absurd (cc))

  pub circuit_register : IsRegister new.cells register.place old.group (name_of old.group Register number) width
  circuit_register = record { cell = _; there = cell_of_grown all_but b; of_group = refl; named = refl; wide = refl; registered = (next, refl) }

  pub circuit_adders : adders_in old.group new.cells ≡ adders_in old.group old.cells + adders
  circuit_adders = adders_bind old.group (GrowsBut-unbound all_but) b ∙ (next_adders mid last node register next width gate x).each old.group begun.some ∙ begun.adds

  pub circuit_named : SameNamed old.cells new.cells
  circuit_named = SameNamed-trans begun.named (SameNamed-trans (next_named mid last node register next width gate x) (SameNamed-bind (GrowsBut-unbound all_but) b))

  pub circuit_names : LeavesFree old.cells new.cells (λ name. name ≡ name_of old.group Register number)
  circuit_names = record { free = λ name other f. free_bind (GrowsBut-unbound all_but) b name (next_free mid last node register next width gate x name (begun.free name other f)) }

  pub circuit_count : (count : ℕ) → IsCounted old.cells old.group Register count → number ≡ count
  circuit_count count c = least_is old.cells old.group Register count number c begun.least

  pub circuit_counted : (count : ℕ) → IsCounted old.cells old.group Register count → IsCounted new.cells old.group Register (count + 1)
  circuit_counted count c =
      let is = ap (name_of old.group Register) (circuit_count count c) in
      let leaves = subst (λ (n : Name). LeavesFree old.cells new.cells (λ name. name ≡ n)) is circuit_names in
      let used : IsFree new.cells (name_of old.group Register count) → ⊥ = subst (λ (n : Name). IsFree new.cells n → ⊥) is (λ f. f.none register.place circuit_register.cell circuit_register.there circuit_register.named) in
      let more : suc count ≡ count + 1 = omega arith in
      subst (λ (k : ℕ). IsCounted new.cells old.group Register k) more (IsCounted-more old.group Register count circuit_grows.extends leaves used c)

  pub circuit_wide : (count : ℕ) → IsCounted old.cells old.group Register count → (j : ℕ) → j < 1 → HasRegister new.cells old.group (count + j) width
  circuit_wide count c j h =
      let is : number ≡ count + j = circuit_count count c ∙ omega arith in
      record { place = register.place; register = subst (λ (n : ℕ). IsRegister new.cells register.place old.group (name_of old.group Register n) width) is circuit_register }

  -- what it has at each tick
  pub circuit_steps : (period first : ℕ) → IsGate old.cells period first gate → Steps new.cells period first register (λ cut v t. cut false width (v t node.place))
  circuit_steps period first is_gate = record {
    within = slice_get_within new.cells register.place _ (cell_of_grown all_but b);
    holds = λ cut law inputs v r. by_gate cut law inputs v r gate is_gate x;
  }
    where
      by_gate : (cut : Cut) → IsCut cut → (inputs : ℕ → ℤ) (v : Values) → IsRun cut new.cells inputs v → (g : Option Node) → IsGate old.cells period first g → IsNext mid last g node register width next
          → (t n : ℕ) → HasTaken period first n t → v t register.place ≡ taken_value (λ k. cut false width (v (first + k * period) node.place)) n 0
      by_gate cut law inputs v r None is_gate x =
          let o = r.each register.place _ (cell_of_grown all_but b) in
          taken_last period first (λ t. set_bit) (λ t. cut false width (v t node.place)) (λ t. v t register.place) o.0
          (λ t. o.1 t ∙ ap (λ (m : Node). cut false width (v t m.place)) x.1) (λ t tick. refl) (λ t off. absurd (off (t, rw (is_gate.0, is_gate.1) (omega arith))))
      by_gate cut law inputs v r (Some on) is_gate x =
          let there = cell_of_grown all_but b in
          let o = r.each register.place _ there in
          let own : (t : ℕ) → cut false width (v t register.place) ≡ v t register.place = λ t. IsRun-keeps cut law new.cells inputs v register.place _ r there begun.wide t in
          let pick : ℕ → ℤ = λ t. chosen (v t on.place) (v t node.place) (v t register.place) in
          let mux : (t : ℕ) → v t next.place ≡ cut false width (pick t) =
          λ t. ((Extends-grown all_but begun.wide b).runs cut law inputs v r).each next.place _ (cell_of_added x) t ∙ ap (λ (c : Bool). cut c width (pick t)) (nameless_data mid.group true mid_some) in
          let old_run = circuit_grows.extends.runs cut law inputs v r in
          taken_last period first (λ t. v t on.place) (λ t. cut false width (v t node.place)) (λ t. v t register.place) o.0
          (λ t. o.1 t ∙ ap (cut false width) (mux t) ∙ law.again false width (pick t) begun.wide ∙ chosen_cut (cut false width) (v t on.place) (v t node.place) (v t register.place) (own t))
          (is_gate.sets cut law inputs v old_run) (is_gate.clears cut law inputs v old_run)

  pub circuit_plain : IsPlain new.cells old.group register.place
  circuit_plain = begins register.place _ (cell_of_grown all_but b) refl

  touched_own : (name : Name) → name ≡ name_of old.group Register number → IsTouched old.group Register name
  touched_own name e = inl (ap (λ (n : Name). n.group) e, ap (λ (n : Name). n.kind) e)

  circuit_linear : (period first : ℕ) → IsGate old.cells period first gate → KeepsShapes old.cells new.cells
  circuit_linear period first is_gate =
      KeepsShapes-trans begun.linear
      (KeepsShapes-trans (next_linear mid last node register next width period first gate (IsGate-later old.cells mid.cells period first gate begun.but.extends is_gate) x)
      (KeepsShapes-bind (Extends-grown all_but begun.wide b) (GrowsBut-unbound all_but) b))

  pub circuit_piece : (from : Node) (period first : ℕ) → IsGate old.cells period first gate → (IsShallow old.cells old.group → IsPlain old.cells old.group from.place → IsShallow new.cells old.group) → IsPiece old new from register width 1 adders
  circuit_piece from period first is_gate shallow = record {
    grows = circuit_grows;
    within = slice_get_within new.cells register.place _ (cell_of_grown all_but b);
    adds = circuit_adders;
    named = circuit_named;
    names = record { free = λ name other f. circuit_names.free name (λ e. other (touched_own name e)) f };
    counted = circuit_counted;
    wide = circuit_wide;
    shallow = shallow;
    plain = λ s p. circuit_plain;
    linear = circuit_linear period first is_gate;
  }

-- ---- a register that takes a stream

pub AddsHeld-circuit : {old mid last new : NetView} (from : Stream) (gate : Option Node) (register next : Node) (width : ℕ) → 1 ≤ old.group → 1 ≤ width → IsGate old.cells from.period from.offset gate
    → AddsNext old mid old.group Register width register → IsNext mid last gate from.node register width next → IsBoundTo last new register next → AddsHeld old new from width register
AddsHeld-circuit {old} {mid} {last} {new} from gate register next width some wide is_gate a x b =
    let begun : IsBegun old mid register a.number width 0 = record {
      some = some;
      wide = wide;
      least = a.least;
      but = GrowsBut-register a.adds;
      adds = adders_register old.group a.adds ∙ omega arith;
      named = SameNamed-register refl refl a.adds;
      free = λ name other f. free_register a.adds name other f;
      linear = KeepsShapes-register a.adds;
    } in
    let same : adders_in old.group new.cells ≡ adders_in old.group old.cells = circuit_adders old mid last new gate from.node register next a.number width 0 begun x b ∙ omega arith in
    let shallow : IsShallow old.cells old.group → IsShallow new.cells old.group = shallow_same old.group (circuit_grows old mid last new gate from.node register next a.number width 0 begun x b) same in
    record {
      piece = circuit_piece old mid last new gate from.node register next a.number width 0 begun x b from.node from.period from.offset is_gate (λ s p. shallow s);
      shallow = shallow;
      plain = circuit_plain old mid last new gate from.node register next a.number width 0 begun x b;
      steps = circuit_steps old mid last new gate from.node register next a.number width 0 begun x b from.period from.offset is_gate;
    }

-- ---- a register to which a stream is added

-- a net whose further adders of the group take plain nodes
pub IsShallow-more : (old new : List Cell) (group : ℕ) → Extends old new → IsBound new → IsShallow old group
    → ((place : ℕ) (cell : Cell) → length old ≤ place → slice_get new place ≡ Some cell → TakesPlain new group cell.item) → IsShallow new group
IsShallow-more old new group e bound s more = record {
  bound = bound;
  each = λ place cell at own. elim (cases_lt place (length old)) [
    | inl less ↦
        let was = cell_at old place in
        let before = cell_at-there old place less in
        let k = e.keeps place was before in
        let is : k.cell ≡ cell = same_cell k.cell cell (slice_get new place) k.there at in
        let item_is : was.item ≡ cell.item = sym (k.item (s.bound.each place was before)) ∙ ap (λ (c : Cell). c.item) is in
        let group_is : was.group ≡ group = sym k.group ∙ ap (λ (c : Cell). c.group) is ∙ own in
        subst (λ (i : Option Item). TakesPlain new group i) item_is (TakesPlain-later old new group s.bound e was.item (s.each place was before group_is))
    | inr after ↦ more place cell after at
  ];
}

module _ (n0 n1 n2 n3 n4 : NetView) (gate : Option Node) (from sum register next : Node) (number width : ℕ) (a1 : AddsRegister n0 n1 register (name_of n0.group Register number) width) (a2 : Adds n1 n2 sum width (Add register from)) (x : IsNext n2 n3 gate sum register width next) (b : IsBoundTo n3 n4 register next)
    (own_plain : IsPlain n4.cells n0.group register.place) (from_plain : IsPlain n4.cells n0.group from.place) where
  sum_takes : (place : ℕ) (cell : Cell) → length n0.cells ≤ place → (place ≡ register.place → ⊥) → slice_get n2.cells place ≡ Some cell → TakesPlain n4.cells n0.group cell.item
  sum_takes place cell after other at = elim (slice_get_push_cases n1.cells _ place cell (subst (λ (m : List Cell). slice_get m place ≡ Some cell) a2.cells at)) [
    | inl before ↦ elim (slice_get_push_cases n0.cells _ place cell (subst (λ (m : List Cell). slice_get m place ≡ Some cell) a1.cells before)) [
      | inl early ↦ absurd (let inside = slice_get_within n0.cells place cell early in omega arith)
      | inr last ↦ absurd (other (last.0 ∙ sym a1.place))
    ]
    | inr last ↦ subst (λ (c : Cell). TakesPlain n4.cells n0.group c.item) (sym last.1) (own_plain, from_plain)
  ]

  next_takes : (g : Option Node) → IsNext n2 n3 g sum register width next → (place : ℕ) (cell : Cell) → length n0.cells ≤ place → (place ≡ register.place → ⊥) → slice_get n3.cells place ≡ Some cell → TakesPlain n4.cells n0.group cell.item
  next_takes None x place cell after other at = sum_takes place cell after other (subst (λ (n : NetView). slice_get n.cells place ≡ Some cell) x.0 at)
  next_takes (Some on) x place cell after other at = elim (slice_get_push_cases n2.cells _ place cell (subst (λ (m : List Cell). slice_get m place ≡ Some cell) x.cells at)) [
    | inl before ↦ sum_takes place cell after other before
    | inr last ↦ subst (λ (c : Cell). TakesPlain n4.cells n0.group c.item) (sym last.1) tt
  ]

  pub adder_takes : (own : Cell) → slice_get n4.cells register.place ≡ Some own → TakesPlain n4.cells n0.group own.item → (place : ℕ) (cell : Cell) → length n0.cells ≤ place → slice_get n4.cells place ≡ Some cell → TakesPlain n4.cells n0.group cell.item
  adder_takes own there takes place cell after at = elim (cases_eq place register.place) [
    | inl same ↦
        let is : own ≡ cell = same_cell own cell (slice_get n4.cells register.place) there (subst (λ (k : ℕ). slice_get n4.cells k ≡ Some cell) same at) in
        subst (λ (c : Cell). TakesPlain n4.cells n0.group c.item) is takes
    | inr other ↦
        next_takes gate x place cell after other (sym (slice_get-set_other n3.cells register.place place _ other) ∙ subst (λ (m : List Cell). slice_get m place ≡ Some cell) b.cells at)
  ]

pub AddsIntegrator-circuit : {n0 n1 n2 n3 n4 : NetView} (from : Stream) (gate : Option Node) (register sum next : Node) (width : ℕ) → 1 ≤ n0.group → 1 ≤ width → from.node.place < length n0.cells → IsGate n0.cells from.period from.offset gate
    → AddsNext n0 n1 n0.group Register width register → Adds n1 n2 sum width (Add register from.node) → IsNext n2 n3 gate sum register width next → IsBoundTo n3 n4 register next → AddsIntegrator n0 n4 from width register
AddsIntegrator-circuit {n0} {n1} {n2} {n3} {n4} from gate register sum next width some wide inside is_gate a s x b =
    let zero_not : n1.group ≡ 0 → ⊥ = λ e. let g = a.adds.group in omega arith in
    let begun : IsBegun n0 n2 register a.number width 1 = record {
      some = some;
      wide = wide;
      least = a.least;
      but = GrowsBut-adds (GrowsBut-register a.adds) s refl (λ zero_group. absurd (zero_not zero_group));
      adds = adders_more n0.group s refl a.adds.group ∙ ap (λ (n : ℕ). n + 1) (adders_register n0.group a.adds);
      named = SameNamed-trans (SameNamed-register refl refl a.adds) (SameNamed-adds s);
      free = λ name other f. free_adds s name (free_register a.adds name other f);
      linear = KeepsShapes-trans (KeepsShapes-register a.adds) (KeepsShapes-adds s tt);
    } in
    let grows = circuit_grows n0 n2 n3 n4 gate sum register next a.number width 1 begun x b in
    let is_register = circuit_register n0 n2 n3 n4 gate sum register next a.number width 1 begun x b in
    let plain = circuit_plain n0 n2 n3 n4 gate sum register next a.number width 1 begun x b in
    let held = circuit_steps n0 n2 n3 n4 gate sum register next a.number width 1 begun x b from.period from.offset is_gate in
    record {
      piece = circuit_piece n0 n2 n3 n4 gate sum register next a.number width 1 begun x b from.node from.period from.offset is_gate
          (λ shallow from_plain.
          IsShallow-more n0.cells n4.cells n0.group grows.extends (grows.bound shallow.bound) shallow
          (adder_takes n0 n1 n2 n3 n4 gate from.node sum register next a.number width a.adds s x b plain (IsPlain-later n0.cells n4.cells n0.group shallow.bound grows.extends from.node.place from_plain) is_register.cell is_register.there (subst (λ (i : Option Item). TakesPlain n4.cells n0.group i) (sym is_register.registered.1) tt)));
      steps = record {
        within = held.within;
        holds = λ cut law inputs v r t n h.
            let middle : Extends n2.cells n4.cells = Extends-trans n2.cells n3.cells n4.cells (next_extends n2 n3 sum register next width gate x) (Extends-grown (all_but n0 n2 n3 n4 gate sum register next a.number width 1 begun x b) wide b) in
            let some1 : 1 ≤ n1.group = rw a.adds.group some in
            let sums : (u : ℕ) → v u sum.place ≡ cut false width (v u register.place +ℤ v u from.node.place) =
            λ u. (middle.runs cut law inputs v r).each sum.place _ (cell_of_added s) u ∙ ap (λ (c : Bool). cut c width (v u register.place +ℤ v u from.node.place)) (nameless_data n1.group true some1) in
            held.holds cut law inputs v r t n h ∙ taken_value-same _ _ (λ k. ap (cut false width) (sums (from.offset + k * from.period)) ∙ law.again false width _ wide) n 0;
      };
    }
