-- An accumulator in a net.
use Rattle.std.proofs.Common.{◌≡◌, ℕ, suc, ◌+◌, ◌<◌, ◌≤◌, List, length, refl, sym, ◌∙◌, ap, arith, Some, None, slice_get, inl, inr, subst, ℤ, pos, ◌+ℤ◌, Bool, true, false, Option}
use Rattle.std.proofs.lemmas.Bool.{cases_eq, cases_lt}
use Rattle.std.proofs.lemmas.Option.{slice_get_within}
use Rattle.mr_values.specs.Width.{FitsWidth, chosen, wrap}
use Rattle.mr_values.proofs.WidthLemmas.{wrap_zero, FitsWidth-zero}
use Rattle.net_graph.specs.declared.cell.Cell.{Cell}
use Rattle.net_graph.specs.declared.cell.Node.{Node}
use Rattle.net_graph.specs.declared.cell.Item.{Item}
use Rattle.net_graph.specs.declared.cell.Item.TheVariants.{Constant, Add, Mux, Register as RegisterItem}
use Rattle.net_graph.specs.declared.name.Name.{Name}
use Rattle.net_graph.specs.declared.name.NameKind.TheVariants.{Register}
use Rattle.net_graph.specs.Cells.{NetView, cell_at}
use Rattle.net_graph.specs.Control.{IsOfControl}
use Rattle.net_graph.specs.Count.{adders_in}
use Rattle.net_graph.specs.Cut.{Cut, IsCut}
use Rattle.net_graph.specs.Depth.{IsPlain, begins, chooses, TakesPlain, IsShallow}
use Rattle.net_graph.specs.Grow.{Extends, Grows, Adds, IsBoundTo}
use Rattle.net_graph.specs.Run.{Values, IsRun}
use Rattle.net_graph.specs.WellFormed.{IsBound, IsFree}
use Rattle.net_graph.proofs.Lists.{slice_get_push_cases, slice_get-set_other}
use Rattle.net_graph.proofs.CellLemmas.{cell_at-there, same_cell}
use Rattle.net_graph.proofs.CountLemmas.{adders_plain, adders_more, adders_register, adders_bind}
use Rattle.net_graph.proofs.DepthLemmas.{IsPlain-later, TakesPlain-later}
use Rattle.net_graph.proofs.GroupLemmas.{nameless_data}
use Rattle.net_graph.proofs.NetLemmas.{Extends-adds, Extends-register, Extends-trans, IsRun-keeps, cell_of_added, cell_of_register}
use Rattle.net_graph.proofs.GrowLemmas.{IsOfControl-later, named_own, Grows-trans, Grows-data, GrowsBut, GrowsBut-register, GrowsBut-adds, GrowsBut-unbound, Grows-bind, Extends-grown, cell_of_grown}
use Rattle.pipeline_balance.specs.Costs.{SameNamed}
use Rattle.pipeline_balance.specs.Numbered.{AddsNext, IsCounted, LeavesFree, name_of}
use Rattle.pipeline_balance.specs.Shapes.{KeepsShapes}
use Rattle.pipeline_balance.proofs.CostLemmas.{SameNamed-trans, SameNamed-adds, SameNamed-register, SameNamed-bind}
use Rattle.pipeline_balance.proofs.CounterLemmas.{there_bound, there_then}
use Rattle.pipeline_balance.proofs.NumberedLemmas.{IsCounted-leaves, IsCounted-more, least_is, free_register, free_adds, free_bind}
use Rattle.pipeline_balance.proofs.ShapeLemmas.{KeepsShapes-trans, KeepsShapes-adds, KeepsShapes-register, KeepsShapes-bind}
use Rattle.pipeline_balance.proofs.TakenLemmas.{chosen_kept}
use Rattle.folded_fir.specs.Accumulators.{AddsAccumulator, IsAccumulator, kept_sum}

-- a net whose further adders of the group take plain nodes
IsShallow-more : (old new : List Cell) (group : ℕ) → Extends old new → IsBound new → IsShallow old group
    → ((place : ℕ) (cell : Cell) → length old ≤ place → slice_get new place ≡ Some cell → TakesPlain new group cell.item) → IsShallow new group
IsShallow-more old new group e bound s more = record {
  bound = bound;
  each = λ place cell at own. elim (cases_lt place (length old)) [
    | inl less ↦
        let was = cell_at old place in
        let before = cell_at-there old place less in
        let k = e.keeps place was before in
        let is : k.cell ≡ cell = same_cell k.cell cell (slice_get new place) k.there at in
        let item_is : was.item ≡ cell.item = sym (k.item (s.bound.each place was before)) ∙ ap (λ (c : Cell). c.item) is in
        let group_is : was.group ≡ group = sym k.group ∙ ap (λ (c : Cell). c.group) is ∙ own in
        subst (λ (i : Option Item). TakesPlain new group i) item_is (TakesPlain-later old new group s.bound e was.item (s.each place was before group_is))
    | inr after ↦ more place cell after at
  ];
}

module _ {n0 n1 n2 n3 n4 n5 : NetView} {clear operand zero sum kept next : Node} {width : ℕ} (some : 1 ≤ n0.group) (wide : 1 ≤ width) (has_clear : clear.place < length n0.cells) (has_operand : operand.place < length n0.cells)
    (a1 : Adds n0 n1 zero 1 (Constant (wrap 1 (pos 0)))) (a2 : AddsNext n1 n2 n0.group Register width sum) (a3 : Adds n2 n3 kept width (Mux clear zero sum)) (a4 : Adds n3 n4 next width (Add kept operand)) (b : IsBoundTo n4 n5 sum next) where
  some1 : 1 ≤ n1.group
  some1 = rw a1.group some

  some2 : 1 ≤ n2.group
  some2 = rw a2.adds.group some1

  some3 : 1 ≤ n3.group
  some3 = rw a3.group some2

  own : Cell
  own = record { group = n1.group; name = Some (name_of n0.group Register a2.number); width = width; item = None }

  front : Grows n0 n1
  front = Grows-data some a1 refl

  begun : GrowsBut n1 n4 sum (record { group = n1.group; name = Some (name_of n0.group Register a2.number); width = width; item = None })
  begun = GrowsBut-adds (GrowsBut-adds (GrowsBut-register a2.adds) a3 refl (λ e. absurd (omega arith))) a4 refl (λ e. absurd (omega arith))

  back : Grows n1 n5
  back = Grows-bind (named_own (record { group = n1.group; name = Some (name_of n0.group Register a2.number); width = width; item = None }) (name_of n0.group Register a2.number) refl (sym a1.group) some1) begun wide b (λ is. absurd (cc))

  pub accumulator_grows : Grows n0 n5
  accumulator_grows = Grows-trans front back

  there : slice_get n5.cells sum.place ≡ Some (record { group = n1.group; name = Some (name_of n0.group Register a2.number); width = width; item = Some (RegisterItem next) })
  there = cell_of_grown begun b

  kept_there : slice_get n5.cells kept.place ≡ Some (record { group = n2.group; name = None; width = width; item = Some (Mux clear zero sum) })
  kept_there = there_bound kept.place b (λ same. let at = a3.place in let inside = slice_get_within n2.cells sum.place _ (cell_of_register a2.adds) in absurd (omega arith)) (there_then kept.place a4 (cell_of_added a3))

  adders : adders_in n0.group n5.cells ≡ adders_in n0.group n0.cells + 1
  adders =
      let e1 = adders_plain n0.group a1 refl in
      let e2 = adders_register n0.group a2.adds in
      let e3 = adders_plain n0.group a3 refl in
      let e4 = adders_more n0.group a4 refl (a3.group ∙ a2.adds.group ∙ a1.group) in
      let e5 = adders_bind n0.group (GrowsBut-unbound begun) b in
      omega (arith, e1, e2, e3, e4, e5)

  named : SameNamed n0.cells n5.cells
  named = SameNamed-trans (SameNamed-adds a1) (SameNamed-trans (SameNamed-register refl refl a2.adds) (SameNamed-trans (SameNamed-adds a3) (SameNamed-trans (SameNamed-adds a4) (SameNamed-bind (GrowsBut-unbound begun) b))))

  -- names

  leaves_free : LeavesFree n1.cells n5.cells (λ name. name ≡ name_of n0.group Register a2.number)
  leaves_free = record { free = λ name other f. free_bind (GrowsBut-unbound begun) b name (free_adds a4 name (free_adds a3 name (free_register a2.adds name other f))) }

  mid_count : (count : ℕ) → IsCounted n0.cells n0.group Register count → IsCounted n1.cells n0.group Register count
  mid_count count c = IsCounted-leaves {touched = λ name. ⊥} n0.group Register count front.extends (record { free = λ name other f. free_adds a1 name f }) (λ number no. no) c

  name_is : (count : ℕ) → IsCounted n0.cells n0.group Register count → name_of n0.group Register a2.number ≡ name_of n0.group Register count
  name_is count c = ap (λ (k : ℕ). name_of n0.group Register k) (least_is n1.cells n0.group Register count a2.number (mid_count count c) a2.least)

  counted_more : (count : ℕ) → IsCounted n0.cells n0.group Register count → IsCounted n5.cells n0.group Register (suc count)
  counted_more count c =
      let leaves : LeavesFree n1.cells n5.cells (λ name. name ≡ name_of n0.group Register count) = subst (λ (m : Name). LeavesFree n1.cells n5.cells (λ name. name ≡ m)) (name_is count c) leaves_free in
      let used : IsFree n5.cells (name_of n0.group Register count) → ⊥ = subst (λ (m : Name). IsFree n5.cells m → ⊥) (name_is count c) (λ f. f.none sum.place _ there refl) in
      IsCounted-more n0.group Register count back.extends leaves used (mid_count count c)

  -- shapes and depth

  linear : IsOfControl n0.cells clear.place → KeepsShapes n0.cells n5.cells
  linear control =
      let clear_then = IsOfControl-later n0.cells n2.cells clear.place (Extends-trans _ _ _ front.extends (Extends-register a2.adds)) control in
      KeepsShapes-trans (KeepsShapes-adds a1 tt) (KeepsShapes-trans (KeepsShapes-register a2.adds) (KeepsShapes-trans (KeepsShapes-adds a3 clear_then)
      (KeepsShapes-trans (KeepsShapes-adds a4 tt) (KeepsShapes-bind (Extends-grown begun wide b) (GrowsBut-unbound begun) b))))

  zero_plain : IsBound n0.cells → IsPlain n5.cells n0.group zero.place
  zero_plain bound = IsPlain-later n1.cells n5.cells n0.group (front.bound bound) back.extends zero.place (begins zero.place _ (cell_of_added a1) refl)

  kept_plain : IsBound n0.cells → IsPlain n5.cells n0.group clear.place → IsPlain n5.cells n0.group kept.place
  kept_plain bound plain = chooses kept.place _ clear zero sum kept_there refl plain (zero_plain bound) (begins sum.place _ there refl)

  later_takes : IsPlain n5.cells n0.group kept.place → IsPlain n5.cells n0.group operand.place → (place : ℕ) (cell : Cell) → length n1.cells ≤ place → slice_get n5.cells place ≡ Some cell → TakesPlain n5.cells n0.group cell.item
  later_takes plain plain_operand place cell after at = elim (cases_eq place sum.place) [
    | inl same ↦
        let is = same_cell _ cell (slice_get n5.cells sum.place) there (subst (λ (k : ℕ). slice_get n5.cells k ≡ Some cell) same at) in
        subst (λ (c : Cell). TakesPlain n5.cells n0.group c.item) is tt
    | inr other ↦ add_takes other (sym (slice_get-set_other n4.cells sum.place place _ other) ∙ subst (λ (m : List Cell). slice_get m place ≡ Some cell) b.cells at)
  ]
    where
      register_takes : (place ≡ sum.place → ⊥) → slice_get n2.cells place ≡ Some cell → TakesPlain n5.cells n0.group cell.item
      register_takes other at = elim (slice_get_push_cases n1.cells _ place cell (subst (λ (m : List Cell). slice_get m place ≡ Some cell) a2.adds.cells at)) [
        | inl early ↦ absurd (let inside = slice_get_within n1.cells place cell early in omega arith)
        | inr last ↦ absurd (other (last.0 ∙ sym a2.adds.place))
      ]

      mux_takes : (place ≡ sum.place → ⊥) → slice_get n3.cells place ≡ Some cell → TakesPlain n5.cells n0.group cell.item
      mux_takes other at = elim (slice_get_push_cases n2.cells _ place cell (subst (λ (m : List Cell). slice_get m place ≡ Some cell) a3.cells at)) [
        | inl before ↦ register_takes other before
        | inr last ↦ subst (λ (c : Cell). TakesPlain n5.cells n0.group c.item) (sym last.1) tt
      ]

      add_takes : (place ≡ sum.place → ⊥) → slice_get n4.cells place ≡ Some cell → TakesPlain n5.cells n0.group cell.item
      add_takes other at = elim (slice_get_push_cases n3.cells _ place cell (subst (λ (m : List Cell). slice_get m place ≡ Some cell) a4.cells at)) [
        | inl before ↦ mux_takes other before
        | inr last ↦ subst (λ (c : Cell). TakesPlain n5.cells n0.group c.item) (sym last.1) (plain, plain_operand)
      ]

  shallow : IsShallow n0.cells n0.group → IsPlain n0.cells n0.group clear.place → IsPlain n0.cells n0.group operand.place → IsShallow n5.cells n0.group
  shallow s plain_clear plain_operand =
      let one : IsShallow n1.cells n0.group = IsShallow-one s in
      let clear_then = IsPlain-later n0.cells n5.cells n0.group s.bound accumulator_grows.extends clear.place plain_clear in
      let operand_then = IsPlain-later n0.cells n5.cells n0.group s.bound accumulator_grows.extends operand.place plain_operand in
      IsShallow-more n1.cells n5.cells n0.group back.extends (back.bound (front.bound s.bound)) one (later_takes (kept_plain s.bound clear_then) operand_then)
    where
      IsShallow-one : IsShallow n0.cells n0.group → IsShallow n1.cells n0.group
      IsShallow-one s = IsShallow-more n0.cells n1.cells n0.group front.extends (front.bound s.bound) s
          (λ place cell after at. elim (slice_get_push_cases n0.cells _ place cell (subst (λ (m : List Cell). slice_get m place ≡ Some cell) a1.cells at)) [
            | inl early ↦ absurd (let inside = slice_get_within n0.cells place cell early in omega arith)
            | inr last ↦ subst (λ (c : Cell). TakesPlain n1.cells n0.group c.item) (sym last.1) tt
          ])

  -- values

  module _ (cut : Cut) (law : IsCut cut) (x : ℕ → ℤ) (v : Values) (r : IsRun cut n5.cells x v) where
    r4 : IsRun cut n4.cells x v
    r4 = (Extends-grown begun wide b).runs cut law x v r

    r3 : IsRun cut n3.cells x v
    r3 = (Extends-adds a4).runs cut law x v r4

    r1 : IsRun cut n1.cells x v
    r1 = back.extends.runs cut law x v r

    zeros : (t : ℕ) → v t zero.place ≡ pos 0
    zeros t = r1.each zero.place _ (cell_of_added a1) t ∙ ap (λ (c : Bool). cut c 1 (wrap 1 (pos 0))) (nameless_data n0.group true some) ∙ ap (cut false 1) (wrap_zero 1 (omega arith)) ∙ law.fitting false 1 (pos 0) (omega arith) (FitsWidth-zero 1)

    own_value : (t : ℕ) → cut false width (v t sum.place) ≡ v t sum.place
    own_value t = IsRun-keeps cut law n5.cells x v sum.place _ r there wide t

    keeps : (t : ℕ) → v t kept.place ≡ kept_sum v t clear sum
    keeps t =
        r3.each kept.place _ (cell_of_added a3) t ∙ ap (λ (c : Bool). cut c width (chosen (v t clear.place) (v t zero.place) (v t sum.place))) (nameless_data n2.group true some2)
        ∙ ap (λ (z : ℤ). cut false width (chosen (v t clear.place) z (v t sum.place))) (zeros t)
        ∙ chosen_kept (cut false width) (v t clear.place) (pos 0) (v t sum.place) (law.fitting false width (pos 0) wide (FitsWidth-zero width)) (own_value t)

    sums : (t : ℕ) → v t next.place ≡ cut false width (kept_sum v t clear sum +ℤ v t operand.place)
    sums t =
        r4.each next.place _ (cell_of_added a4) t ∙ ap (λ (c : Bool). cut c width (v t kept.place +ℤ v t operand.place)) (nameless_data n3.group true some3)
        ∙ ap (λ (z : ℤ). cut false width (z +ℤ v t operand.place)) (keeps t)

    takes : (t : ℕ) → FitsWidth width (kept_sum v t clear sum +ℤ v t operand.place) → v (suc t) sum.place ≡ kept_sum v t clear sum +ℤ v t operand.place
    takes t fits =
        let whole : ℤ = kept_sum v t clear sum +ℤ v t operand.place in
        (r.each sum.place _ there).1 t ∙ ap (cut false width) (sums t) ∙ law.again false width whole wide ∙ law.fitting false width whole wide fits

  is_accumulator : (count : ℕ) → IsCounted n0.cells n0.group Register count → IsAccumulator n5.cells n0.group (name_of n0.group Register count) clear operand width sum
  is_accumulator count c = record {
    register = record { cell = _; there = there; of_group = a1.group; named = ap (λ (m : Name). Some m) (name_is count c); wide = refl; registered = (next, refl) };
    starts = λ cut law x v r. (r.each sum.place _ there).0;
    takes = takes;
  }

  pub AddsAccumulator-circuit : AddsAccumulator n0 n5 clear operand width sum
  AddsAccumulator-circuit = record {
    grows = accumulator_grows;
    adders = adders;
    named = named;
    accumulator = is_accumulator;
    within = slice_get_within n5.cells sum.place _ there;
    counted = counted_more;
    names = record {
      free = λ name other f. leaves_free.free name (λ e. other (inl (ap (λ (m : Name). m.group) e, ap (λ (m : Name). m.kind) e))) (free_adds a1 name f);
    };
    linear = linear;
    shallow = shallow;
  }
