-- An accumulator in a net.
use Rattle.std.proofs.Common.{◌≡◌, ℕ, suc, ◌+◌, ◌<◌, ◌≤◌, List, length, refl, sym, ◌∙◌, ap, arith, Some, None, slice_get, inl, inr, subst, ℤ, pos, ◌+ℤ◌, ◌-ℤ◌, ◌*ℤ◌, Bool, true, false}
use Rattle.std.proofs.lemmas.Bool.{cases_eq}
use Rattle.std.proofs.lemmas.Option.{slice_get_within}
use Rattle.mr_values.specs.Width.{chosen, wrap}
use Rattle.mr_values.proofs.WidthLemmas.{wrap_zero, FitsWidth-zero}
use Rattle.net_graph.specs.declared.cell.Cell.{Cell}
use Rattle.net_graph.specs.declared.cell.Node.{Node}
use Rattle.net_graph.specs.declared.cell.Item.TheVariants.{Constant, Add, Sub, Shl, Mux, Register as RegisterItem}
use Rattle.net_graph.specs.declared.name.NameKind.TheVariants.{Register}
use Rattle.net_graph.specs.Cells.{NetView}
use Rattle.net_graph.specs.Count.{adders_in}
use Rattle.net_graph.specs.Cut.{Cut, IsCut}
use Rattle.net_graph.specs.Depth.{IsPlain, begins, passes, TakesPlain, IsShallow}
use Rattle.net_graph.specs.Grow.{Grows, Adds, AddsRegister, IsBoundTo}
use Rattle.net_graph.specs.Run.{Values, IsRun}
use Rattle.net_graph.proofs.Lists.{slice_get_push_cases, slice_get-set_other}
use Rattle.net_graph.proofs.CellLemmas.{same_cell}
use Rattle.net_graph.proofs.CountLemmas.{adders_plain, adders_more, adders_register, adders_bind}
use Rattle.net_graph.proofs.DepthLemmas.{IsPlain-later, IsShallow-adds}
use Rattle.net_graph.proofs.GroupLemmas.{nameless_data}
use Rattle.net_graph.proofs.NetLemmas.{Extends-adds, IsRun-keeps, cell_of_added, cell_of_register}
use Rattle.net_graph.proofs.GrowLemmas.{named_own, Grows-trans, Grows-data, GrowsBut, GrowsBut-register, GrowsBut-adds, GrowsBut-unbound, Grows-bind, Extends-grown, cell_of_grown}
use Rattle.pipeline_balance.specs.Costs.{SameNamed}
use Rattle.pipeline_balance.specs.Gate.{IsTickOf, IsBitOf}
use Rattle.pipeline_balance.specs.Numbered.{LeavesFree, name_of}
use Rattle.pipeline_balance.proofs.CostLemmas.{SameNamed-trans, SameNamed-adds, SameNamed-register, SameNamed-bind}
use Rattle.pipeline_balance.proofs.CounterLemmas.{there_bound, there_then}
use Rattle.pipeline_balance.proofs.NumberedLemmas.{free_register, free_adds, free_bind}
use Rattle.pipeline_balance.proofs.ShallowLemmas.{shallow_same}
use Rattle.pipeline_balance.proofs.TakenLemmas.{chosen_kept}
use Rattle.distributed_table.specs.Serial.{AddsAccumulator}
use Rattle.distributed_table.proofs.PartLemmas.{IsShallow-more}
use Rattle.distributed_table.proofs.TickLemmas.{summed}

module _ {n0 n1 n2 n3 n4 n5 n6 n7 : NetView} {begin table zero negated sum doubled added next : Node} {number width : ℕ} (some : 1 ≤ n0.group) (wide : 1 ≤ width) (has_table : table.place < length n0.cells)
    (a1 : Adds n0 n1 zero 1 (Constant (wrap 1 (pos 0)))) (a2 : Adds n1 n2 negated width (Sub zero table)) (a3 : AddsRegister n2 n3 sum (name_of n0.group Register number) width) (a4 : Adds n3 n4 doubled (width + 1) (Shl sum 1))
    (a5 : Adds n4 n5 added width (Add doubled table)) (a6 : Adds n5 n6 next width (Mux begin negated added)) (b : IsBoundTo n6 n7 sum next) where
  some1 : 1 ≤ n1.group
  some1 = rw a1.group some

  same2 : n2.group ≡ n0.group
  same2 = a2.group ∙ a1.group

  some2 : 1 ≤ n2.group
  some2 = rw same2 some

  some3 : 1 ≤ n3.group
  some3 = rw a3.group some2

  some4 : 1 ≤ n4.group
  some4 = rw a4.group some3

  some5 : 1 ≤ n5.group
  some5 = rw a5.group some4

  front : Grows n0 n2
  front = Grows-trans (Grows-data some a1 refl) (Grows-data some1 a2 refl)

  begun : GrowsBut n2 n6 sum (record { group = n2.group; name = Some (name_of n0.group Register number); width = width; item = None })
  begun = GrowsBut-adds (GrowsBut-adds (GrowsBut-adds (GrowsBut-register a3) a4 refl (λ e. absurd (omega arith))) a5 refl (λ e. absurd (omega arith))) a6 refl (λ e. absurd (omega arith))

  back : Grows n2 n7
  back = Grows-bind (named_own (record { group = n2.group; name = Some (name_of n0.group Register number); width = width; item = None }) (name_of n0.group Register number) refl (sym same2) some2) begun wide b (λ is. absurd (cc))

  pub serial_grows : Grows n0 n7
  serial_grows = Grows-trans front back

  there : slice_get n7.cells sum.place ≡ Some (record { group = n2.group; name = Some (name_of n0.group Register number); width = width; item = Some (RegisterItem next) })
  there = cell_of_grown begun b

  -- other nodes stay as they are
  doubled_there : slice_get n7.cells doubled.place ≡ Some (record { group = n3.group; name = None; width = width + 1; item = Some (Shl sum 1) })
  doubled_there = there_bound doubled.place b (λ same. let at = a4.place in let inside = slice_get_within n3.cells sum.place _ (cell_of_register a3) in absurd (omega arith)) (there_then doubled.place a6 (there_then doubled.place a5 (cell_of_added a4)))

  own_plain : IsPlain n7.cells n0.group sum.place
  own_plain = begins sum.place _ there refl

  doubled_plain : IsPlain n7.cells n0.group doubled.place
  doubled_plain = passes doubled.place _ sum doubled_there refl own_plain

  later_takes : IsPlain n7.cells n0.group table.place → (place : ℕ) (cell : Cell) → length n2.cells ≤ place → slice_get n7.cells place ≡ Some cell → TakesPlain n7.cells n0.group cell.item
  later_takes plain place cell after at = elim (cases_eq place sum.place) [
    | inl same ↦
        let is = same_cell _ cell (slice_get n7.cells sum.place) there (subst (λ (k : ℕ). slice_get n7.cells k ≡ Some cell) same at) in
        subst (λ (c : Cell). TakesPlain n7.cells n0.group c.item) is tt
    | inr other ↦ mux_takes other (sym (slice_get-set_other n6.cells sum.place place _ other) ∙ subst (λ (m : List Cell). slice_get m place ≡ Some cell) b.cells at)
  ]
    where
      register_takes : (place ≡ sum.place → ⊥) → slice_get n3.cells place ≡ Some cell → TakesPlain n7.cells n0.group cell.item
      register_takes other at = elim (slice_get_push_cases n2.cells _ place cell (subst (λ (m : List Cell). slice_get m place ≡ Some cell) a3.cells at)) [
        | inl early ↦ absurd (let inside = slice_get_within n2.cells place cell early in omega arith)
        | inr last ↦ absurd (other (last.0 ∙ sym a3.place))
      ]

      shift_takes : (place ≡ sum.place → ⊥) → slice_get n4.cells place ≡ Some cell → TakesPlain n7.cells n0.group cell.item
      shift_takes other at = elim (slice_get_push_cases n3.cells _ place cell (subst (λ (m : List Cell). slice_get m place ≡ Some cell) a4.cells at)) [
        | inl before ↦ register_takes other before
        | inr last ↦ subst (λ (c : Cell). TakesPlain n7.cells n0.group c.item) (sym last.1) tt
      ]

      add_takes : (place ≡ sum.place → ⊥) → slice_get n5.cells place ≡ Some cell → TakesPlain n7.cells n0.group cell.item
      add_takes other at = elim (slice_get_push_cases n4.cells _ place cell (subst (λ (m : List Cell). slice_get m place ≡ Some cell) a5.cells at)) [
        | inl before ↦ shift_takes other before
        | inr last ↦ subst (λ (c : Cell). TakesPlain n7.cells n0.group c.item) (sym last.1) (doubled_plain, plain)
      ]

      mux_takes : (place ≡ sum.place → ⊥) → slice_get n6.cells place ≡ Some cell → TakesPlain n7.cells n0.group cell.item
      mux_takes other at = elim (slice_get_push_cases n5.cells _ place cell (subst (λ (m : List Cell). slice_get m place ≡ Some cell) a6.cells at)) [
        | inl before ↦ add_takes other before
        | inr last ↦ subst (λ (c : Cell). TakesPlain n7.cells n0.group c.item) (sym last.1) tt
      ]

  serial_shallow : IsShallow n0.cells n0.group → IsPlain n0.cells n0.group table.place → IsShallow n7.cells n0.group
  serial_shallow s plain =
      let g1 : Grows n0 n1 = Grows-data some a1 refl in
      let s1 : IsShallow n1.cells n0.group = shallow_same n0.group g1 (adders_plain n0.group a1 refl) s in
      let zero_plain : IsPlain n1.cells n0.group zero.place = begins zero.place _ (cell_of_added a1) refl in
      let table_plain : IsPlain n1.cells n0.group table.place = IsPlain-later n0.cells n1.cells n0.group s.bound g1.extends table.place plain in
      let s1' : IsShallow n1.cells n1.group = subst (λ (g : ℕ). IsShallow n1.cells g) (sym a1.group) s1 in
      let takes : IsPlain n1.cells n1.group zero.place × IsPlain n1.cells n1.group table.place = subst (λ (g : ℕ). IsPlain n1.cells g zero.place × IsPlain n1.cells g table.place) (sym a1.group) (zero_plain, table_plain) in
      let s2' : IsShallow n2.cells n1.group = IsShallow-adds a2 s1' takes in
      let s2 : IsShallow n2.cells n0.group = subst (λ (g : ℕ). IsShallow n2.cells g) a1.group s2' in
      IsShallow-more n2.cells n7.cells n0.group back.extends (back.bound s2.bound) s2 (later_takes (IsPlain-later n0.cells n7.cells n0.group s.bound serial_grows.extends table.place plain))

  serial_adders : adders_in n0.group n7.cells ≡ adders_in n0.group n0.cells + 2
  serial_adders =
      let g2 : n2.group ≡ n0.group = same2 in
      let g4 : n4.group ≡ n0.group = a4.group ∙ a3.group ∙ g2 in
      let e1 = adders_plain n0.group a1 refl in
      let e2 = adders_more n0.group a2 refl a1.group in
      let e3 = adders_register n0.group a3 in
      let e4 = adders_plain n0.group a4 refl in
      let e5 = adders_more n0.group a5 refl g4 in
      let e6 = adders_plain n0.group a6 refl in
      let e7 = adders_bind n0.group (GrowsBut-unbound begun) b in
      omega (arith, e1, e2, e3, e4, e5, e6, e7)

  serial_named : SameNamed n0.cells n7.cells
  serial_named = SameNamed-trans (SameNamed-adds a1) (SameNamed-trans (SameNamed-adds a2) (SameNamed-trans (SameNamed-register refl refl a3) (SameNamed-trans (SameNamed-adds a4) (SameNamed-trans (SameNamed-adds a5) (SameNamed-trans (SameNamed-adds a6) (SameNamed-bind (GrowsBut-unbound begun) b))))))

  pub serial_names : LeavesFree n0.cells n7.cells (λ name. name ≡ name_of n0.group Register number)
  serial_names = record {
    free = λ name other f. free_bind (GrowsBut-unbound begun) b name (free_adds a6 name (free_adds a5 name (free_adds a4 name (free_register a3 name other (free_adds a2 name (free_adds a1 name f))))));
  }

  module _ (cut : Cut) (law : IsCut cut) (x : ℕ → ℤ) (v : Values) (r : IsRun cut n7.cells x v) where
    r6 : IsRun cut n6.cells x v
    r6 = (Extends-grown begun wide b).runs cut law x v r

    r5 : IsRun cut n5.cells x v
    r5 = (Extends-adds a6).runs cut law x v r6

    r4 : IsRun cut n4.cells x v
    r4 = (Extends-adds a5).runs cut law x v r5

    r2 : IsRun cut n2.cells x v
    r2 = back.extends.runs cut law x v r

    r1 : IsRun cut n1.cells x v
    r1 = (Extends-adds a2).runs cut law x v r2

    zeros : (t : ℕ) → v t zero.place ≡ pos 0
    zeros t = r1.each zero.place _ (cell_of_added a1) t ∙ ap (λ (c : Bool). cut c 1 (wrap 1 (pos 0))) (nameless_data n0.group true some) ∙ ap (cut false 1) (wrap_zero 1 (omega arith)) ∙ law.fitting false 1 (pos 0) (omega arith) (FitsWidth-zero 1)

    negations : (t : ℕ) → v t negated.place ≡ cut false width (pos 0 -ℤ v t table.place)
    negations t =
        r2.each negated.place _ (cell_of_added a2) t ∙ ap (λ (c : Bool). cut c width (v t zero.place -ℤ v t table.place)) (nameless_data n1.group true some1) ∙ ap (λ (z : ℤ). cut false width (z -ℤ v t table.place)) (zeros t)

    own : (t : ℕ) → cut false width (v t sum.place) ≡ v t sum.place
    own t = IsRun-keeps cut law n7.cells x v sum.place _ r there wide t

    doubles : (t : ℕ) → v t doubled.place ≡ v t sum.place *ℤ pos 2
    doubles t = r4.each doubled.place _ (cell_of_added a4) t ∙ ap (λ (c : Bool). cut c (width + 1) (v t sum.place *ℤ pos 2)) (nameless_data n3.group true some3) ∙ law.data_scales false width 1 (v t sum.place) wide (own t)

    sums : (t : ℕ) → v t added.place ≡ cut false width (v t sum.place *ℤ pos 2 +ℤ v t table.place)
    sums t =
        r5.each added.place _ (cell_of_added a5) t ∙ ap (λ (c : Bool). cut c width (v t doubled.place +ℤ v t table.place)) (nameless_data n4.group true some4) ∙ ap (λ (z : ℤ). cut false width (z +ℤ v t table.place)) (doubles t)

    steps : (t : ℕ) → v (suc t) sum.place ≡ chosen (v t begin.place) (cut false width (pos 0 -ℤ v t table.place)) (cut false width (v t sum.place *ℤ pos 2 +ℤ v t table.place))
    steps t =
        let c = cut false width in
        let o : ℤ = v t begin.place in
        let minus : ℤ = pos 0 -ℤ v t table.place in
        let twice : ℤ = v t sum.place *ℤ pos 2 +ℤ v t table.place in
        (r.each sum.place _ there).1 t ∙ ap c (r6.each next.place _ (cell_of_added a6) t ∙ ap (λ (e : Bool). cut e width (chosen o (v t negated.place) (v t added.place))) (nameless_data n5.group true some5)) ∙ law.again false width _ wide
        ∙ ap (λ (z : ℤ). c (chosen o z (v t added.place))) (negations t) ∙ ap (λ (z : ℤ). c (chosen o (c minus) z)) (sums t) ∙ chosen_kept c o (c minus) (c twice) (law.again false width minus wide) (law.again false width twice wide)

  pub AddsAccumulator-circuit : (period first : ℕ) → IsBitOf n0.cells (IsTickOf period first) begin → AddsAccumulator n0 n7 period first table number width sum
  AddsAccumulator-circuit period first bit = record {
    part = record {
      grows = serial_grows;
      counts = serial_adders;
      windows = serial_named.windows n0.group;
      tabled = serial_named.tables n0.group ∙ omega arith;
      names = serial_names;
    };
    shallow = serial_shallow;
    register = record { cell = _; there = there; of_group = same2; named = refl; wide = refl; registered = (next, refl) };
    serial = record {
      within = slice_get_within n7.cells sum.place _ there;
      held = λ cut law x v r n j h kept.
          let old_run = serial_grows.extends.runs cut law x v r in
          summed period first (λ s. v s begin.place) (λ s. v s table.place) (λ s. v s sum.place) (cut false width) (steps cut law x v r) (bit.sets cut law x v old_run) (bit.clears cut law x v old_run) n j h kept;
    };
  }
