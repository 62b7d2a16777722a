-- A tree of choices, node by node.
use Rattle.std.proofs.Common.{◌≡◌, ℕ, suc, ◌+◌, ◌<◌, ◌≤◌, List, [], ◌∷◌, length, drop, get_or, refl, sym, ◌∙◌, ap, arith, subst, None, ℤ, pos, negsuc, ◌+ℤ◌, ◌≤ℤ◌, Bool, true, false}
use Rattle.std.specs.Prelude.{unsigned_abs}
use Rattle.std.proofs.Math.Path.{fun_ext}
use Rattle.std.proofs.lemmas.Int.{ints}
use Rattle.std.proofs.lemmas.List.{drop_more}
use Rattle.std.proofs.lemmas.Option.{slice_get_within}
use Rattle.mr_values.specs.Timing.{least_term, low_end, high_end}
use Rattle.mr_values.specs.Width.{FitsWidth, IsLeastWidth, chosen, wrap}
use Rattle.mr_values.proofs.WidthLemmas.{wrap_fits}
use Rattle.net_graph.specs.declared.cell.Cell.{Cell}
use Rattle.net_graph.specs.declared.cell.Node.{Node}
use Rattle.net_graph.specs.declared.cell.Item.TheVariants.{Constant, Mux}
use Rattle.net_graph.specs.declared.name.NameKind.TheVariants.{Table}
use Rattle.net_graph.specs.Cells.{NetView, cell_at}
use Rattle.net_graph.specs.Cut.{Cut, IsCut}
use Rattle.net_graph.specs.Depth.{IsPlain, begins, chooses}
use Rattle.net_graph.specs.Grow.{Extends, Grows, Adds, IsNamedAs}
use Rattle.net_graph.specs.Name.{is_control}
use Rattle.net_graph.specs.Run.{Values, IsRun}
use Rattle.net_graph.specs.WellFormed.{IsBound}
use Rattle.net_graph.proofs.CellLemmas.{cell_at-is}
use Rattle.net_graph.proofs.DepthLemmas.{IsPlain-later}
use Rattle.net_graph.proofs.GroupLemmas.{nameless_data}
use Rattle.net_graph.proofs.GrowLemmas.{Grows-data}
use Rattle.net_graph.proofs.NetLemmas.{IsRun-keeps, Extends-trans, cell_of_added}
use Rattle.pipeline_balance.specs.Numbered.{name_of}
use Rattle.pipeline_balance.proofs.CostLemmas.{SameAdders-plain, SameNamed-adds}
use Rattle.pipeline_balance.proofs.NumberedLemmas.{free_adds}
use Rattle.pipeline_balance.proofs.TakenLemmas.{chosen_kept}
use Rattle.stage_law.specs.Streams.{magnitudes}
use Rattle.bit_serial.specs.Tables.{chosen_sum}
use Rattle.bit_serial.proofs.EndLemmas.{entry_ends}
use Rattle.distributed_table.specs.Choices.{SumsFit, AddsChoices, AddsTable}
use Rattle.distributed_table.specs.Copies.{node_at}
use Rattle.distributed_table.specs.Parts.{AddsPart}
use Rattle.distributed_table.proofs.NameLemmas.{AddsPart-named, named_extends, named_tables}
use Rattle.distributed_table.proofs.OwnTableLemmas.{HasTables-grown}
use Rattle.net_graph.specs.Count.{is_adder}
use Rattle.net_graph.specs.Name.{is_input}
use Rattle.distributed_table.proofs.PartLemmas.{AddsPart-plain, AddsPart-then}

pub fits_between : (w : ℕ) (lo v hi : ℤ) → FitsWidth w lo → FitsWidth w hi → lo ≤ℤ v → v ≤ℤ hi → FitsWidth w v
fits_between w lo v hi p q a b = record { low = omega (arith, ints, p.low, a); high = omega (arith, ints, q.high, b) }

-- ---- the sums fit

ends_ordered : (cs : List ℤ) → low_end cs (pos 0) (pos 1) ≤ℤ high_end cs (pos 0) (pos 1)
ends_ordered cs = let e = entry_ends cs (λ k. pos 0) 0 in omega (arith, ints, e.0, e.1)

term_ends : (c : ℤ) → (least_term (pos 0) (pos 1) c ≤ℤ c) × (c ≤ℤ least_term (pos 1) (pos 0) c) × (least_term (pos 0) (pos 1) c ≤ℤ pos 0) × (pos 0 ≤ℤ least_term (pos 1) (pos 0) c)
term_ends (pos c) = (omega (arith, ints), omega (arith, ints), omega (arith, ints), omega (arith, ints))
term_ends (negsuc c) = (omega (arith, ints), omega (arith, ints), omega (arith, ints), omega (arith, ints))

pub SumsFit-with : (width : ℕ) (c : ℤ) (cs : List ℤ) (so_far : ℤ) → SumsFit width (c ∷ cs) so_far → SumsFit width cs (so_far +ℤ c)
SumsFit-with width c cs so_far f =
    let e = term_ends c in
    let o = ends_ordered cs in
    record {
      low = fits_between width _ _ _ f.low f.high (omega (arith, ints, e.0)) (omega (arith, ints, e.1, o));
      high = fits_between width _ _ _ f.low f.high (omega (arith, ints, e.0, o)) (omega (arith, ints, e.1));
    }

pub SumsFit-without : (width : ℕ) (c : ℤ) (cs : List ℤ) (so_far : ℤ) → SumsFit width (c ∷ cs) so_far → SumsFit width cs so_far
SumsFit-without width c cs so_far f =
    let e = term_ends c in
    let o = ends_ordered cs in
    record {
      low = fits_between width _ _ _ f.low f.high (omega (arith, ints, e.2)) (omega (arith, ints, e.3, o));
      high = fits_between width _ _ _ f.low f.high (omega (arith, ints, e.2, o)) (omega (arith, ints, e.3));
    }

-- the width of a table
pub SumsFit-all : (width : ℕ) (cs : List ℤ) (low high : ℤ) → low ≡ low_end cs (pos 0) (pos 1) → high ≡ high_end cs (pos 0) (pos 1) → IsLeastWidth low high width → SumsFit width cs (pos 0)
SumsFit-all width cs low high l h w = record {
  low = subst (FitsWidth width) (l ∙ sym (none (low_end cs (pos 0) (pos 1)))) w.holds_low;
  high = subst (FitsWidth width) (h ∙ sym (none (high_end cs (pos 0) (pos 1)))) w.holds_high;
}
  where
    none : (z : ℤ) → pos 0 +ℤ z ≡ z
    none z = omega (arith, ints)

-- ---- the nodes

pub AddsChoices-end : {old new : NetView} {root : Node} {width : ℕ} (on : ℕ → Node) (so_far : ℤ) → 1 ≤ old.group → 1 ≤ width → SumsFit width [] so_far → Adds old new root width (Constant (wrap width so_far)) → AddsChoices old new [] on so_far width root
AddsChoices-end {old} {new} {root} {width} on so_far some wide f a =
    let none : so_far +ℤ pos 0 ≡ so_far = omega (arith, ints) in
    let fit : FitsWidth width so_far = subst (FitsWidth width) none f.low in
    record {
      part = AddsPart-plain (λ name. ⊥) some (Grows-data some a refl) (SameAdders-plain a refl) (SameNamed-adds a) (record { free = λ name other g. free_adds a name g });
      cell = _;
      there = cell_of_added a;
      later = omega (arith, a.place);
      of_group = refl;
      nameless = refl;
      no_adder = refl;
      wide = refl;
      plain = record { plain = λ bound ons. begins root.place _ (cell_of_added a) refl };
      sums = record {
        chosen = λ cut law x v r t.
            r.each root.place _ (cell_of_added a) t ∙ ap (λ (c : Bool). cut c width (wrap width so_far)) (nameless_data old.group true some) ∙ ap (cut false width) (wrap_fits width so_far wide fit) ∙ law.fitting false width so_far wide fit;
      };
    }

module _ {a b d new : NetView} {yes no root : Node} {width : ℕ} (c : ℤ) (cs : List ℤ) (on : ℕ → Node) (so_far : ℤ) (some : 1 ≤ a.group) (wide : 1 ≤ width) (y : AddsChoices a b cs (λ k. on (suc k)) (so_far +ℤ c) width yes) (n : AddsChoices b d cs (λ k. on (suc k)) so_far width no)
    (m : Adds d new root width (Mux (on 0) yes no)) where
  d_group : d.group ≡ a.group
  d_group = n.part.grows.group ∙ y.part.grows.group

  d_some : 1 ≤ d.group
  d_some = rw d_group some

  last : Grows d new
  last = Grows-data d_some m refl

  choices_part : AddsPart a new (λ name. ⊥) 0 0
  choices_part =
      AddsPart-then (λ name. ⊥) (λ name. ⊥) (λ name. ⊥) (λ name h. h) (λ name h. h) (AddsPart-then (λ name. ⊥) (λ name. ⊥) (λ name. ⊥) (λ name h. h) (λ name h. h) y.part n.part)
      (AddsPart-plain (λ name. ⊥) d_some last (SameAdders-plain m refl) (SameNamed-adds m) (record { free = λ name other g. free_adds m name g }))

  from_b : Extends b.cells new.cells
  from_b = Extends-trans _ _ _ n.part.grows.extends last.extends

  choices_plain : IsBound a.cells → ((k : ℕ) → k < length (c ∷ cs) → IsPlain a.cells a.group (on k).place) → IsPlain new.cells a.group root.place
  choices_plain bound ons =
      let bound_b = y.part.grows.bound bound in
      let bound_d = n.part.grows.bound bound_b in
      let first = IsPlain-later a.cells new.cells a.group bound choices_part.grows.extends (on 0).place (ons 0 (omega arith)) in
      let rest : (k : ℕ) → k < length cs → IsPlain a.cells a.group (on (suc k)).place = λ k h. ons (suc k) (omega arith) in
      let yes_plain = IsPlain-later b.cells new.cells a.group bound_b from_b yes.place (y.plain.plain bound rest) in
      let rest_b : (k : ℕ) → k < length cs → IsPlain b.cells b.group (on (suc k)).place =
      λ k h. subst (λ (g : ℕ). IsPlain b.cells g (on (suc k)).place) (sym y.part.grows.group) (IsPlain-later a.cells b.cells a.group bound y.part.grows.extends (on (suc k)).place (rest k h)) in
      let no_in_d = subst (λ (g : ℕ). IsPlain d.cells g no.place) y.part.grows.group (n.plain.plain bound_b rest_b) in
      let no_plain = IsPlain-later d.cells new.cells a.group bound_d last.extends no.place no_in_d in
      chooses root.place _ (on 0) yes no (cell_of_added m) refl first yes_plain no_plain

  choices_sum : (cut : Cut) → IsCut cut → (x : ℕ → ℤ) (v : Values) → IsRun cut new.cells x v → (t : ℕ) → v t root.place ≡ chosen_sum (c ∷ cs) so_far (λ k. v t (on k).place)
  choices_sum cut law x v r t =
      let rd = last.extends.runs cut law x v r in
      let rb = n.part.grows.extends.runs cut law x v rd in
      let yes_wide : 1 ≤ y.cell.width = let w = y.wide in omega arith in
      let no_wide : 1 ≤ n.cell.width = let w = n.wide in omega arith in
      let yes_most : y.cell.width ≤ width = let w = y.wide in omega arith in
      let no_most : n.cell.width ≤ width = let w = n.wide in omega arith in
      let yes_kept = law.data_keeps (is_control y.cell) y.cell.width width (v t yes.place) yes_wide yes_most (IsRun-keeps cut law b.cells x v yes.place y.cell rb y.there yes_wide t) in
      let no_kept = law.data_keeps (is_control n.cell) n.cell.width width (v t no.place) no_wide no_most (IsRun-keeps cut law d.cells x v no.place n.cell rd n.there no_wide t) in
      let o : ℤ = v t (on 0).place in
      r.each root.place _ (cell_of_added m) t ∙ ap (λ (e : Bool). cut e width (chosen o (v t yes.place) (v t no.place))) (nameless_data d.group true d_some)
      ∙ chosen_kept (cut false width) o (v t yes.place) (v t no.place) yes_kept no_kept
      ∙ ap (λ (z : ℤ). chosen o z (v t no.place)) (y.sums.chosen cut law x v rb t) ∙ ap (λ (z : ℤ). chosen o (chosen_sum cs (so_far +ℤ c) (λ k. v t (on (suc k)).place)) z) (n.sums.chosen cut law x v rd t)

  pub AddsChoices-more : AddsChoices a new (c ∷ cs) on so_far width root
  AddsChoices-more = record {
    part = choices_part;
    cell = _;
    there = cell_of_added m;
    later = omega (arith, m.place, y.part.grows.extends.longer, n.part.grows.extends.longer);
    of_group = d_group;
    nameless = refl;
    no_adder = refl;
    wide = refl;
    plain = record { plain = choices_plain };
    sums = record { chosen = choices_sum };
  }

-- ---- from a place of a run on

pub triangle : (a b : ℤ) → unsigned_abs (a +ℤ b) ≤ unsigned_abs a + unsigned_abs b
triangle (pos a) (pos b) = omega (arith, ints)
triangle (pos a) (negsuc b) = omega (arith, ints)
triangle (negsuc a) (pos b) = omega (arith, ints)
triangle (negsuc a) (negsuc b) = omega (arith, ints)

module _ (taps : List ℤ) (place : ℕ) (so_far more : ℤ) (less : place < length taps) (is : more ≡ so_far +ℤ get_or taps place (pos 0)) where
  head : drop place taps ≡ get_or taps place (pos 0) ∷ drop (place + 1) taps
  head = drop_more taps place (pos 0) less

  pub fits_with : (width : ℕ) → SumsFit width (drop place taps) so_far → SumsFit width (drop (place + 1) taps) more
  fits_with width f = subst (SumsFit width (drop (place + 1) taps)) (sym is) (SumsFit-with width (get_or taps place (pos 0)) (drop (place + 1) taps) so_far (subst (λ (cs : List ℤ). SumsFit width cs so_far) head f))

  pub fits_without : (width : ℕ) → SumsFit width (drop place taps) so_far → SumsFit width (drop (place + 1) taps) so_far
  fits_without width f = SumsFit-without width (get_or taps place (pos 0)) (drop (place + 1) taps) so_far (subst (λ (cs : List ℤ). SumsFit width cs so_far) head f)

  split : magnitudes (drop place taps) ≡ unsigned_abs (get_or taps place (pos 0)) + magnitudes (drop (place + 1) taps)
  split = ap magnitudes head

  pub small_tap : (most : ℕ) → unsigned_abs so_far + magnitudes (drop place taps) ≤ most → unsigned_abs so_far + unsigned_abs (get_or taps place (pos 0)) ≤ most
  small_tap most h = omega (arith, split)

  pub small_with : (most : ℕ) → unsigned_abs so_far + magnitudes (drop place taps) ≤ most → unsigned_abs more + magnitudes (drop (place + 1) taps) ≤ most
  small_with most h =
      let t : unsigned_abs more ≤ unsigned_abs so_far + unsigned_abs (get_or taps place (pos 0)) = subst (λ (z : ℤ). unsigned_abs z ≤ unsigned_abs so_far + unsigned_abs (get_or taps place (pos 0))) (sym is) (triangle so_far (get_or taps place (pos 0))) in
      omega (arith, split)

  pub small_without : (most : ℕ) → unsigned_abs so_far + magnitudes (drop place taps) ≤ most → unsigned_abs so_far + magnitudes (drop (place + 1) taps) ≤ most
  small_without most h = omega (arith, split)

  pub AddsChoices-place : {a b d new : NetView} {yes no root : Node} {width : ℕ} (address : List Node) → 1 ≤ a.group → 1 ≤ width → AddsChoices a b (drop (place + 1) taps) (λ k. node_at address (place + 1 + k)) more width yes
      → AddsChoices b d (drop (place + 1) taps) (λ k. node_at address (place + 1 + k)) so_far width no → Adds d new root width (Mux (node_at address place) yes no) → AddsChoices a new (drop place taps) (λ k. node_at address (place + k)) so_far width root
  AddsChoices-place {a} {b} {d} {new} {yes} {no} {root} {width} address some wide y n m =
      let on : ℕ → Node = λ (k : ℕ). node_at address (place + k) in
      let tap : ℤ = get_or taps place (pos 0) in
      let rest : List ℤ = drop (place + 1) taps in
      let later : (λ (k : ℕ). node_at address (place + 1 + k)) ≡ (λ (k : ℕ). node_at address (place + suc k)) = fun_ext (λ k. ap (node_at address) (omega arith)) in
      let y1 = subst (λ (f : ℕ → Node). AddsChoices a b rest f more width yes) later y in
      let y2 = subst (λ (z : ℤ). AddsChoices a b rest (λ k. node_at address (place + suc k)) z width yes) is y1 in
      let n1 = subst (λ (f : ℕ → Node). AddsChoices b d rest f so_far width no) later n in
      let here : node_at address place ≡ node_at address (place + 0) = ap (node_at address) (omega arith) in
      let m1 = subst (λ (o : Node). Adds d new root width (Mux o yes no)) here m in
      subst (λ (cs : List ℤ). AddsChoices a new cs on so_far width root) (sym head) (AddsChoices-more tap rest on so_far some wide y2 n1 m1)

-- ---- the name

pub AddsTable-named : {old mid new : NetView} {root : Node} {number width : ℕ} {taps : List ℤ} {on : ℕ → Node} → 1 ≤ old.group → AddsChoices old mid taps on (pos 0) width root → IsNamedAs mid new root (name_of old.group Table number) → AddsTable old new number taps on root
AddsTable-named {old} {mid} {new} {root} {number} {width} {taps} {on} some p n =
    let same = p.part.grows.group in
    let is = cell_at-is mid.cells root.place p.cell p.there in
    let inside = slice_get_within mid.cells root.place p.cell p.there in
    let own : (cell_at mid.cells root.place).group ≡ old.group = ap (λ (c : Cell). c.group) is ∙ p.of_group in
    let nameless : (cell_at mid.cells root.place).name ≡ None = ap (λ (c : Cell). c.name) is ∙ p.nameless in
    let whole = AddsPart-named number some p.part p.later inside nameless own n in
    let longer : Extends mid.cells new.cells = named_extends number some inside nameless own n in
    record {
      part = whole;
      tables = λ bound has.
          let before = HasTables-grown p.part.grows bound (p.part.tabled ∙ omega arith) has in
          let fresh = p.part.grows.added root.place p.cell p.later p.there in
          let item_is = ap (λ (c : Cell). c.item) is in
          named_tables number some inside nameless own n (ap is_adder item_is ∙ p.no_adder) (ap is_input item_is ∙ fresh.no_input) before;
      within = omega (arith, longer.longer, inside);
      plain = record {
        plain = λ bound ons. IsPlain-later mid.cells new.cells old.group (p.part.grows.bound bound) longer root.place (p.plain.plain bound ons);
      };
      sums = record { chosen = λ cut law x v r t. p.sums.chosen cut law x v (longer.runs cut law x v r) t };
    }
