-- What an accumulator adds, in a net.
use Rattle.std.proofs.Common.{◌≡◌, ℕ, suc, ◌+◌, ◌/◌, ◌^◌, ◌<◌, ◌≤◌, List, length, get_or, refl, sym, ◌∙◌, ap, arith, subst, inl, inr, Option, None, Some, slice_get, ℤ, pos, ◌*ℤ◌, Bool, true, false}
use Rattle.std.proofs.lemmas.Bool.{cases_lt}
use Rattle.std.proofs.lemmas.Int.{ints}
use Rattle.std.proofs.lemmas.Option.{slice_get_within, slice_get-get_or}
use Rattle.std.proofs.Math.IntN.{*ℤ_comm}
use Rattle.mr_values.specs.Width.{set_bit, chosen, wrap}
use Rattle.mr_values.proofs.WidthLemmas.{wrap_zero, FitsWidth-zero}
use Rattle.net_graph.specs.declared.cell.Cell.{Cell}
use Rattle.net_graph.specs.declared.cell.Node.{Node}
use Rattle.net_graph.specs.declared.cell.Item.TheVariants.{Constant, Shl, Mux}
use Rattle.net_graph.specs.Cells.{NetView, cell_at}
use Rattle.net_graph.specs.Name.{is_control}
use Rattle.net_graph.specs.Cut.{Cut, IsCut}
use Rattle.net_graph.specs.Depth.{IsPlain, begins, passes, chooses}
use Rattle.net_graph.specs.Grow.{Extends, Grows, Adds}
use Rattle.net_graph.specs.Run.{Values, IsRun}
use Rattle.net_graph.specs.WellFormed.{IsBound}
use Rattle.net_graph.proofs.CellLemmas.{cell_at-is, cell_at-there}
use Rattle.net_graph.proofs.DepthLemmas.{IsPlain-later}
use Rattle.net_graph.proofs.GroupLemmas.{nameless_data}
use Rattle.net_graph.proofs.NetLemmas.{IsRun-keeps, cell_of_added}
use Rattle.net_graph.proofs.GrowLemmas.{Grows-refl, Grows-trans, Grows-data, IsOfControl-later}
use Rattle.pipeline_balance.specs.Phase.{IsNarrow}
use Rattle.pipeline_balance.specs.Shallow.{ArePlain}
use Rattle.pipeline_balance.proofs.CostLemmas.{SameAdders-refl, SameAdders-trans, SameAdders-plain, SameNamed-refl, SameNamed-trans, SameNamed-adds}
use Rattle.pipeline_balance.proofs.NumberedLemmas.{free_adds, width-later, LeavesFree-refl, LeavesFree-trans}
use Rattle.pipeline_balance.proofs.SelectLemmas.{IsNarrow-later}
use Rattle.pipeline_balance.proofs.ShapeLemmas.{KeepsShapes-refl, KeepsShapes-trans, KeepsShapes-adds}
use Rattle.pipeline_balance.proofs.TakenLemmas.{chosen_kept, node_kept}
use Rattle.signed_digit.specs.declared.term_list.Term.{Term}
use Rattle.fold_schedule.specs.Sums.{taken}
use Rattle.folded_fir.specs.Operands.{node_at, AreCopies, HaveRoom, AreBelow, IsScaled, AddsOperand}

-- ---- a power of two

pub IsScaled-none : (net : NetView) (from : Node) → from.place < length net.cells → IsScaled net net from 0 from
IsScaled-none net from within = record {
  grows = Grows-refl net;
  within = within;
  wide = omega arith;
  scales = λ cut law x v r t. one_times (v t from.place);
  adders = SameAdders-refl net.cells;
  named = SameNamed-refl net.cells;
  names = LeavesFree-refl net.cells (λ name. ⊥);
  linear = KeepsShapes-refl net.cells;
  plain = λ bound p. p;
}
  where
    one_times : (z : ℤ) → z ≡ pos 1 *ℤ z
    one_times z = omega (arith, ints)

pub IsScaled-shl : {old new : NetView} {from to : Node} {by width : ℕ} → 1 ≤ old.group → from.place < length old.cells → 1 ≤ (cell_at old.cells from.place).width → width ≡ (cell_at old.cells from.place).width + by → Adds old new to width (Shl from by) → IsScaled old new from by to
IsScaled-shl {old} {new} {from} {to} {by} {width} data_group within some same a =
    let there = cell_of_added a in
    let grown = Grows-data data_group a refl in
    let was : Cell = cell_at old.cells from.place in
    record {
      grows = grown;
      within = slice_get_within new.cells to.place _ there;
      wide = ap (λ (c : Cell). c.width) (cell_at-is new.cells to.place _ there) ∙ same;
      scales = λ cut law x v r t.
          let kept = IsRun-keeps cut law old.cells x v from.place (cell_at old.cells from.place) (grown.extends.runs cut law x v r) (cell_at-there old.cells from.place within) some t in
          r.each to.place _ there t ∙ ap (λ (c : Bool). cut c width (v t from.place *ℤ pos (2 ^ by))) (nameless_data old.group true data_group)
          ∙ ap (λ (w : ℕ). cut false w (v t from.place *ℤ pos (2 ^ by))) same ∙ law.data_scales (is_control (cell_at old.cells from.place)) (cell_at old.cells from.place).width by (v t from.place) some kept
          ∙ turned (v t from.place) (pos (2 ^ by));
      adders = SameAdders-plain a refl;
      named = SameNamed-adds a;
      names = record { free = λ name other f. free_adds a name f };
      linear = KeepsShapes-adds a tt;
      plain = λ bound p. passes to.place _ from there refl (IsPlain-later old.cells new.cells old.group bound grown.extends from.place p);
    }
  where
    turned : (y z : ℤ) → y *ℤ z ≡ z *ℤ y
    turned y z = *ℤ_comm y z

-- ---- bit by bit

pub AddsOperand-none : {old new : NetView} {width : ℕ} {to : Node} (bits copies : List Node) (up : ℕ) (terms : List (Option Term)) → 1 ≤ old.group → 1 ≤ width → Adds old new to width (Constant (wrap width (pos 0))) → AddsOperand old new bits copies up terms 0 width to
AddsOperand-none {old} {new} {width} {to} bits copies up terms data_group wide a =
    let there = cell_of_added a in
    let own : (cell_at new.cells to.place).width ≡ width = ap (λ (c : Cell). c.width) (cell_at-is new.cells to.place _ there) in
    record {
      grows = Grows-data data_group a refl;
      narrow = record { within = slice_get_within new.cells to.place _ there; some = omega (arith, own, wide); most = omega (arith, own) };
      alone = λ cut law x v r t k less. absurd (omega (arith, less));
      rests = λ cut law x v r t clear.
          r.each to.place _ there t ∙ ap (λ (d : Bool). cut d width (wrap width (pos 0))) (nameless_data old.group true data_group) ∙ ap (cut false width) (wrap_zero width wide) ∙ law.fitting false width (pos 0) wide (FitsWidth-zero width);
      adders = SameAdders-plain a refl;
      named = SameNamed-adds a;
      names = record { free = λ name other f. free_adds a name f };
      linear = λ control. KeepsShapes-adds a tt;
      plain = λ bound first second. begins to.place _ there refl;
    }

-- a bit without a term
pub AddsOperand-skip : {old new : NetView} {bits copies : List Node} {up count width : ℕ} {terms : List (Option Term)} {to : Node} → get_or terms count None ≡ None → AddsOperand old new bits copies up terms count width to → AddsOperand old new bits copies up terms (suc count) width to
AddsOperand-skip {old} {new} {bits} {copies} {up} {count} {width} {terms} {to} none p = record {
  grows = p.grows;
  narrow = p.narrow;
  alone = λ cut law x v r t k less inside only. elim (cases_lt k count) [
    | inl before ↦ p.alone cut law x v r t k before inside only
    | inr past ↦
        let same : k ≡ count = omega (arith, less, past) in
        p.rests cut law x v r t (λ j bit early there. only.clears j bit (λ e. absurd (omega (arith, e, early, past))) there)
        ∙ sym (ap (λ (n : ℕ). taken (λ i. v t (node_at copies (i / up)).place) (get_or terms n None)) same ∙ ap (taken (λ i. v t (node_at copies (i / up)).place)) none)
  ];
  rests = λ cut law x v r t clear. p.rests cut law x v r t (λ k bit less there. clear k bit (omega (arith, less)) there);
  adders = p.adders;
  named = p.named;
  names = p.names;
  linear = p.linear;
  plain = p.plain;
}

-- and one with
module _ {a b c d : NetView} {bits copies : List Node} {up count width : ℕ} {terms : List (Option Term)} {bit last shifted to : Node} {t : Term} (data_group : 1 ≤ a.group) (wide : 1 ≤ width) (at_bit : slice_get bits count ≡ Some bit) (at_term : get_or terms count None ≡ Some t)
    (p : AddsOperand a b bits copies up terms count width last) (s : IsScaled b c (node_at copies (t.index / up)) t.place shifted) (narrow : IsNarrow c.cells width shifted) (m : Adds c d to width (Mux bit shifted last)) where
  group_b : b.group ≡ a.group
  group_b = p.grows.group

  group_c : c.group ≡ a.group
  group_c = s.grows.group ∙ group_b

  group_some : 1 ≤ c.group
  group_some = subst (λ (g : ℕ). 1 ≤ g) (sym group_c) data_group

  there : slice_get d.cells to.place ≡ Some (record { group = c.group; name = None; width = width; item = Some (Mux bit shifted last) })
  there = cell_of_added m

  grown : Grows c d
  grown = Grows-data group_some m refl

  last_narrow : IsNarrow c.cells width last
  last_narrow = IsNarrow-later b.cells c.cells width last p.narrow s.grows.extends

  module _ (cut : Cut) (law : IsCut cut) (x : ℕ → ℤ) (v : Values) (r : IsRun cut d.cells x v) where
    rc : IsRun cut c.cells x v
    rc = grown.extends.runs cut law x v r

    rb : IsRun cut b.cells x v
    rb = s.grows.extends.runs cut law x v rc

    kept : (node : Node) → IsNarrow c.cells width node → (u : ℕ) → cut false width (v u node.place) ≡ v u node.place
    kept node n u = node_kept cut law c.cells x v rc node.place (cell_at c.cells node.place).width width n.within refl n.some n.most u

    choice : (u : ℕ) → v u to.place ≡ chosen (v u bit.place) (v u shifted.place) (v u last.place)
    choice u =
        r.each to.place _ there u ∙ ap (λ (e : Bool). cut e width (chosen (v u bit.place) (v u shifted.place) (v u last.place))) (nameless_data c.group true group_some)
        ∙ chosen_kept (cut false width) (v u bit.place) (v u shifted.place) (v u last.place) (kept shifted narrow u) (kept last last_narrow u)

    off : (u : ℕ) → v u bit.place ≡ pos 0 → v u to.place ≡ v u last.place
    off u clear = choice u ∙ ap (λ (z : ℤ). chosen z (v u shifted.place) (v u last.place)) clear

    on : (u : ℕ) → v u bit.place ≡ set_bit → v u to.place ≡ taken (λ i. v u (node_at copies (i / up)).place) (Some t)
    on u set = choice u ∙ ap (λ (z : ℤ). chosen z (v u shifted.place) (v u last.place)) set ∙ s.scales cut law x v rc u

  shifted_plain : IsBound a.cells → ArePlain a.cells a.group copies → IsPlain a.cells a.group (node_at copies (t.index / up)).place → IsPlain d.cells a.group shifted.place
  shifted_plain bound plain own =
      let bound_b = p.grows.bound bound in
      let in_b : IsPlain b.cells a.group (node_at copies (t.index / up)).place = IsPlain-later a.cells b.cells a.group bound p.grows.extends (node_at copies (t.index / up)).place own in
      let in_c : IsPlain c.cells a.group shifted.place = subst (λ (g : ℕ). IsPlain c.cells g shifted.place) group_b (s.plain bound_b (subst (λ (g : ℕ). IsPlain b.cells g (node_at copies (t.index / up)).place) (sym group_b) in_b)) in
      IsPlain-later c.cells d.cells a.group (s.grows.bound bound_b) grown.extends shifted.place in_c

  pub AddsOperand-more : t.index / up < length copies → AddsOperand a d bits copies up terms (suc count) width to
  AddsOperand-more reads =
      let own : (cell_at d.cells to.place).width ≡ width = ap (λ (e : Cell). e.width) (cell_at-is d.cells to.place _ there) in
      record {
        grows = Grows-trans p.grows (Grows-trans s.grows grown);
        narrow = record { within = slice_get_within d.cells to.place _ there; some = omega (arith, own, wide); most = omega (arith, own) };
        alone = λ cut law x v r u k less inside only. elim (cases_lt k count) [
          | inl before ↦ off cut law x v r u (only.clears count bit (λ e. absurd (omega (arith, e, before))) at_bit) ∙ p.alone cut law x v (rb cut law x v r) u k before inside only
          | inr past ↦
              let same : k ≡ count = omega (arith, less, past) in
              on cut law x v r u (only.sets bit (subst (λ (n : ℕ). slice_get bits n ≡ Some bit) (sym same) at_bit))
              ∙ sym (ap (λ (n : ℕ). taken (λ i. v u (node_at copies (i / up)).place) (get_or terms n None)) same ∙ ap (taken (λ i. v u (node_at copies (i / up)).place)) at_term)
        ];
        rests = λ cut law x v r u clear. off cut law x v r u (clear count bit (omega arith) at_bit) ∙ p.rests cut law x v (rb cut law x v r) u (λ k other less at. clear k other (omega (arith, less)) at);
        adders = SameAdders-trans p.adders (SameAdders-trans s.adders (SameAdders-plain m refl));
        named = SameNamed-trans p.named (SameNamed-trans s.named (SameNamed-adds m));
        names = LeavesFree-trans a.cells b.cells d.cells (λ name. ⊥) (λ name. ⊥) (λ name. ⊥) (λ name no. no) (λ name no. no) p.names
            (LeavesFree-trans b.cells c.cells d.cells (λ name. ⊥) (λ name. ⊥) (λ name. ⊥) (λ name no. no) (λ name no. no) s.names (record { free = λ name other f. free_adds m name f }));
        linear = λ control.
            KeepsShapes-trans (p.linear control) (KeepsShapes-trans s.linear (KeepsShapes-adds m (IsOfControl-later b.cells c.cells bit.place s.grows.extends (IsOfControl-later a.cells b.cells bit.place p.grows.extends (control count bit at_bit)))));
        plain = λ bound first second.
            let all = Grows-trans p.grows (Grows-trans s.grows grown) in
            let bit_plain = IsPlain-later a.cells d.cells a.group bound all.extends bit.place (first.each count bit at_bit) in
            let own_plain = second.each (t.index / up) (node_at copies (t.index / up)) (slice_get-get_or copies (t.index / up) (record { place = 0 }) reads) in
            let last_plain = IsPlain-later b.cells d.cells a.group (p.grows.bound bound) (Grows-trans s.grows grown).extends last.place (p.plain bound first second) in
            chooses to.place _ bit shifted last there refl bit_plain (shifted_plain bound second own_plain) last_plain;
      }

-- ---- widths

-- a copy is as wide in a longer net
copy_width : {old new : List Cell} {copies : List Node} (age : ℕ) → Extends old new → AreCopies old copies → age < length copies → (cell_at new (node_at copies age).place).width ≡ (cell_at old (node_at copies age).place).width
copy_width {old} {new} {copies} age e c inside = width-later old new (node_at copies age).place e (c.within age inside)

pub copy_room : {old new : List Cell} {copies : List Node} {up : ℕ} {terms : List (Option Term)} (k : ℕ) (t : Term) → Extends old new → AreCopies old copies → HaveRoom old copies up terms → slice_get terms k ≡ Some (Some t) → (cell_at new (node_at copies (t.index / up)).place).width + t.place ≤ 128
copy_room {old} {new} {copies} {up} {terms} k t e c h at =
    let same = copy_width (t.index / up) e c (h.reads k t at) in
    let narrow = h.narrow k t at in
    omega (arith, same, narrow)

pub shifted_narrow : {old : List Cell} {b c : NetView} {copies : List Node} {up width : ℕ} {terms : List (Option Term)} {shifted : Node} (k : ℕ) (t : Term) → Extends old b.cells → AreCopies old copies → HaveRoom old copies up terms → AreBelow old copies up terms width → slice_get terms k ≡ Some (Some t)
    → IsScaled b c (node_at copies (t.index / up)) t.place shifted → IsNarrow c.cells width shifted
shifted_narrow {old} {b} {c} {copies} {up} {width} {terms} {shifted} k t e are h below at s =
    let same = copy_width (t.index / up) e are (h.reads k t at) in
    let some = are.some (t.index / up) (h.reads k t at) in
    let most = below.each k t at in
    let wide = s.wide in
    record { within = s.within; some = omega (arith, same, some, wide); most = omega (arith, same, most, wide) }
