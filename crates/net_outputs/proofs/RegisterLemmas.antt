-- The output register, call by call.
use Rattle.std.proofs.Common.{◌≡◌, ◌⊎◌, inl, inr, ℕ, suc, ◌+◌, ◌*◌, ◌<◌, ◌≤◌, ◌^◌, List, length, refl, sym, ◌∙◌, ap, arith, Option, Some, None, slice_get, subst, ℤ, pos, ◌*ℤ◌, Bool, false, not, ◌&&◌}
use Rattle.std.specs.Prelude.{slice_set}
use Rattle.std.proofs.lemmas.Bool.{cases_eq}
use Rattle.std.proofs.lemmas.Int.{ints}
use Rattle.std.proofs.lemmas.Option.{same_Some}
use Rattle.mr_values.specs.Sequence.{Sequence}
use Rattle.mr_values.specs.Width.{FitsWidth, IsLeastWidth}
use Rattle.net_graph.specs.declared.cell.Cell.{Cell}
use Rattle.net_graph.specs.declared.cell.Node.{Node}
use Rattle.net_graph.specs.declared.cell.Stream.{Stream}
use Rattle.net_graph.specs.declared.cell.Item.TheVariants.{Shl}
use Rattle.net_graph.specs.declared.name.Name.{Name}
use Rattle.net_graph.specs.declared.name.NameKind.{NameKind}
use Rattle.net_graph.specs.declared.name.NameKind.TheVariants.{Control, Output, Valid}
use Rattle.net_graph.specs.Cells.{NetView, cell_at}
use Rattle.net_graph.specs.Name.{is_control, is_control_name, is_input}
use Rattle.net_graph.specs.WellFormed.{IsFree}
use Rattle.net_graph.specs.Count.{total, adder, window, table, windows_in, tables_in, is_window, is_table, has_kind, one_if}
use Rattle.net_graph.specs.Grow.{Extends, Lengthens, Adds, IsNamedAs, named_as}
use Rattle.net_graph.specs.Cut.{Cut, IsCut, cut_all, cut_control}
use Rattle.net_graph.specs.Run.{Values, IsRun}
use Rattle.net_graph.proofs.CutLemmas.{IsCut-all, IsCut-control}
use Rattle.net_graph.proofs.Lists.{slice_get-set_same, slice_get-set_other}
use Rattle.net_graph.proofs.CellLemmas.{cell_at-is, cell_at-there}
use Rattle.net_graph.proofs.CountLemmas.{adders_plain, total_set}
use Rattle.net_graph.proofs.NetLemmas.{Extends-trans, cell_of_added}
use Rattle.net_graph.proofs.GrowLemmas.{Grows-refl, lengthened, Lengthens-trans, Lengthens-named, IsOfControl-later}
use Rattle.pipeline_balance.specs.Numbered.{IsRegister, LeavesFree, name_of}
use Rattle.pipeline_balance.specs.Gate.{IsTickOf, IsCounter, AddsGate, Carries, HasTaken, IsTaken, taken_value}
use Rattle.pipeline_balance.specs.Costs.{SameAdders, SameNamed}
use Rattle.pipeline_balance.specs.Tree.{AddsNode}
use Rattle.pipeline_balance.proofs.CostLemmas.{SameAdders-refl, SameAdders-trans, SameAdders-plain, SameNamed-refl, SameNamed-trans, SameNamed-adds, nothing_more, other_kind}
use Rattle.pipeline_balance.proofs.NumberedLemmas.{width-later, IsRegister-later, LeavesFree-refl}
use Rattle.pipeline_balance.proofs.PairLemmas.{AddsNode-adds}
use Rattle.pipeline_balance.proofs.ShapeLemmas.{KeepsShapes-refl, KeepsShapes-trans, KeepsShapes-adds, KeepsShapes-named}
use Rattle.pipeline_balance.proofs.TakenLemmas.{IsBitOf-later, taken}
use Rattle.net_outputs.specs.Register.{IsCutTo, TakesOver, IsKeptWhole, AddsOutputRegister}

pub IsCutTo-same : (net : NetView) (node : Node) (width : ℕ) → node.place < length net.cells → (cell_at net.cells node.place).width ≡ width → IsCutTo net net node width node
IsCutTo-same net node width inside same = record {
  grows = Grows-refl net;
  names = LeavesFree-refl net.cells (λ name. ⊥);
  adders = SameAdders-refl net.cells;
  named = SameNamed-refl net.cells;
  linear = KeepsShapes-refl net.cells;
  within = inside;
  wide = same;
  keeps = λ cut law inputs values run t fits. refl;
}

times_one : (z : ℤ) → z *ℤ pos (2 ^ 0) ≡ z
times_one z = omega (arith, ints)

pub IsCutTo-shl : {old new : NetView} {from to : Node} {width : ℕ} → 1 ≤ old.group → 1 ≤ width → Adds old new to width (Shl from 0) → IsCutTo old new from width to
IsCutTo-shl {old} {new} {from} {to} {width} data_group wide a =
    let node : AddsNode old new 0 to (λ cut v t. cut false width (v t from.place *ℤ pos (2 ^ 0))) =
    AddsNode-adds 0 (λ cut v t. cut false width (v t from.place *ℤ pos (2 ^ 0))) data_group a refl (adders_plain old.group a refl ∙ omega arith) (λ cut law x v r o t. o t) in
    record {
      grows = node.grows;
      names = node.names;
      adders = SameAdders-plain a refl;
      named = SameNamed-adds a;
      linear = KeepsShapes-adds a tt;
      within = node.computes.within;
      wide = ap (λ (c : Cell). c.width) (cell_at-is new.cells to.place _ (cell_of_added a));
      keeps = λ cut law inputs values run t fits.
          node.computes.holds cut law inputs values run t
          ∙ ap (cut false width) (times_one (values t from.place))
          ∙ law.fitting false width (values t from.place) wide fits;
    }

-- the output's name is free on the way
pub output_free : {n0 n1 n2 : NetView} {from : Stream} {node : Node} {gate : Option Node} {width : ℕ} → IsCutTo n0 n1 from.node width node → AddsGate n1 n2 from.period from.offset gate → IsFree n0.cells (name_of 0 Output 0) → IsFree n2.cells (name_of 0 Output 0)
output_free cut_node g f = g.names.free (name_of 0 Output 0) (λ e. absurd (cc)) (cut_node.names.free (name_of 0 Output 0) (λ none. none) f)

module _ {n0 n1 n2 n3 : NetView} {from : Stream} {node out_q : Node} {gate : Option Node} {width : ℕ}
    (cut_node : IsCutTo n0 n1 from.node width node)
    (g : AddsGate n1 n2 from.period from.offset gate)
    (t : (let end : Stream = record { node = node; period = from.period; offset = from.offset } in IsTaken n2 n3 end (name_of 0 Output 0) out_q)) where
  module _ (low high : ℤ) (positive : 1 ≤ from.period) (least : IsLeastWidth low high width) where
    x1 : Extends n1.cells n3.cells
    x1 = Extends-trans n1.cells n2.cells n3.cells g.grows.extends t.lengthens.extends

    end_width : (cell_at n2.cells node.place).width ≡ width
    end_width = width-later n1.cells n2.cells node.place g.grows.extends cut_node.within ∙ cut_node.wide

    takes : TakesOver n3.cells from width out_q
    takes cut law inputs values v fits run carried k =
        let at : ℕ = from.offset + k * from.period in
        let tick : from.offset + 1 + k * from.period ≡ suc at = omega arith in
        let taken : HasTaken from.period from.offset (suc k) (suc at) = (omega arith, omega arith) in
        let fit : FitsWidth width (values at from.node.place) = subst (FitsWidth width) (sym (carried k)) (fits k) in
        ap (λ (s : ℕ). values s out_q.place) tick
        ∙ t.holds.holds cut law inputs values run (suc at) (suc k) taken
        ∙ cut_node.keeps cut law inputs values (x1.runs cut law inputs values run) at fit
        ∙ carried k

    -- what the register's stream shows is what is carried, in each cut
    shown_is : (cut : Cut) → IsCut cut → (inputs : ℕ → ℤ) (values : Values) (v : Sequence) → ((k : ℕ) → FitsWidth width (v (pos k))) → IsRun cut n3.cells inputs values → Carries values from v
        → (k : ℕ) → values (from.offset + k * from.period) node.place ≡ v (pos k)
    shown_is cut law inputs values v fits run carried k =
        let fit : FitsWidth width (values (from.offset + k * from.period) from.node.place) = subst (FitsWidth width) (sym (carried k)) (fits k) in
        cut_node.keeps cut law inputs values (x1.runs cut law inputs values run) (from.offset + k * from.period) fit ∙ carried k

    held : (cut : Cut) → IsCut cut → (inputs : ℕ → ℤ) (values : Values) → IsRun cut n3.cells inputs values → (s n : ℕ) → HasTaken from.period from.offset n s
        → values s out_q.place ≡ taken_value (λ k. values (from.offset + k * from.period) node.place) n 0
    held cut law inputs values run s n has = t.holds.holds cut law inputs values run s n has

    kept : IsKeptWhole n3.cells from width out_q
    kept inputs values whole v fits run uncut carried carried_whole s =
        let some = taken from.period from.offset s positive in
        let same : (k : ℕ) → values (from.offset + k * from.period) node.place ≡ whole (from.offset + k * from.period) node.place =
        λ k. shown_is cut_all IsCut-all inputs values v fits run carried k ∙ sym (shown_is cut_control IsCut-control inputs whole v fits uncut carried_whole k) in
        held cut_all IsCut-all inputs values run s some.0 some.1
        ∙ ap (λ (f : ℕ → ℤ). taken_value f some.0 0) (λ i k. same k i)
        ∙ sym (held cut_control IsCut-control inputs whole uncut s some.0 some.1)

    taken_named : SameNamed n2.cells n3.cells
    taken_named = record {
      windows = λ group. t.windows group ∙ nothing_more (windows_in group n2.cells) (one_if (has_kind is_window group (Some (name_of 0 Output 0)))) (other_kind is_window group (name_of 0 Output 0) refl);
      tables = λ group. t.tables group ∙ nothing_more (tables_in group n2.cells) (one_if (has_kind is_table group (Some (name_of 0 Output 0)))) (other_kind is_table group (name_of 0 Output 0) refl);
    }

    leaves_free : LeavesFree n0.cells n3.cells (λ name. (name ≡ name_of 0 Output 0) ⊎ (name.kind ≡ Control))
    leaves_free = record {
      free = λ name other f. t.names.free name (λ e. other (inl e)) (g.names.free name (λ c. other (inr c)) (cut_node.names.free name (λ none. none) f));
    }

    pub AddsOutputRegister-taken : AddsOutputRegister low high n0 n3 from out_q
    AddsOutputRegister-taken = record {
      lengthens = Lengthens-trans (lengthened cut_node.grows) (Lengthens-trans (lengthened g.grows) t.lengthens);
      width = width;
      least = least;
      group = n2.group;
      is_register = subst (λ (u : ℕ). IsRegister n3.cells out_q.place n2.group (name_of 0 Output 0) u) end_width t.register;
      carries = takes;
      kept_whole = kept;
      names = leaves_free;
      adders = SameAdders-trans cut_node.adders (SameAdders-trans g.adders t.adders);
      named = SameNamed-trans cut_node.named (SameNamed-trans g.named taken_named);
      linear = KeepsShapes-trans cut_node.linear (KeepsShapes-trans g.linear t.linear);
    }
