-- The bit that is shown, call by call.
use Rattle.std.proofs.Common.{◌≡◌, ◌⊎◌, inl, inr, ℕ, suc, ◌+◌, ◌*◌, ◌<◌, ◌≤◌, ◌^◌, List, length, refl, sym, ◌∙◌, ap, arith, Option, Some, None, slice_get, subst, ℤ, pos, ◌*ℤ◌, Bool, false, not, ◌&&◌}
use Rattle.std.specs.Prelude.{slice_set}
use Rattle.std.proofs.lemmas.Bool.{cases_eq}
use Rattle.std.proofs.lemmas.Int.{ints}
use Rattle.std.proofs.lemmas.Option.{same_Some}
use Rattle.mr_values.specs.Sequence.{Sequence}
use Rattle.mr_values.specs.Width.{FitsWidth, IsLeastWidth}
use Rattle.net_graph.specs.declared.cell.Cell.{Cell}
use Rattle.net_graph.specs.declared.cell.Node.{Node}
use Rattle.net_graph.specs.declared.cell.Stream.{Stream}
use Rattle.net_graph.specs.declared.cell.Item.TheVariants.{Shl}
use Rattle.net_graph.specs.declared.name.Name.{Name}
use Rattle.net_graph.specs.declared.name.NameKind.{NameKind}
use Rattle.net_graph.specs.declared.name.NameKind.TheVariants.{Control, Output, Valid}
use Rattle.net_graph.specs.Cells.{NetView, cell_at}
use Rattle.net_graph.specs.Name.{is_control, is_control_name, is_input}
use Rattle.net_graph.specs.WellFormed.{IsFree}
use Rattle.net_graph.specs.Count.{total, adder, window, table, windows_in, tables_in, is_window, is_table, has_kind, one_if}
use Rattle.net_graph.specs.Grow.{Extends, Lengthens, Adds, IsNamedAs, named_as}
use Rattle.net_graph.specs.Cut.{Cut, IsCut, cut_all, cut_control}
use Rattle.net_graph.specs.Run.{Values, IsRun}
use Rattle.net_graph.proofs.CutLemmas.{IsCut-all, IsCut-control}
use Rattle.net_graph.proofs.Lists.{slice_get-set_same, slice_get-set_other}
use Rattle.net_graph.proofs.CellLemmas.{cell_at-is, cell_at-there}
use Rattle.net_graph.proofs.CountLemmas.{adders_plain, total_set}
use Rattle.net_graph.proofs.NetLemmas.{Extends-trans, cell_of_added}
use Rattle.net_graph.proofs.GrowLemmas.{Grows-refl, lengthened, Lengthens-trans, Lengthens-named, IsOfControl-later}
use Rattle.pipeline_balance.specs.Numbered.{IsRegister, LeavesFree, name_of}
use Rattle.pipeline_balance.specs.Gate.{IsTickOf, IsCounter, AddsGate, Carries, HasTaken, IsTaken, taken_value}
use Rattle.pipeline_balance.specs.Costs.{SameAdders, SameNamed}
use Rattle.pipeline_balance.specs.Tree.{AddsNode}
use Rattle.pipeline_balance.proofs.CostLemmas.{SameAdders-refl, SameAdders-trans, SameAdders-plain, SameNamed-refl, SameNamed-trans, SameNamed-adds, nothing_more, other_kind}
use Rattle.pipeline_balance.proofs.NumberedLemmas.{width-later, IsRegister-later, LeavesFree-refl}
use Rattle.pipeline_balance.proofs.PairLemmas.{AddsNode-adds}
use Rattle.pipeline_balance.proofs.ShapeLemmas.{KeepsShapes-refl, KeepsShapes-trans, KeepsShapes-adds, KeepsShapes-named}
use Rattle.pipeline_balance.proofs.TakenLemmas.{IsBitOf-later, taken}
use Rattle.net_outputs.specs.Shown.{AddsShownBit}

pub counter_nameless : {old new : NetView} {ticks : ℕ → Type 0} {bit : Node} → IsCounter old new ticks bit → (cell_at new.cells bit.place).name ≡ None
counter_nameless {old} {new} {ticks} {bit} b = ap (λ (c : Cell). c.name) (cell_at-is new.cells bit.place b.shape.cell b.shape.there) ∙ b.nameless

module _ {n3 n4 : NetView} {ticks : ℕ → Type 0} {out_valid : Node} (b : IsCounter n3 n4 ticks out_valid) where
  pub valid_free : IsFree n3.cells (name_of 0 Valid 0) → IsFree n4.cells (name_of 0 Valid 0)
  valid_free f = b.names.free (name_of 0 Valid 0) (λ e. absurd (cc)) f

  module _ {n5 : NetView} (n : IsNamedAs n4 n5 out_valid (name_of 0 Valid 0)) where
    inside : out_valid.place < length n4.cells
    inside = b.bit_of.within

    stays : is_control (named_as (cell_at n4.cells out_valid.place) (name_of 0 Valid 0)) ≡ is_control (cell_at n4.cells out_valid.place)
    stays = ap (λ (o : Option Name). is_control_name o (cell_at n4.cells out_valid.place).group && not (is_input (cell_at n4.cells out_valid.place).item)) (sym (counter_nameless b))

    named_grows : Lengthens n4 n5
    named_grows = Lengthens-named inside (counter_nameless b) stays n

    valid_is : cell_at n5.cells out_valid.place ≡ named_as (cell_at n4.cells out_valid.place) (name_of 0 Valid 0)
    valid_is = cell_at-is n5.cells out_valid.place _ (subst (λ (cells : List Cell). slice_get cells out_valid.place ≡ Some (named_as (cell_at n4.cells out_valid.place) (name_of 0 Valid 0))) (sym n.cells) (slice_get-set_same n4.cells out_valid.place _ inside))

    leaves_free : LeavesFree n3.cells n5.cells (λ name. (name ≡ name_of 0 Valid 0) ⊎ (name.kind ≡ Control))
    leaves_free = record { free = λ name other f. free_named name (λ e. other (inl e)) (b.names.free name (λ c. other (inr c)) f) }
      where
        free_named : (name : Name) → (name ≡ name_of 0 Valid 0 → ⊥) → IsFree n4.cells name → IsFree n5.cells name
        free_named name other f = record { none = λ place cell there is. by place cell is (cases_eq place out_valid.place) (subst (λ (cells : List Cell). slice_get cells place ≡ Some cell) n.cells there) }
          where
            by : (place : ℕ) (cell : Cell) → cell.name ≡ Some name → (place ≡ out_valid.place) ⊎ (place ≡ out_valid.place → ⊥) → slice_get (slice_set n4.cells out_valid.place (named_as (cell_at n4.cells out_valid.place) (name_of 0 Valid 0))) place ≡ Some cell → ⊥
            by place cell is (inl here) there =
                let at : slice_get (slice_set n4.cells out_valid.place (named_as (cell_at n4.cells out_valid.place) (name_of 0 Valid 0))) out_valid.place ≡ Some cell =
                subst (λ (k : ℕ). slice_get (slice_set n4.cells out_valid.place (named_as (cell_at n4.cells out_valid.place) (name_of 0 Valid 0))) k ≡ Some cell) here there in
                let same : named_as (cell_at n4.cells out_valid.place) (name_of 0 Valid 0) ≡ cell = same_Some _ _ (sym (slice_get-set_same n4.cells out_valid.place _ inside) ∙ at) in
                other (same_Some _ _ (sym (ap (λ (c : Cell). c.name) same ∙ is)))
            by place cell is (inr apart) there = f.none place cell (sym (slice_get-set_other n4.cells out_valid.place place _ apart) ∙ there) is

    here : slice_get n4.cells out_valid.place ≡ Some (cell_at n4.cells out_valid.place)
    here = cell_at-there n4.cells out_valid.place inside

    valid_adders : SameAdders n4.cells n5.cells
    valid_adders = record { each = λ group some. ap (total (adder group)) n.cells ∙ total_set (adder group) n4.cells out_valid.place (cell_at n4.cells out_valid.place) (named_as (cell_at n4.cells out_valid.place) (name_of 0 Valid 0)) here refl }

    -- a node without a name is no window's and no table
    unnamed : (is : NameKind → Bool) (group : ℕ) → one_if (has_kind is group (cell_at n4.cells out_valid.place).name) ≡ 0
    unnamed is group = ap (λ (o : Option Name). one_if (has_kind is group o)) (counter_nameless b)

    valid_named : SameNamed n4.cells n5.cells
    valid_named = record {
      windows = λ group. ap (total (window group)) n.cells ∙ total_set (window group) n4.cells out_valid.place (cell_at n4.cells out_valid.place) (named_as (cell_at n4.cells out_valid.place) (name_of 0 Valid 0)) here (other_kind is_window group (name_of 0 Valid 0) refl ∙ sym (unnamed is_window group));
      tables = λ group. ap (total (table group)) n.cells ∙ total_set (table group) n4.cells out_valid.place (cell_at n4.cells out_valid.place) (named_as (cell_at n4.cells out_valid.place) (name_of 0 Valid 0)) here (other_kind is_table group (name_of 0 Valid 0) refl ∙ sym (unnamed is_table group));
    }

    pub AddsShownBit-named : AddsShownBit ticks n3 n5 out_valid
    AddsShownBit-named = record {
      lengthens = Lengthens-trans (lengthened b.grows) named_grows;
      shown = ap (λ (c : Cell). c.name) valid_is;
      shown_width = ap (λ (c : Cell). c.width) valid_is ∙ ap (λ (c : Cell). c.width) (cell_at-is n4.cells out_valid.place b.shape.cell b.shape.there) ∙ b.shape.same_width;
      shown_control = IsOfControl-later n4.cells n5.cells out_valid.place named_grows.extends (record { cell = b.shape.cell; there = b.shape.there; control = b.shape.same_control });
      bit_of = IsBitOf-later b.bit_of named_grows.extends;
      names = leaves_free;
      adders = SameAdders-trans b.adders valid_adders;
      named = SameNamed-trans b.named valid_named;
      linear = KeepsShapes-trans b.linear (KeepsShapes-named named_grows.extends inside n);
    }
