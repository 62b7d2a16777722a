-- How many adders, windows and tables a group has, as a net grows by other groups.
use Rattle.std.proofs.Common.{◌≡◌, ℕ, suc, ◌+◌, ◌<◌, ◌≤◌, ◌⊎◌, Bool, true, false, ◌&&◌, List, [], ◌∷◌, length, Option, None, Some, slice_get, refl, sym, ◌∙◌, ap, arith, inl, inr}
use Rattle.std.specs.Prelude.{nat_eq}
use Rattle.std.proofs.lemmas.Bool.{eqb-true}
use Rattle.std.proofs.lemmas.Option.{slice_get_within}
use Rattle.net_graph.specs.declared.cell.Cell.{Cell}
use Rattle.net_graph.specs.declared.name.Name.{Name}
use Rattle.net_graph.specs.declared.name.NameKind.{NameKind}
use Rattle.net_graph.specs.declared.name.NameKind.TheVariants.{Control}
use Rattle.net_graph.specs.Cells.{NetView}
use Rattle.net_graph.specs.Count.{total, is_adder, is_window, is_table, has_kind, one_if, adder, adders_in, windows_in, tables_in}
use Rattle.net_graph.specs.Grow.{Grows}
use Rattle.net_graph.specs.WellFormed.{IsBound, IsFree}
use Rattle.net_graph.specs.Depth.{IsShallow}
use Rattle.net_graph.proofs.CellLemmas.{same_cell}
use Rattle.net_graph.proofs.DepthLemmas.{IsShallow-same}

-- ---- sums over a longer net

-- where each node counts what it counted and further ones count nothing, the sum is the same
total_kept : (count : Cell → ℕ) (old new : List Cell) → length old ≤ length new
    → ((place : ℕ) (cell other : Cell) → slice_get old place ≡ Some cell → slice_get new place ≡ Some other → count other ≡ count cell)
    → ((place : ℕ) (cell : Cell) → length old ≤ place → slice_get new place ≡ Some cell → count cell ≡ 0) → total count new ≡ total count old
total_kept count [] [] longer kept none = refl
total_kept count [] (y ∷ new) longer kept none = (λ i. none 0 y (omega arith) refl i + total_kept count [] new (omega arith) (λ place cell other at there. absurd (omega (arith, slice_get_within {A = Cell} [] place cell at))) (λ place cell after there. none (suc place) cell (omega arith) there) i)
total_kept count (x ∷ old) [] longer kept none = absurd (omega (arith, longer))
total_kept count (x ∷ old) (y ∷ new) longer kept none =
    (λ i. kept 0 x y refl refl i + total_kept count old new (omega (arith, longer)) (λ place. kept (suc place)) (λ place cell after there. none (suc place) cell (omega (arith, after)) there) i)

total_none : (count : Cell → ℕ) (cells : List Cell) → ((place : ℕ) (cell : Cell) → slice_get cells place ≡ Some cell → count cell ≡ 0) → total count cells ≡ 0
total_none count [] none = refl
total_none count (x ∷ cells) none = (λ i. none 0 x refl i + total_none count cells (λ place. none (suc place)) i)

false_unless : (b : Bool) → (b ≡ true → ⊥) → b ≡ false
false_unless true f = absurd (f refl)
false_unless false f = refl

both_of : (a b : Bool) → (a && b) ≡ true → (a ≡ true) × (b ≡ true)
both_of true b e = (refl, e)
both_of false b e = absurd (cc)

-- ---- a net that grows by one group

-- a group has the same adders, windows and tables, and stays shallow
pub record HasSame (group : ℕ) (old new : List Cell) : Type 0 where
  pub adders : 1 ≤ group → adders_in group new ≡ adders_in group old
  pub windows : windows_in group new ≡ windows_in group old
  pub tables : tables_in group new ≡ tables_in group old
  pub shallow : 1 ≤ group → IsShallow old group → IsShallow new group

module _ {old new : NetView} (grows : Grows old new) (bound : IsBound old.cells) (group : ℕ) (other : group ≡ old.group → ⊥) where
  longer : length old.cells ≤ length new.cells
  longer = grows.extends.longer

  -- each earlier node counts what it counted
  kept_count : (count : Cell → ℕ) (place : ℕ) (cell later : Cell) → slice_get old.cells place ≡ Some cell → slice_get new.cells place ≡ Some later → count later ≡ count cell
  kept_count count place cell later at there = ap count (sym (same_cell cell later (slice_get new.cells place) ((grows.kept bound).each place cell at) there))

  -- a further node is of control or of the other group
  of_other : (place : ℕ) (cell : Cell) → length old.cells ≤ place → slice_get new.cells place ≡ Some cell → cell.group ≡ group → cell.group ≡ 0
  of_other place cell after there is = by (grows.added place cell after there).of_group
    where
      by : (cell.group ≡ 0) ⊎ (cell.group ≡ old.group) → cell.group ≡ 0
      by (inl control) = control
      by (inr own) = absurd (other (sym is ∙ own))

  new_adder : 1 ≤ group → (place : ℕ) (cell : Cell) → length old.cells ≤ place → slice_get new.cells place ≡ Some cell → adder group cell ≡ 0
  new_adder some place cell after there =
      ap one_if (false_unless (nat_eq cell.group group && is_adder cell.item) (λ e.
      let is : cell.group ≡ group = eqb-true cell.group group (both_of _ _ e).0 in omega (arith, is, some, of_other place cell after there is)))

  same_names : (is : NameKind → Bool) → is Control ≡ false → total (λ (c : Cell). one_if (has_kind is group c.name)) new.cells ≡ total (λ (c : Cell). one_if (has_kind is group c.name)) old.cells
  same_names is data_kind = total_kept (λ (c : Cell). one_if (has_kind is group c.name)) old.cells new.cells longer (kept_count (λ (c : Cell). one_if (has_kind is group c.name))) new_name
    where
      new_name : (place : ℕ) (cell : Cell) → length old.cells ≤ place → slice_get new.cells place ≡ Some cell → one_if (has_kind is group cell.name) ≡ 0
      new_name place cell after there = by cell.name refl
        where
          by : (o : Option Name) → cell.name ≡ o → one_if (has_kind is group o) ≡ 0
          by None e = refl
          by (Some name) e =
              ap one_if (false_unless (nat_eq name.group group && is name.kind) (λ t.
              let parts = both_of (nat_eq name.group group) (is name.kind) t in
              let named = ((grows.named bound).each place cell after there).named name e in
              let control = named.control (of_other place cell after there (sym named.own ∙ eqb-true name.group group parts.0)) in
              let never : true ≡ false = sym parts.1 ∙ ap is control ∙ data_kind in
              absurd (cc)))

  pub HasSame-grows : HasSame group old.cells new.cells
  HasSame-grows = record {
    adders = same_adders;
    windows = same_names is_window refl;
    tables = same_names is_table refl;
    shallow = λ some s. IsShallow-same old.cells new.cells group grows.extends (grows.bound s.bound) (same_adders some) s;
  }
    where
      same_adders : 1 ≤ group → adders_in group new.cells ≡ adders_in group old.cells
      same_adders some = total_kept (adder group) old.cells new.cells longer (kept_count (adder group)) (new_adder some)

-- ---- a group that is not there yet

pub no_adders : (cells : List Cell) (group : ℕ) → ((place : ℕ) (cell : Cell) → slice_get cells place ≡ Some cell → cell.group < group) → adders_in group cells ≡ 0
no_adders cells group below =
    total_none (adder group) cells (λ place cell at. ap one_if (false_unless (nat_eq cell.group group && is_adder cell.item) (λ e. let is = eqb-true cell.group group (both_of _ _ e).0 in omega (arith, is, below place cell at))))

no_names : (is : NameKind → Bool) (cells : List Cell) (group : ℕ) → ((place : ℕ) (cell : Cell) (name : Name) → slice_get cells place ≡ Some cell → cell.name ≡ Some name → name.group ≡ group → is name.kind ≡ true → ⊥)
    → total (λ (c : Cell). one_if (has_kind is group c.name)) cells ≡ 0
no_names is cells group never = total_none (λ (c : Cell). one_if (has_kind is group c.name)) cells one
  where
    one : (place : ℕ) (cell : Cell) → slice_get cells place ≡ Some cell → one_if (has_kind is group cell.name) ≡ 0
    one place cell at = by cell.name refl
      where
        by : (o : Option Name) → cell.name ≡ o → one_if (has_kind is group o) ≡ 0
        by None e = refl
        by (Some name) e =
            ap one_if (false_unless (nat_eq name.group group && is name.kind) (λ t.
            let parts = both_of (nat_eq name.group group) (is name.kind) t in never place cell name at e (eqb-true name.group group parts.0) parts.1))

pub no_windows : (cells : List Cell) (group : ℕ) → ((name : Name) → (name.kind ≡ Control → ⊥) → name.group ≡ group → IsFree cells name) → windows_in group cells ≡ 0
no_windows cells group free = no_names is_window cells group (λ place cell name at is of_group of_kind. (free name (λ control. let e : false ≡ true = sym (ap is_window control) ∙ of_kind in absurd (cc)) of_group).none place cell at is)

pub no_tables : (cells : List Cell) (group : ℕ) → ((name : Name) → (name.kind ≡ Control → ⊥) → name.group ≡ group → IsFree cells name) → tables_in group cells ≡ 0
no_tables cells group free = no_names is_table cells group (λ place cell name at is of_group of_kind. (free name (λ control. let e : false ≡ true = sym (ap is_table control) ∙ of_kind in absurd (cc)) of_group).none place cell at is)
