-- A net that gets no table has the tables that it had.
use Rattle.std.proofs.Common.{◌≡◌, ℕ, zero, suc, ◌<◌, ◌≤◌, ◌+◌, ◌⊎◌, inl, inr, List, [], ◌∷◌, length, Option, None, Some, slice_get, IsSome, Bool, true, false, ◌&&◌, eq-eqb, refl, sym, ◌∙◌, ap, subst, arith}
use Rattle.std.proofs.lemmas.Option.{slice_get_within}
use Rattle.net_graph.specs.declared.cell.Cell.{Cell}
use Rattle.net_graph.specs.declared.cell.Item.{Item}
use Rattle.net_graph.specs.declared.name.Name.{Name}
use Rattle.net_graph.specs.Count.{total, table, tables_in, is_table, is_adder, has_kind, one_if}
use Rattle.net_graph.specs.Grow.{Extends}
use Rattle.net_graph.specs.Name.{is_input}
use Rattle.net_graph.specs.Tables.{HasTables}
use Rattle.net_graph.specs.WellFormed.{IsBound, IsFree}
use Rattle.net_graph.proofs.CellLemmas.{same_cell}

-- ---- sums over a longer net

-- where each node counts at least what it counted, the sum is no smaller
total_least : (count : Cell → ℕ) (old new : List Cell) → length old ≤ length new
    → ((place : ℕ) (cell other : Cell) → slice_get old place ≡ Some cell → slice_get new place ≡ Some other → count cell ≤ count other) → total count old ≤ total count new
total_least count [] new longer kept = omega arith
total_least count (x ∷ old) [] longer kept = absurd (omega (arith, longer))
total_least count (x ∷ old) (y ∷ new) longer kept =
    let here = kept 0 x y refl refl in
    let more = total_least count old new (omega (arith, longer)) (λ k. kept (suc k)) in
    omega (arith, here, more)

-- a node of the longer net counted no less before, or the sum is greater
total_found : (count : Cell → ℕ) (old new : List Cell) → length old ≤ length new
    → ((place : ℕ) (cell other : Cell) → slice_get old place ≡ Some cell → slice_get new place ≡ Some other → count cell ≤ count other)
    → (place : ℕ) (cell : Cell) → slice_get new place ≡ Some cell → 1 ≤ count cell → ((before : Cell) × (slice_get old place ≡ Some before) × (1 ≤ count before)) ⊎ (total count old < total count new)
total_found count old [] longer kept place cell at some = absurd (cc)
total_found count [] (y ∷ new) longer kept zero cell at some = let is : y ≡ cell = cc in let e = ap count is in inr (omega (arith, e, some))
total_found count [] (y ∷ new) longer kept (suc place) cell at some =
    elim (total_found count [] new (omega arith) (λ k was other was_at there. absurd (omega (arith, slice_get_within {A = Cell} [] k was was_at))) place cell at some) [
      | inl found ↦ absurd (omega (arith, slice_get_within {A = Cell} [] place found.0 found.1))
      | inr less ↦ inr (omega (arith, less))
    ]
total_found count (x ∷ old) (y ∷ new) longer kept zero cell at some = by (count x) refl
  where
    by : (n : ℕ) → count x ≡ n → ((before : Cell) × (slice_get (x ∷ old) 0 ≡ Some before) × (1 ≤ count before)) ⊎ (total count (x ∷ old) < total count (y ∷ new))
    by zero none =
        let is : y ≡ cell = cc in
        let e = ap count is in
        let more = total_least count old new (omega (arith, longer)) (λ k. kept (suc k)) in
        inr (omega (arith, none, e, some, more))
    by (suc n) more = inl (x, refl, omega (arith, more))
total_found count (x ∷ old) (y ∷ new) longer kept (suc place) cell at some =
    elim (total_found count old new (omega (arith, longer)) (λ k. kept (suc k)) place cell at some) [
      | inl found ↦ inl found
      | inr less ↦ let here = kept 0 x y refl refl in inr (omega (arith, here, less))
    ]

-- ---- tables

some_name : (o : Option Name) (name : Name) → o ≡ Some name → IsSome o
some_name o name e = subst (λ (p : Option Name). IsSome p) (sym e) refl

one_table : (cell : Cell) (name : Name) → cell.name ≡ Some name → is_table name.kind ≡ true → table name.group cell ≡ 1
one_table cell name named is = ap (λ (o : Option Name). one_if (has_kind is_table name.group o)) named ∙ (rw (eq-eqb name.group name.group refl, is) refl)

has_name : (group : ℕ) (o : Option Name) → 1 ≤ one_if (has_kind is_table group o) → IsSome o
has_name group None more = absurd (omega (arith, more))
has_name group (Some name) more = refl

module _ {old new : List Cell} (e : Extends old new) (bound : IsBound old) (same : (group : ℕ) → tables_in group new ≡ tables_in group old) where
  counted_before : (group place : ℕ) (cell other : Cell) → slice_get old place ≡ Some cell → slice_get new place ≡ Some other → table group cell ≤ table group other
  counted_before group place cell other at there = by cell.name refl
    where
      by : (o : Option Name) → cell.name ≡ o → table group cell ≤ table group other
      by None none = let z = ap (λ (p : Option Name). one_if (has_kind is_table group p)) none in omega (arith, z)
      by (Some name) named =
          let k = e.keeps place cell at in
          let is : k.cell ≡ other = same_cell k.cell other (slice_get new place) k.there there in
          let z = ap (λ (c : Cell). table group c) (sym is) ∙ ap (λ (p : Option Name). one_if (has_kind is_table group p)) (k.name (some_name cell.name name named)) in
          omega (arith, z)

  -- a table of the longer net is one of the shorter
  record IsOldTable (place : ℕ) (cell : Cell) (name : Name) : Type 0 where
    was : Cell
    at : slice_get old place ≡ Some was
    named : was.name ≡ Some name
    group : cell.group ≡ was.group
    item : cell.item ≡ was.item

  old_table : (place : ℕ) (cell : Cell) (name : Name) → slice_get new place ≡ Some cell → cell.name ≡ Some name → is_table name.kind ≡ true → IsOldTable place cell name
  old_table place cell name there named is =
      elim (total_found (table name.group) old new e.longer (counted_before name.group) place cell there (omega (arith, one_table cell name named is))) [
        | inl found ↦
            let was = found.0 in
            let k = e.keeps place was found.1 in
            let one : k.cell ≡ cell = same_cell k.cell cell (slice_get new place) k.there there in
            record {
              was = was;
              at = found.1;
              named = sym (k.name (has_name name.group was.name found.2)) ∙ ap (λ (c : Cell). c.name) one ∙ named;
              group = ap (λ (c : Cell). c.group) (sym one) ∙ k.group;
              item = ap (λ (c : Cell). c.item) (sym one) ∙ k.item (bound.each place was found.1);
            }
        | inr less ↦ absurd (omega (arith, less, same name.group))
      ]

  pub HasTables-same : HasTables old → HasTables new
  HasTables-same has = record {
    plain = record {
      no_adder = λ place cell name there named is. let t = old_table place cell name there named is in ap is_adder t.item ∙ has.plain.no_adder place t.was name t.at t.named is;
      no_input = λ place cell name there named is. let t = old_table place cell name there named is in ap is_input t.item ∙ has.plain.no_input place t.was name t.at t.named is;
    };
    own = record { own = λ place cell name there named is. let t = old_table place cell name there named is in has.own.own place t.was name t.at t.named is ∙ sym t.group };
  }

-- a net without names has no table
pub HasTables-nameless : (cells : List Cell) → ((name : Name) → IsFree cells name) → HasTables cells
HasTables-nameless cells free = record {
  plain = record {
    no_adder = λ place cell name there named is. absurd ((free name).none place cell there named);
    no_input = λ place cell name there named is. absurd ((free name).none place cell there named);
  };
  own = record { own = λ place cell name there named is. absurd ((free name).none place cell there named) };
}
