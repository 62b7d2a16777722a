-- The tables of a longer net.
use Rattle.std.proofs.Common.{◌≡◌, ℕ, suc, ◌≤◌, List, [], ◌∷◌, length, refl, sym, ◌∙◌, ap, subst, arith, Some, None, Option, slice_get, inl, inr, Bool, eqb, ◌&&◌}
use Rattle.std.proofs.lemmas.Bool.{cases_eq}
use Rattle.std.proofs.lemmas.Option.{slice_get_within}
use Rattle.net_graph.specs.declared.cell.Cell.{Cell}
use Rattle.net_graph.specs.declared.name.Name.{Name}
use Rattle.net_graph.specs.Cells.{NetView}
use Rattle.net_graph.specs.Count.{total, one_if, is_table, has_kind, table, tables_in}
use Rattle.net_graph.specs.Grow.{Grows}
use Rattle.net_graph.specs.Tables.{HasTables}
use Rattle.net_graph.specs.WellFormed.{IsBound}
use Rattle.net_graph.proofs.TableLemmas.{HasTables-same}
use Rattle.pipeline_balance.proofs.CostLemmas.{other_kind}

-- where each cell stands and further cells count nothing, the sum is as it was
total_kept : (count : Cell → ℕ) (old new : List Cell) → ((place : ℕ) (cell : Cell) → slice_get old place ≡ Some cell → slice_get new place ≡ Some cell)
    → ((place : ℕ) (cell : Cell) → length old ≤ place → slice_get new place ≡ Some cell → count cell ≡ 0) → total count new ≡ total count old
total_kept count [] [] same none = refl
total_kept count [] (y ∷ new) same none =
    let here = none 0 y (omega arith) refl in
    let rest = total_kept count [] new (λ place cell is. absurd (omega (arith, slice_get_within {A = Cell} [] place cell is))) (λ place cell after is. none (suc place) cell (omega arith) is) in
    omega (arith, here, rest)
total_kept count (x ∷ old) [] same none = let is = same 0 x refl in absurd (cc)
total_kept count (x ∷ old) (y ∷ new) same none =
    let is = same 0 x refl in
    let one : y ≡ x = cc in
    let here = ap count one in
    let rest = total_kept count old new (λ place cell there. same (suc place) cell there) (λ place cell after there. none (suc place) cell (omega arith) there) in
    omega (arith, here, rest)

other_group : (a b : ℕ) (k : Bool) → (a ≡ b → ⊥) → one_if (eqb a b && k) ≡ 0
other_group a b k apart = grind arith

-- where the own group gets no table, the tables are those that were there
pub HasTables-grown : {old new : NetView} → Grows old new → IsBound old.cells → tables_in old.group new.cells ≡ tables_in old.group old.cells → HasTables old.cells → HasTables new.cells
HasTables-grown {old} {new} g bound own = HasTables-same g.extends bound same
  where
    none : (group : ℕ) → (group ≡ old.group → ⊥) → (place : ℕ) (cell : Cell) → length old.cells ≤ place → slice_get new.cells place ≡ Some cell → table group cell ≡ 0
    none group apart place cell after there = by cell.name refl
      where
        by : (o : Option Name) → cell.name ≡ o → table group cell ≡ 0
        by None e = ap (λ (o : Option Name). one_if (has_kind is_table group o)) e
        by (Some name) e =
            let own_name = ((g.named bound).each place cell after there).named name e in
            ap (λ (o : Option Name). one_if (has_kind is_table group o)) e ∙ elim (g.added place cell after there).of_group [
              | inl control ↦ other_kind is_table group name (ap is_table (own_name.control control))
              | inr of_stage ↦ other_group name.group group (is_table name.kind) (λ at. apart (sym at ∙ own_name.own ∙ of_stage))
            ]

    same : (group : ℕ) → tables_in group new.cells ≡ tables_in group old.cells
    same group = elim (cases_eq group old.group) [
      | inl at ↦ subst (λ (k : ℕ). tables_in k new.cells ≡ tables_in k old.cells) (sym at) own
      | inr apart ↦ total_kept (table group) old.cells new.cells (g.kept bound).each (none group apart)
    ]
