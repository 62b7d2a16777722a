-- At most one adder stands between two registers while a net grows.
use Rattle.std.proofs.Common.{◌≡◌, ℕ, zero, suc, ◌+◌, ◌<◌, ◌≤◌, List, [], ◌∷◌, length, Option, None, Some, slice_get, IsSome, refl, sym, ◌∙◌, ap, subst, arith, inl, inr, Bool, true, false, ◌&&◌, eqb, eq-eqb}
use Rattle.std.proofs.lemmas.Bool.{cases_lt}
use Rattle.std.proofs.lemmas.Option.{slice_get_within}
use Rattle.net_graph.specs.declared.cell.Cell.{Cell}
use Rattle.net_graph.specs.declared.cell.Node.{Node}
use Rattle.net_graph.specs.declared.cell.Item.{Item}
use Rattle.net_graph.specs.declared.cell.Item.TheVariants.{Input, Constant, Add, Sub, Shl, Shr, Mux, Equal, Bits, Register}
use Rattle.net_graph.specs.Cells.{NetView, cell_at}
use Rattle.net_graph.specs.Count.{total, one_if, is_adder, adder, adders_in}
use Rattle.net_graph.specs.Depth.{is_source, passed_on, IsPlain, of_other, begins, passes, chooses, compares, TakesPlain, IsShallow, IsUntouched}
use Rattle.net_graph.specs.Grow.{Extends, Adds}
use Rattle.net_graph.specs.WellFormed.{IsBound}
use Rattle.net_graph.proofs.Lists.{slice_get_push_cases}
use Rattle.net_graph.proofs.CellLemmas.{cell_at-there, same_cell}
use Rattle.net_graph.proofs.NetLemmas.{Extends-adds}

-- ---- plain nodes stay plain

module _ (old new : List Cell) (group : ℕ) (bound : IsBound old) (e : Extends old new) where
  pub IsPlain-later : (place : ℕ) → IsPlain old group place → IsPlain new group place
  IsPlain-later p0 (of_other place cell at other) =
      let k = e.keeps place cell at in of_other place k.cell k.there (λ is. other (sym k.group ∙ is))
  IsPlain-later p0 (begins place cell at is) =
      let k = e.keeps place cell at in begins place k.cell k.there (ap is_source (k.item (bound.each place cell at)) ∙ is)
  IsPlain-later p0 (passes place cell a at is p) =
      let k = e.keeps place cell at in passes place k.cell a k.there (ap passed_on (k.item (bound.each place cell at)) ∙ is) (IsPlain-later a.place p)
  IsPlain-later p0 (chooses place cell on a b at is p q r) =
      let k = e.keeps place cell at in
      chooses place k.cell on a b k.there (k.item (bound.each place cell at) ∙ is) (IsPlain-later on.place p) (IsPlain-later a.place q) (IsPlain-later b.place r)
  IsPlain-later p0 (compares place cell a b at is p q) =
      let k = e.keeps place cell at in compares place k.cell a b k.there (k.item (bound.each place cell at) ∙ is) (IsPlain-later a.place p) (IsPlain-later b.place q)

  pub TakesPlain-later : (item : Option Item) → TakesPlain old group item → TakesPlain new group item
  TakesPlain-later (Some (Add a b)) p = (IsPlain-later a.place p.0, IsPlain-later b.place p.1)
  TakesPlain-later (Some (Sub a b)) p = (IsPlain-later a.place p.0, IsPlain-later b.place p.1)
  TakesPlain-later None p = tt
  TakesPlain-later (Some Input) p = tt
  TakesPlain-later (Some (Constant v)) p = tt
  TakesPlain-later (Some (Shl a by)) p = tt
  TakesPlain-later (Some (Shr a by)) p = tt
  TakesPlain-later (Some (Mux on a b)) p = tt
  TakesPlain-later (Some (Equal a b)) p = tt
  TakesPlain-later (Some (Bits a high low)) p = tt
  TakesPlain-later (Some (Register next)) p = tt

-- an item that is no adder takes no plain node
pub TakesPlain-none : (cells : List Cell) (group : ℕ) (item : Option Item) → is_adder item ≡ false → TakesPlain cells group item
TakesPlain-none cells group (Some (Add a b)) e = absurd (cc)
TakesPlain-none cells group (Some (Sub a b)) e = absurd (cc)
TakesPlain-none cells group None e = tt
TakesPlain-none cells group (Some Input) e = tt
TakesPlain-none cells group (Some (Constant v)) e = tt
TakesPlain-none cells group (Some (Shl a by)) e = tt
TakesPlain-none cells group (Some (Shr a by)) e = tt
TakesPlain-none cells group (Some (Mux on a b)) e = tt
TakesPlain-none cells group (Some (Equal a b)) e = tt
TakesPlain-none cells group (Some (Bits a high low)) e = tt
TakesPlain-none cells group (Some (Register next)) e = tt

-- ---- nets that get no adder of the group

-- where each node counts what it counted, a further node counts besides
total_more : (count : Cell → ℕ) (old new : List Cell) → length old ≤ length new
    → ((place : ℕ) (cell other : Cell) → slice_get old place ≡ Some cell → slice_get new place ≡ Some other → count other ≡ count cell)
    → (place : ℕ) (cell : Cell) → length old ≤ place → slice_get new place ≡ Some cell → total count old + count cell ≤ total count new
total_more count [] [] longer kept place cell after at = absurd (cc)
total_more count [] (y ∷ new) longer kept zero cell after at = let is : y ≡ cell = cc in let e = ap count is in omega (arith, e)
total_more count [] (y ∷ new) longer kept (suc place) cell after at =
    let more = total_more count [] new (omega arith) (λ k was other was_at there. absurd (omega (arith, slice_get_within {A = Cell} [] k was was_at))) place cell (omega arith) at in omega (arith, more)
total_more count (x ∷ old) [] longer kept place cell after at = absurd (omega (arith, longer))
total_more count (x ∷ old) (y ∷ new) longer kept zero cell after at = absurd (omega (arith, after))
total_more count (x ∷ old) (y ∷ new) longer kept (suc place) cell after at =
    let same = kept 0 x y refl refl in
    let more = total_more count old new (omega (arith, longer)) (λ k. kept (suc k)) place cell (omega (arith, after)) at in
    omega (arith, same, more)

no_adder_of : (own is : Bool) → own ≡ true → one_if (own && is) ≡ 0 → is ≡ false
no_adder_of true false e z = refl
no_adder_of true true e z = absurd (omega (arith, z))
no_adder_of false is e z = absurd (cc)

-- a net that has the same adders of a group as before stays shallow there
pub IsShallow-same : (old new : List Cell) (group : ℕ) → Extends old new → IsBound new → adders_in group new ≡ adders_in group old → IsShallow old group → IsShallow new group
IsShallow-same old new group e bound same s = record {
  bound = bound;
  each = λ place cell at own. elim (cases_lt place (length old)) [
    | inl less ↦
        let was = cell_at old place in
        let before = cell_at-there old place less in
        let k = e.keeps place was before in
        let is : k.cell ≡ cell = same_cell k.cell cell (slice_get new place) k.there at in
        let item_is : was.item ≡ cell.item = sym (k.item (s.bound.each place was before)) ∙ ap (λ (c : Cell). c.item) is in
        let group_is : was.group ≡ group = sym k.group ∙ ap (λ (c : Cell). c.group) is ∙ own in
        subst (λ (i : Option Item). TakesPlain new group i) item_is (TakesPlain-later old new group s.bound e was.item (s.each place was before group_is))
    | inr more ↦
        let counted = total_more (adder group) old new e.longer kept place cell more at in
        let nothing : adder group cell ≡ 0 = omega (arith, counted, same) in
        TakesPlain-none new group cell.item (no_adder_of (eqb cell.group group) (is_adder cell.item) (eq-eqb cell.group group own) nothing)
  ];
}
  where
    kept : (place : ℕ) (cell other : Cell) → slice_get old place ≡ Some cell → slice_get new place ≡ Some other → adder group other ≡ adder group cell
    kept place cell other at there =
        let k = e.keeps place cell at in
        let is : k.cell ≡ other = same_cell k.cell other (slice_get new place) k.there there in
        ap (adder group) (sym is) ∙ (λ i. one_if (eqb (k.group i) group && is_adder (k.item (s.bound.each place cell at) i)))

-- ---- one more node

pub IsShallow-adds : {old new : NetView} {node : Node} {width : ℕ} {item : Item} → Adds old new node width item → IsShallow old.cells old.group → TakesPlain old.cells old.group (Some item) → IsShallow new.cells old.group
IsShallow-adds {old} {new} {node} {width} {item} a s takes =
    let own : Cell = record { group = old.group; name = None; width = width; item = Some item } in
    let e = Extends-adds a in
    record {
      bound = record {
        each = λ place cell at. elim (slice_get_push_cases old.cells own place cell (subst (λ (m : List Cell). slice_get m place ≡ Some cell) a.cells at)) [
          | inl before ↦ s.bound.each place cell before
          | inr last ↦ subst (λ (c : Cell). IsSome c.item) (sym last.1) refl
        ];
      };
      each = λ place cell at is. elim (slice_get_push_cases old.cells own place cell (subst (λ (m : List Cell). slice_get m place ≡ Some cell) a.cells at)) [
        | inl before ↦ TakesPlain-later old.cells new.cells old.group s.bound e cell.item (s.each place cell before is)
        | inr last ↦ subst (λ (c : Cell). TakesPlain new.cells old.group c.item) (sym last.1) (TakesPlain-later old.cells new.cells old.group s.bound e (Some item) takes)
      ];
    }

-- a net without nodes of the group
pub IsShallow-none : (cells : List Cell) (group : ℕ) → IsBound cells → IsUntouched cells group → IsShallow cells group
IsShallow-none cells group bound none = record { bound = bound; each = λ place cell at own. absurd (none.none place cell at own) }

pub IsPlain-untouched : (cells : List Cell) (group place : ℕ) → IsUntouched cells group → place < length cells → IsPlain cells group place
IsPlain-untouched cells group place none inside = of_other place (cell_at cells place) (cell_at-there cells place inside) (none.none place (cell_at cells place) (cell_at-there cells place inside))
