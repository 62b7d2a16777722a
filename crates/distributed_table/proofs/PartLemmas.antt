-- Parts one after another.
use Rattle.std.proofs.Common.{◌≡◌, refl, ℕ, ◌+◌, ◌≤◌, List, length, Option, Some, slice_get, inl, inr, sym, ◌∙◌, ap, arith, subst}
use Rattle.std.proofs.lemmas.Bool.{cases_lt}
use Rattle.net_graph.specs.declared.cell.Cell.{Cell}
use Rattle.net_graph.specs.declared.cell.Item.{Item}
use Rattle.net_graph.specs.declared.name.Name.{Name}
use Rattle.net_graph.specs.Cells.{NetView, cell_at}
use Rattle.net_graph.specs.Count.{adders_in, tables_in, windows_in}
use Rattle.net_graph.specs.Depth.{IsShallow, TakesPlain}
use Rattle.net_graph.specs.WellFormed.{IsBound}
use Rattle.net_graph.specs.Grow.{Extends, Grows}
use Rattle.net_graph.proofs.CellLemmas.{cell_at-there, same_cell}
use Rattle.net_graph.proofs.DepthLemmas.{TakesPlain-later}
use Rattle.net_graph.proofs.GrowLemmas.{Grows-refl, Grows-trans}
use Rattle.pipeline_balance.specs.Costs.{SameAdders, SameNamed}
use Rattle.pipeline_balance.specs.Numbered.{LeavesFree}
use Rattle.pipeline_balance.proofs.NumberedLemmas.{LeavesFree-refl, LeavesFree-trans}
use Rattle.pipeline_balance.proofs.ShallowLemmas.{shallow_same}
use Rattle.distributed_table.specs.Parts.{AddsPart}

pub AddsPart-none : (net : NetView) (touched : Name → Type 0) → AddsPart net net touched 0 0
AddsPart-none net touched = record { grows = Grows-refl net; counts = omega arith; windows = refl; tabled = omega arith; names = LeavesFree-refl net.cells touched }

pub AddsPart-then : {a b c : NetView} {m n i j : ℕ} (p q r : Name → Type 0) → ((name : Name) → p name → r name) → ((name : Name) → q name → r name) → AddsPart a b p m i → AddsPart b c q n j → AddsPart a c r (m + n) (i + j)
AddsPart-then {a} {b} {c} {m} {n} {i} {j} p q r first last f g =
    let same = f.grows.group in
    record {
      grows = Grows-trans f.grows g.grows;
      counts =
          let second : adders_in a.group c.cells ≡ adders_in a.group b.cells + n = subst (λ (k : ℕ). adders_in k c.cells ≡ adders_in k b.cells + n) same g.counts in
          let before = f.counts in
          omega (arith, before, second);
      windows = subst (λ (k : ℕ). windows_in k c.cells ≡ windows_in k b.cells) same g.windows ∙ f.windows;
      tabled =
          let second : tables_in a.group c.cells ≡ tables_in a.group b.cells + j = subst (λ (k : ℕ). tables_in k c.cells ≡ tables_in k b.cells + j) same g.tabled in
          let before = f.tabled in
          omega (arith, before, second);
      names = LeavesFree-trans a.cells b.cells c.cells p q r first last f.names g.names;
    }

-- nodes that are no adders, no windows and no tables
pub AddsPart-plain : {old new : NetView} (touched : Name → Type 0) → 1 ≤ old.group → Grows old new → SameAdders old.cells new.cells → SameNamed old.cells new.cells → LeavesFree old.cells new.cells touched → AddsPart old new touched 0 0
AddsPart-plain {old} {new} touched some g adders named names = record {
  grows = g;
  counts = adders.each old.group some ∙ omega arith;
  windows = named.windows old.group;
  tabled = named.tables old.group ∙ omega arith;
  names = names;
}

-- a part without adders keeps the net shallow
pub part_shallow : {old new : NetView} {touched : Name → Type 0} {tables : ℕ} → AddsPart old new touched 0 tables → IsShallow old.cells old.group → IsShallow new.cells old.group
part_shallow {old} p = shallow_same old.group p.grows (p.counts ∙ omega arith)

-- a net whose further adders of the group take plain nodes
pub IsShallow-more : (old new : List Cell) (group : ℕ) → Extends old new → IsBound new → IsShallow old group
    → ((place : ℕ) (cell : Cell) → length old ≤ place → slice_get new place ≡ Some cell → TakesPlain new group cell.item) → IsShallow new group
IsShallow-more old new group e bound s more = record {
  bound = bound;
  each = λ place cell at own. elim (cases_lt place (length old)) [
    | inl less ↦
        let was = cell_at old place in
        let before = cell_at-there old place less in
        let k = e.keeps place was before in
        let is : k.cell ≡ cell = same_cell k.cell cell (slice_get new place) k.there at in
        let item_is : was.item ≡ cell.item = sym (k.item (s.bound.each place was before)) ∙ ap (λ (c : Cell). c.item) is in
        let group_is : was.group ≡ group = sym k.group ∙ ap (λ (c : Cell). c.group) is ∙ own in
        subst (λ (i : Option Item). TakesPlain new group i) item_is (TakesPlain-later old new group s.bound e was.item (s.each place was before group_is))
    | inr after ↦ more place cell after at
  ];
}
