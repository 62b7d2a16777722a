-- What the groups that were added so far cost, and which nodes the linear ones have.
use Rattle.std.proofs.Common.{◌≡◌, ℕ, suc, true, ◌+◌, ◌<◌, ◌≤◌, ◌⊎◌, List, [], ◌∷◌, ◌++◌, length, Some, slice_get, refl, sym, ◌∙◌, ap, subst, arith, inl, inr, append_assoc, append-nil}
use Rattle.std.proofs.lemmas.Bool.{cases_lt, cases_eq}
use Rattle.mr_values.specs.Timing.{Group}
use Rattle.net_graph.specs.declared.cell.Cell.{Cell}
use Rattle.net_graph.specs.declared.cell.Stream.{Stream}
use Rattle.net_graph.specs.declared.name.Name.{Name}
use Rattle.net_graph.specs.declared.name.NameKind.TheVariants.{Control}
use Rattle.net_graph.specs.Cells.{NetView, cell_at}
use Rattle.net_graph.specs.Count.{adders_in, windows_in, tables_in}
use Rattle.net_graph.specs.Grow.{Grows}
use Rattle.net_graph.specs.WellFormed.{IsBound, IsFree}
use Rattle.net_graph.specs.Depth.{IsShallow, IsUntouched}
use Rattle.net_graph.specs.Tables.{HasTables}
use Rattle.net_graph.proofs.CellLemmas.{cell_at-there, same_cell}
use Rattle.net_graph.proofs.DepthLemmas.{IsShallow-same}
use Rattle.net_graph.proofs.TableLemmas.{HasTables-same, HasTables-nameless}
use Rattle.pipeline_balance.specs.Costs.{SameAdders, SameNamed}
use Rattle.stage_law.specs.Realises.{Realises}
use Rattle.stage_law.specs.Streams.{Streams}
use Rattle.chain_build.specs.declared.groups.Added.{Added}
use Rattle.chain_build.specs.declared.groups.GroupCost.{GroupCost}
use Rattle.chain_build.specs.Added.{IsGroupAdded, IsGrown, AreNameless}
use Rattle.chain_build.specs.GroupCosts.{IsCostOf, AreCostsOf, AreUngrouped, HasCosts}
use Rattle.pipeline_balance.specs.Shapes.{HasLinearItems}
use Rattle.stage_law.specs.Kinds.{has_linear_shape}
use Rattle.chain_build.specs.Built.{IsBuiltGroup, kind_of}
use Rattle.chain_build.specs.Shapes.{HaveLinearItems}
use Rattle.chain_build.proofs.ShapesSoFar.{shape_of, HasLinearItems-none, HasLinearItems-other, same_shapes, shapes_with}
use Rattle.chain_build.proofs.FormFacts.{CostsAs}
use Rattle.chain_build.proofs.GroupFacts.{costs-as}
use Rattle.plan_check.specs.Forms.{Flow}
use Rattle.chain_build.proofs.Counting.{HasSame, HasSame-grows, no_adders, no_windows, no_tables}

after_none : (n : ℕ) → 0 + n ≡ n
after_none n = omega arith

-- ---- costs in a net that grows

same_cost : (g : Group) (number : ℕ) (old new : List Cell) (cost : GroupCost) → 1 ≤ number → HasSame number old new → IsCostOf g number old cost → IsCostOf g number new cost
same_cost g number old new cost some same is = record {
  kind = is.kind;
  adders = is.adders;
  windows = is.windows;
  tables = is.tables;
  adders_in = same.adders some ∙ is.adders_in;
  windows_in = same.windows ∙ is.windows_in;
  tables_in = same.tables ∙ is.tables_in;
  shallow = same.shallow some is.shallow;
}

pub same_costs : (number : ℕ) (gs : List Group) (costs : List GroupCost) (old new : List Cell) → 1 ≤ number → ((k : ℕ) → number ≤ k → k < number + length gs → HasSame k old new) → AreCostsOf number gs costs old → AreCostsOf number gs costs new
same_costs number [] [] old new some same are = tt
same_costs number [] (c ∷ costs) old new some same are = are
same_costs number (g ∷ gs) [] old new some same are = are
same_costs number (g ∷ gs) (c ∷ costs) old new some same are = (
  same_cost g number old new c some (same number (omega arith) (omega arith)) are.0,
  same_costs (number + 1) gs costs old new (omega arith) (λ k low high. same k (omega (arith, low)) (omega (arith, high))) are.1,
)

costs_with : (number : ℕ) (gs : List Group) (costs : List GroupCost) (g : Group) (c : GroupCost) (cells : List Cell) → AreCostsOf number gs costs cells → IsCostOf g (number + length gs) cells c → AreCostsOf number (gs ++ g ∷ []) (costs ++ c ∷ []) cells
costs_with number [] [] g c cells are is = (subst (λ (n : ℕ). IsCostOf g n cells c) (let e : number + 0 ≡ number = omega arith in e) is, tt)
costs_with number [] (d ∷ costs) g c cells are is = absurd are
costs_with number (h ∷ gs) [] g c cells are is = absurd are
costs_with number (h ∷ gs) (d ∷ costs) g c cells are is =
    (are.0, costs_with (number + 1) gs costs g c cells are.1 (subst (λ (n : ℕ). IsCostOf g n cells c) (let e : number + suc (length gs) ≡ number + 1 + length gs = omega arith in e) is))

-- ---- the groups so far

pub record CostsSoFar (gs : List Group) (net : List Cell) (rest : List Group) (costs : List GroupCost) (number : ℕ) : Type 0 where
  pub front : List Group
  pub parts : front ++ rest ≡ gs
  pub count : number ≡ 1 + length front
  pub bound : IsBound net
  pub below : (place : ℕ) (cell : Cell) → slice_get net place ≡ Some cell → cell.group < number
  pub known : AreCostsOf 1 front costs net
  pub tables : HasTables net
  pub shapes : HaveLinearItems 1 front net

pub CostsSoFar-start : (gs : List Group) (net : List Cell) → IsBound net → AreUngrouped net → ((name : Name) → IsFree net name) → CostsSoFar gs net gs [] 1
CostsSoFar-start gs net bound ungrouped nameless = record {
  front = [];
  parts = refl;
  count = omega arith;
  bound = bound;
  below = λ place cell at. let e = ungrouped.each cell place at in omega (arith, e);
  known = tt;
  tables = HasTables-nameless net nameless;
  shapes = tt;
}

-- a net of one node without a name
pub CostsSoFar-first : (gs rest : List Group) (old net : NetView) (costs : List GroupCost) → rest ≡ gs → net ≡ record { cells = old.cells; group = 1 } → costs ≡ [] → IsBound old.cells → AreUngrouped old.cells → AreNameless old.cells → CostsSoFar gs net.cells rest costs 1
CostsSoFar-first gs rest old net costs rest_is net_is costs_are bound ungrouped nameless =
    subst (λ (r : List Group). CostsSoFar gs net.cells r costs 1) (sym rest_is)
    (subst (λ (cells : List Cell). CostsSoFar gs cells gs costs 1) (sym (ap (λ (n : NetView). n.cells) net_is))
    (subst (λ (cs : List GroupCost). CostsSoFar gs old.cells gs cs 1) (sym costs_are) (CostsSoFar-start gs old.cells bound ungrouped nameless.free)))

module _ {gs : List Group} {net : List Cell} {rest : List Group} {costs : List GroupCost} {number : ℕ} (so : CostsSoFar gs net rest costs number) {g : Group} {others : List Group} (split : rest ≡ g ∷ others)
    (free : (name : Name) → (name.kind ≡ Control → ⊥) → number ≤ name.group → IsFree net name) where
  pub CostsSoFar-next : IsBuiltGroup g → {new : NetView} {flow : Flow} (mid : NetView) (streams : Streams) (last : Stream) (added : Added) → mid ≡ record { cells = net; group = number } → IsGroupAdded g flow streams mid new last added
      → CostsSoFar gs new.cells others (costs ++ added.cost ∷ []) (number + 1)
  CostsSoFar-next built {new} {flow} mid streams last added is adds = record {
    front = so.front ++ g ∷ [];
    parts = append_assoc so.front (g ∷ []) others ∙ ap (λ (r : List Group). so.front ++ r) (sym split) ∙ so.parts;
    count = let e = so.count in let l = longer so.front in omega (arith, e, l);
    bound = grows.bound bound_mid;
    below = below_new;
    known = known_new;
    tables = tables_new;
    shapes = shapes_new;
  }
    where
      r : Realises adds.facts streams mid new last added.emitted
      r = adds.realises

      grows : Grows mid new
      grows = r.grows

      same_cells : mid.cells ≡ net
      same_cells = ap (λ (n : NetView). n.cells) is

      same_group : mid.group ≡ number
      same_group = ap (λ (n : NetView). n.group) is

      bound_mid : IsBound mid.cells
      bound_mid = subst IsBound (sym same_cells) so.bound

      longer : (xs : List Group) → length (xs ++ g ∷ []) ≡ length xs + 1
      longer [] = refl
      longer (x ∷ xs) = let l = longer xs in omega (arith, l)

      below_new : (place : ℕ) (cell : Cell) → slice_get new.cells place ≡ Some cell → cell.group < number + 1
      below_new place cell there = by (cases_lt place (length mid.cells))
        where
          by : (place < length mid.cells) ⊎ (length mid.cells ≤ place) → cell.group < number + 1
          by (inl low) =
              let was = cell_at-there mid.cells place low in
              let kept = grows.extends.keeps place (cell_at mid.cells place) was in
              let one : kept.cell ≡ cell = same_cell kept.cell cell (slice_get new.cells place) kept.there there in
              let before = so.below place (cell_at mid.cells place) (subst (λ (cells : List Cell). slice_get cells place ≡ Some (cell_at mid.cells place)) same_cells was) in
              let group_is = ap (λ (c : Cell). c.group) (sym one) ∙ kept.group in
              omega (arith, before, group_is)
          by (inr high) = of (grows.added place cell high there).of_group
            where
              of : (cell.group ≡ 0) ⊎ (cell.group ≡ mid.group) → cell.group < number + 1
              of (inl z) = omega (arith, z)
              of (inr own) = let s = same_group in omega (arith, own, s)

      -- another group has what it had
      same_in : (k : ℕ) → (k ≡ number → ⊥) → HasSame k net new.cells
      same_in k other = subst (λ (cells : List Cell). HasSame k cells new.cells) same_cells (HasSame-grows grows bound_mid k (λ e. other (e ∙ same_group)))

      free_own : (name : Name) → (name.kind ≡ Control → ⊥) → name.group ≡ number → IsFree net name
      free_own name data_kind own = free name data_kind (omega (arith, own))

      adders_new : adders_in number new.cells ≡ adds.facts.adders
      adders_new =
          subst (λ (k : ℕ). adders_in k new.cells ≡ adders_in k mid.cells + adds.facts.adders) same_group r.adders
          ∙ ap (λ (n : ℕ). n + adds.facts.adders) (ap (adders_in number) same_cells ∙ no_adders net number so.below) ∙ after_none adds.facts.adders

      windows_new : windows_in number new.cells ≡ adds.facts.windows
      windows_new =
          subst (λ (k : ℕ). windows_in k new.cells ≡ windows_in k mid.cells + adds.facts.windows) same_group r.windows
          ∙ ap (λ (n : ℕ). n + adds.facts.windows) (ap (windows_in number) same_cells ∙ no_windows net number free_own) ∙ after_none adds.facts.windows

      tables_own : tables_in number new.cells ≡ adds.facts.tables
      tables_own =
          subst (λ (k : ℕ). tables_in k new.cells ≡ tables_in k mid.cells + adds.facts.tables) same_group r.tables
          ∙ ap (λ (n : ℕ). n + adds.facts.tables) (ap (tables_in number) same_cells ∙ no_tables net number free_own) ∙ after_none adds.facts.tables

      -- no node before is of the group
      new_group : IsUntouched mid.cells mid.group
      new_group = record {
        none = λ place cell at own. let low = so.below place cell (subst (λ (cells : List Cell). slice_get cells place ≡ Some cell) same_cells at) in let s = same_group in omega (arith, own, s, low);
      }

      stands : CostsAs g adds.facts
      stands = costs-as g flow adds.facts built adds.has_facts

      own_cost : IsCostOf g number new.cells added.cost
      own_cost = record {
        kind = adds.kind;
        adders = adds.adders ∙ stands.adders;
        windows = adds.windows ∙ stands.windows;
        tables = adds.tables ∙ stands.tables;
        adders_in = adders_new ∙ stands.adders;
        windows_in = windows_new ∙ stands.windows;
        tables_in = tables_own ∙ stands.tables;
        shallow = subst (λ (k : ℕ). IsShallow new.cells k) same_group (r.shallow bound_mid new_group);
      }

      known_new : AreCostsOf 1 (so.front ++ g ∷ []) (costs ++ added.cost ∷ []) new.cells
      known_new =
          costs_with 1 so.front costs g added.cost new.cells
          (same_costs 1 so.front costs net new.cells (omega arith) (λ k low high. same_in k (λ e. let c = so.count in omega (arith, c, e, high))) so.known)
          (subst (λ (n : ℕ). IsCostOf g n new.cells added.cost) so.count own_cost)

      shapes_own : has_linear_shape (kind_of g) ≡ true → HasLinearItems new.cells number
      shapes_own shape = subst (λ (k : ℕ). HasLinearItems new.cells k) same_group (r.shapes (shape_of g flow adds.facts adds.has_facts shape) (HasLinearItems-none mid.cells mid.group new_group))

      shapes_before : (k : ℕ) → 1 ≤ k → k < number → HasLinearItems net k → HasLinearItems new.cells k
      shapes_before k some less h =
          HasLinearItems-other k some (λ e. let s = same_group in omega (arith, e, s, less)) grows bound_mid (subst (λ (cells : List Cell). HasLinearItems cells k) (sym same_cells) h)

      shapes_new : HaveLinearItems 1 (so.front ++ g ∷ []) new.cells
      shapes_new =
          shapes_with 1 so.front g new.cells (same_shapes 1 so.front net new.cells (λ k low high h. shapes_before k low (let c = so.count in omega (arith, c, high)) h) so.shapes)
          (λ shape. subst (λ (k : ℕ). HasLinearItems new.cells k) so.count (shapes_own shape))

      tables_mid : HasTables mid.cells
      tables_mid = subst (λ (cells : List Cell). HasTables cells) (sym same_cells) so.tables

      -- a stage without tables adds none
      tables_same : adds.facts.tables ≡ 0 → (group : ℕ) → tables_in group new.cells ≡ tables_in group mid.cells
      tables_same none group = by (cases_eq group mid.group)
        where
          by : (group ≡ mid.group) ⊎ (group ≡ mid.group → ⊥) → tables_in group new.cells ≡ tables_in group mid.cells
          by (inl own) = subst (λ (k : ℕ). tables_in k new.cells ≡ tables_in k mid.cells) (sym own) (let e = r.tables in omega (arith, e, none))
          by (inr other) = (HasSame-grows grows bound_mid group other).tables

      tables_new : HasTables new.cells
      tables_new = by (cases_eq adds.facts.tables 0)
        where
          positive : (adds.facts.tables ≡ 0 → ⊥) → 0 < adds.facts.tables
          positive some = elim (cases_lt 0 adds.facts.tables) [ inl more ↦ more | inr none ↦ absurd (some (omega (arith, none))) ]

          by : (adds.facts.tables ≡ 0) ⊎ (adds.facts.tables ≡ 0 → ⊥) → HasTables new.cells
          by (inl none) = HasTables-same grows.extends bound_mid (tables_same none) tables_mid
          by (inr some) = r.own_tables (positive some) bound_mid tables_mid

-- ---- the end

pub CostsSoFar-end : {gs rest : List Group} {net : List Cell} {costs : List GroupCost} {number : ℕ} → CostsSoFar gs net rest costs number → rest ≡ [] → HasCosts gs costs net
CostsSoFar-end {gs} {rest} {net} {costs} so none = record {
  costs_are = subst (λ (hs : List Group). AreCostsOf 1 hs costs net) (sym (append-nil so.front) ∙ ap (λ (r : List Group). so.front ++ r) (sym none) ∙ so.parts) so.known;
  tables = so.tables;
}

pub shapes-end : {gs rest : List Group} {net : List Cell} {costs : List GroupCost} {number : ℕ} → CostsSoFar gs net rest costs number → rest ≡ [] → HaveLinearItems 1 gs net
shapes-end {gs} {rest} {net} so none = subst (λ (hs : List Group). HaveLinearItems 1 hs net) (sym (append-nil so.front) ∙ ap (λ (r : List Group). so.front ++ r) (sym none) ∙ so.parts) so.shapes

-- ---- the outputs change no cost, and bring no adder

pub HasCosts-outputs : {gs : List Group} {costs : List GroupCost} {old new : List Cell} → IsBound old → IsGrown old new → SameAdders old new → SameNamed old new → HasCosts gs costs old → HasCosts gs costs new
HasCosts-outputs {gs} {costs} {old} {new} bound grown adders named has = record {
  costs_are = same_costs 1 gs costs old new (omega arith) (λ k low high. record {
    adders = adders.each k;
    windows = named.windows k;
    tables = named.tables k;
    shallow = λ some s. IsShallow-same old new k grown.extends (grown.bound s.bound) (adders.each k some) s;
  }) has.costs_are;
  tables = HasTables-same grown.extends bound named.tables has.tables;
}
