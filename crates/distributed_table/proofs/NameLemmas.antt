-- A node that gets the name of a table.
use Rattle.std.proofs.Common.{◌≡◌, ℕ, zero, suc, ◌+◌, ◌<◌, ◌≤◌, List, [], ◌∷◌, length, set, refl, sym, ◌∙◌, ap, arith, Some, None, slice_get, subst, inl, inr, Bool, true, false, IsSome, Option, not, eqb, ◌&&◌, eq-eqb}
use Rattle.std.proofs.lemmas.Bool.{cases_eq}
use Rattle.net_graph.specs.declared.cell.Cell.{Cell}
use Rattle.net_graph.specs.declared.cell.Node.{Node}
use Rattle.net_graph.specs.declared.name.Name.{Name}
use Rattle.net_graph.specs.declared.name.NameKind.TheVariants.{Table}
use Rattle.net_graph.specs.Cells.{NetView, cell_at}
use Rattle.net_graph.specs.Tables.{HasTables}
use Rattle.net_graph.specs.Count.{is_adder, total, one_if, is_window, is_table, has_kind, adder, window, table}
use Rattle.net_graph.specs.Name.{is_control, is_control_name, is_input}
use Rattle.net_graph.specs.Control.{IsControlClosed, ReadsControl}
use Rattle.net_graph.specs.Grow.{Extends, Grows, IsAdded, HasOwnName, IsNamedAs, named_as}
use Rattle.net_graph.specs.WellFormed.{IsBound, IsFree}
use Rattle.net_graph.proofs.CellLemmas.{cell_at-there, same_cell}
use Rattle.net_graph.proofs.CountLemmas.{total_set}
use Rattle.net_graph.proofs.GroupLemmas.{nameless_data}
use Rattle.net_graph.proofs.GrowLemmas.{ReadsControl-later, named_own}
use Rattle.net_graph.proofs.NetLemmas.{Extends-trans, Extends-named}
use Rattle.std.proofs.lemmas.Option.{slice_get_within}
use Rattle.net_graph.proofs.Lists.{slice_get-set_same, slice_get-set_other}
use Rattle.pipeline_balance.specs.Numbered.{name_of}
use Rattle.pipeline_balance.proofs.CostLemmas.{other_kind}
use Rattle.distributed_table.specs.Parts.{AddsPart}

-- a cell that counts one more
total_set_more : (count : Cell → ℕ) (cells : List Cell) (i : ℕ) (was cell : Cell) → slice_get cells i ≡ Some was → count cell ≡ count was + 1 → total count (set cells i cell) ≡ total count cells + 1
total_set_more count [] i was cell there e = absurd (cc)
total_set_more count (first ∷ cells) zero was cell there e = let same : first ≡ was = cc in let counts = ap count same in omega (arith, counts, e)
total_set_more count (first ∷ cells) (suc i) was cell there e = let rest = total_set_more count cells i was cell there e in omega (arith, rest)

one_own : (a b : ℕ) → a ≡ b → one_if (eqb a b && true) ≡ 1
one_own a b e = ap (λ (c : Bool). one_if (c && true)) (eq-eqb a b e)

module _ {mid new : NetView} {node : Node} {group : ℕ} (number : ℕ) (some : 1 ≤ group) (inside : node.place < length mid.cells) (nameless : (cell_at mid.cells node.place).name ≡ None) (own : (cell_at mid.cells node.place).group ≡ group)
    (n : IsNamedAs mid new node (name_of group Table number)) where
  abbrev was : Cell
  was = cell_at mid.cells node.place

  abbrev now : Cell
  now = named_as was (name_of group Table number)

  here : slice_get mid.cells node.place ≡ Some was
  here = cell_at-there mid.cells node.place inside

  there_now : slice_get new.cells node.place ≡ Some now
  there_now = subst (λ (m : List Cell). slice_get m node.place ≡ Some now) (sym n.cells) (slice_get-set_same mid.cells node.place now inside)

  other_there : (k : ℕ) (cell : Cell) → (k ≡ node.place → ⊥) → slice_get new.cells k ≡ Some cell → slice_get mid.cells k ≡ Some cell
  other_there k cell other there = sym (slice_get-set_other mid.cells node.place k now other) ∙ subst (λ (m : List Cell). slice_get m k ≡ Some cell) n.cells there

  same_now : (k : ℕ) (cell : Cell) → k ≡ node.place → slice_get new.cells k ≡ Some cell → now ≡ cell
  same_now k cell at there = same_cell now cell (slice_get new.cells node.place) there_now (subst (λ (m : ℕ). slice_get new.cells m ≡ Some cell) at there)

  no_control : is_control was ≡ false
  no_control = ap (λ (m : Option Name). is_control_name m was.group && not (is_input was.item)) nameless ∙ nameless_data was.group (not (is_input was.item)) (omega (arith, own, some))

  still_data : is_control now ≡ is_control was
  still_data = sym no_control

  pub named_extends : Extends mid.cells new.cells
  named_extends = Extends-named inside nameless still_data n

  own_name : HasOwnName now
  own_name = named_own now (name_of group Table number) refl (sym own) (omega (arith, own, some))

  named_bound : IsBound mid.cells → IsBound new.cells
  named_bound before = record {
    each = λ k cell there. elim (cases_eq k node.place) [
      | inl at ↦ subst (λ (c : Cell). IsSome c.item) (same_now k cell at there) (before.each node.place was here)
      | inr other ↦ before.each k cell (other_there k cell other there)
    ];
  }

  named_closed : IsControlClosed mid.cells → IsControlClosed new.cells
  named_closed before = record {
    each = λ k cell there control. elim (cases_eq k node.place) [
      | inl at ↦
          let is : is_control was ≡ true = sym still_data ∙ ap is_control (same_now k cell at there) ∙ control in
          subst (λ (c : Cell). ReadsControl new.cells c.item) (same_now k cell at there) (ReadsControl-later mid.cells new.cells was.item named_extends (before.each node.place was here is))
      | inr other ↦ ReadsControl-later mid.cells new.cells cell.item named_extends (before.each k cell (other_there k cell other there) control)
    ];
  }

  -- what grew by a node grew by a table where that node gets its name
  grown_named : {old : NetView} → old.group ≡ group → Grows old mid → length old.cells ≤ node.place → Grows old new
  grown_named {old} same g later = record {
    extends = Extends-trans old.cells mid.cells new.cells g.extends named_extends;
    group = n.group ∙ g.group;
    bound = λ before. named_bound (g.bound before);
    closed = λ before. named_closed (g.closed before);
    added = λ k cell after there. elim (cases_eq k node.place) [
      | inl at ↦ let a = g.added node.place was later here in subst (λ (c : Cell). IsAdded old.group c) (same_now k cell at there) (record { of_group = a.of_group; no_input = a.no_input })
      | inr other ↦ g.added k cell after (other_there k cell other there)
    ];
    kept = λ before. record {
      each = λ k cell there.
          let in_mid = (g.kept before).each k cell there in
          let less = slice_get_within old.cells k cell there in
          let apart : k ≡ node.place → ⊥ = λ at. absurd (omega (arith, at, less, later)) in
          subst (λ (m : List Cell). slice_get m k ≡ Some cell) (sym n.cells) (slice_get-set_other mid.cells node.place k now apart ∙ in_mid);
    };
    named = λ before. record {
      each = λ k cell after there. elim (cases_eq k node.place) [
        | inl at ↦ subst (λ (c : Cell). HasOwnName c) (same_now k cell at there) own_name
        | inr other ↦ (g.named before).each k cell after (other_there k cell other there)
      ];
    };
  }

  no_window : one_if (has_kind is_window group was.name) ≡ 0
  no_window = ap (λ (m : Option Name). one_if (has_kind is_window group m)) nameless

  no_table : one_if (has_kind is_table group was.name) ≡ 0
  no_table = ap (λ (m : Option Name). one_if (has_kind is_table group m)) nameless

  same_adders : total (adder group) new.cells ≡ total (adder group) mid.cells
  same_adders = ap (total (adder group)) n.cells ∙ total_set (adder group) mid.cells node.place was now here refl

  same_windows : total (window group) new.cells ≡ total (window group) mid.cells
  same_windows = ap (total (window group)) n.cells ∙ total_set (window group) mid.cells node.place was now here (other_kind is_window group (name_of group Table number) refl ∙ sym no_window)

  one_table : total (table group) new.cells ≡ total (table group) mid.cells + 1
  one_table = ap (total (table group)) n.cells ∙ total_set_more (table group) mid.cells node.place was now here (one_own group group refl ∙ sym (ap (λ (k : ℕ). k + 1) no_table))

  still_free : (name : Name) → (name ≡ name_of group Table number → ⊥) → IsFree mid.cells name → IsFree new.cells name
  still_free name other f = record {
    none = λ place cell there is. elim (cases_eq place node.place) [
      | inl at ↦
          let found : now ≡ cell = same_now place cell at there in
          let name_is : Some (name_of group Table number) ≡ Some name = ap (λ (c : Cell). c.name) found ∙ is in
          let same_name : name ≡ name_of group Table number = cc in
          other same_name
      | inr apart ↦ f.none place cell (other_there place cell apart there) is
    ];
  }

  -- the tables are those before and the node
  pub named_tables : is_adder was.item ≡ false → is_input was.item ≡ false → HasTables mid.cells → HasTables new.cells
  named_tables no_adder no_input has = record {
    plain = record {
      no_adder = λ place cell name there named is. elim (cases_eq place node.place) [
        | inl at ↦ subst (λ (c : Cell). is_adder c.item ≡ false) (same_now place cell at there) no_adder
        | inr apart ↦ has.plain.no_adder place cell name (other_there place cell apart there) named is
      ];
      no_input = λ place cell name there named is. elim (cases_eq place node.place) [
        | inl at ↦ subst (λ (c : Cell). is_input c.item ≡ false) (same_now place cell at there) no_input
        | inr apart ↦ has.plain.no_input place cell name (other_there place cell apart there) named is
      ];
    };
    own = record {
      own = λ place cell name there named is. elim (cases_eq place node.place) [
        | inl at ↦
            let found : now ≡ cell = same_now place cell at there in
            let name_is : Some (name_of group Table number) ≡ Some name = ap (λ (c : Cell). c.name) found ∙ named in
            let same_name : name_of group Table number ≡ name = cc in
            sym (ap (λ (m : Name). m.group) same_name) ∙ sym own ∙ ap (λ (c : Cell). c.group) found
        | inr apart ↦ has.own.own place cell name (other_there place cell apart there) named is
      ];
    };
  }

-- a part whose last node gets the name of a table
pub AddsPart-named : {old mid new : NetView} {node : Node} (number : ℕ) → 1 ≤ old.group → AddsPart old mid (λ name. ⊥) 0 0 → length old.cells ≤ node.place → node.place < length mid.cells → (cell_at mid.cells node.place).name ≡ None → (cell_at mid.cells node.place).group ≡ old.group
    → IsNamedAs mid new node (name_of old.group Table number) → AddsPart old new (λ name. name ≡ name_of old.group Table number) 0 1
AddsPart-named {old} {mid} {new} {node} number some p later inside nameless own n = record {
  grows = grown_named number some inside nameless own n refl p.grows later;
  counts = same_adders number some inside nameless own n ∙ p.counts;
  windows = same_windows number some inside nameless own n ∙ p.windows;
  tabled = one_table number some inside nameless own n ∙ ap (λ (k : ℕ). k + 1) p.tabled ∙ omega arith;
  names = record { free = λ name other f. still_free number some inside nameless own n name other (p.names.free name (λ no. no) f) };
}
