-- A net that grows by sums, differences, constants, shifts up, choices by control and registers.
use Rattle.std.proofs.Common.{◌≡◌, ℕ, ◌<◌, ◌≤◌, List, [], ◌∷◌, ◌++◌, length, Option, Some, None, slice_get, sym, ◌∙◌, ap, subst, arith, inl, inr}
use Rattle.std.proofs.lemmas.Bool.{cases_eq}
use Rattle.net_graph.specs.declared.cell.Cell.{Cell}
use Rattle.net_graph.specs.declared.cell.Item.{Item}
use Rattle.net_graph.specs.declared.cell.Item.TheVariants.{Input, Constant, Add, Sub, Shl, Shr, Mux, Equal, Bits, Register}
use Rattle.net_graph.specs.declared.cell.Node.{Node}
use Rattle.net_graph.specs.declared.name.Name.{Name}
use Rattle.net_graph.specs.Cells.{NetView, cell_at}
use Rattle.net_graph.specs.Grow.{Extends, Adds, AddsRegister, IsUnbound, IsBoundTo, bound_to, IsNamedAs, named_as}
use Rattle.net_graph.proofs.CellLemmas.{cell_at-there, same_cell}
use Rattle.net_graph.proofs.GrowLemmas.{IsOfControl-later}
use Rattle.net_graph.proofs.Lists.{slice_get_push_cases, slice_get-set_same, slice_get-set_other}
use Rattle.net_graph.proofs.NetLemmas.{Extends-adds, Extends-register, cell_of_bound}
use Rattle.pipeline_balance.specs.Shapes.{IsLinearItem, KeepsShapes}

pub IsLinearItem-later : (old new : List Cell) (item : Option Item) → Extends old new → IsLinearItem old item → IsLinearItem new item
IsLinearItem-later old new None e p = tt
IsLinearItem-later old new (Some Input) e p = tt
IsLinearItem-later old new (Some (Constant v)) e p = tt
IsLinearItem-later old new (Some (Add a b)) e p = tt
IsLinearItem-later old new (Some (Sub a b)) e p = tt
IsLinearItem-later old new (Some (Shl a by)) e p = tt
IsLinearItem-later old new (Some (Shr a by)) e p = absurd p
IsLinearItem-later old new (Some (Mux on a b)) e p = IsOfControl-later old new on.place e p
IsLinearItem-later old new (Some (Equal a b)) e p = absurd p
IsLinearItem-later old new (Some (Bits a high low)) e p = absurd p
IsLinearItem-later old new (Some (Register next)) e p = tt

pub KeepsShapes-refl : (cells : List Cell) → KeepsShapes cells cells
KeepsShapes-refl cells = record { each = λ group some h. h }

pub KeepsShapes-trans : {a b c : List Cell} → KeepsShapes a b → KeepsShapes b c → KeepsShapes a c
KeepsShapes-trans p q = record { each = λ group some h. q.each group some (p.each group some h) }

-- ---- one more node

one_more : (old new : List Cell) (own : Cell) → new ≡ old ++ own ∷ [] → Extends old new → (1 ≤ own.group → IsLinearItem new own.item) → KeepsShapes old new
one_more old new own is e linear = record {
  each = λ group some h. record {
    each = λ place cell at of_group. elim (slice_get_push_cases old own place cell (subst (λ (m : List Cell). slice_get m place ≡ Some cell) is at)) [
      | inl before ↦ IsLinearItem-later old new cell.item e (h.each place cell before of_group)
      | inr last ↦
          let same : own.group ≡ group = ap (λ (c : Cell). c.group) (sym last.1) ∙ of_group in
          subst (λ (c : Cell). IsLinearItem new c.item) (sym last.1) (linear (rw same some))
    ];
  };
}

pub KeepsShapes-adds : {old new : NetView} {node : Node} {width : ℕ} {item : Item} → Adds old new node width item → IsLinearItem old.cells (Some item) → KeepsShapes old.cells new.cells
KeepsShapes-adds {old} {new} {node} {width} {item} a linear =
    one_more old.cells new.cells _ a.cells (Extends-adds a) (λ some. IsLinearItem-later old.cells new.cells (Some item) (Extends-adds a) linear)

-- a node of control is of no stage
pub KeepsShapes-control : {old new : NetView} {node : Node} {width : ℕ} {item : Item} → old.group ≡ 0 → Adds old new node width item → KeepsShapes old.cells new.cells
KeepsShapes-control {old} {new} control a = one_more old.cells new.cells _ a.cells (Extends-adds a) (λ some. absurd (omega arith))

pub KeepsShapes-register : {old new : NetView} {node : Node} {name : Name} {width : ℕ} → AddsRegister old new node name width → KeepsShapes old.cells new.cells
KeepsShapes-register {old} {new} a = one_more old.cells new.cells _ a.cells (Extends-register a) (λ some. tt)

-- ---- a register's next, and a node's name

pub KeepsShapes-bind : {old new : NetView} {register next : Node} → Extends old.cells new.cells → IsUnbound old.cells register → IsBoundTo old new register next → KeepsShapes old.cells new.cells
KeepsShapes-bind {old} {new} {register} {next} e u b = record {
  each = λ group some h. record {
    each = λ place cell at of_group. elim (cases_eq place register.place) [
      | inl same ↦
          let bound : Cell = bound_to (cell_at old.cells register.place) next in
          let is : bound ≡ cell = same_cell bound cell (slice_get new.cells register.place) (cell_of_bound u b) (subst (λ (k : ℕ). slice_get new.cells k ≡ Some cell) same at) in
          subst (λ (c : Cell). IsLinearItem new.cells c.item) is tt
      | inr other ↦
          let written = subst (λ (m : List Cell). slice_get m place ≡ Some cell) b.cells at in
          IsLinearItem-later old.cells new.cells cell.item e (h.each place cell (sym (slice_get-set_other old.cells register.place place _ other) ∙ written) of_group)
    ];
  };
}

pub KeepsShapes-named : {old new : NetView} {node : Node} {name : Name} → Extends old.cells new.cells → node.place < length old.cells → IsNamedAs old new node name → KeepsShapes old.cells new.cells
KeepsShapes-named {old} {new} {node} {name} e inside b = record {
  each = λ group some h. record {
    each = λ place cell at of_group. elim (cases_eq place node.place) [
      | inl same ↦
          let was : Cell = cell_at old.cells node.place in
          let there : slice_get new.cells node.place ≡ Some (named_as was name) = subst (λ (m : List Cell). slice_get m node.place ≡ Some (named_as was name)) (sym b.cells) (slice_get-set_same old.cells node.place (named_as was name) inside) in
          let is : named_as was name ≡ cell = same_cell (named_as was name) cell (slice_get new.cells node.place) there (subst (λ (k : ℕ). slice_get new.cells k ≡ Some cell) same at) in
          let own : was.group ≡ group = ap (λ (c : Cell). c.group) is ∙ of_group in
          subst (λ (c : Cell). IsLinearItem new.cells c.item) is (IsLinearItem-later old.cells new.cells was.item e (h.each node.place was (cell_at-there old.cells node.place inside) own))
      | inr other ↦
          let written = subst (λ (m : List Cell). slice_get m place ≡ Some cell) b.cells at in
          IsLinearItem-later old.cells new.cells cell.item e (h.each place cell (sym (slice_get-set_other old.cells node.place place _ other) ∙ written) of_group)
    ];
  };
}
