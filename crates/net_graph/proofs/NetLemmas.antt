-- Laws of nets that grow.
use Rattle.std.proofs.Common.{◌≡◌, ℕ, zero, suc, ◌<◌, ◌≤◌, List, [], ◌∷◌, ◌++◌, length, refl, sym, ◌∙◌, ap, arith, Option, Some, None, slice_get, set, ℤ, pos, inl, inr, subst, length-append, IsSome, Bool, not, ◌&&◌}
use Rattle.std.proofs.lemmas.Option.{slice_get_within}
use Rattle.std.proofs.lemmas.Bool.{cases_eq}
use Rattle.std.proofs.Math.ListN.{length-set}
use Rattle.mr_values.proofs.WidthLemmas.{FitsWidth-zero}
use Rattle.net_graph.proofs.Lists.{slice_get-append_left, slice_get_push, slice_get-set_same, slice_get-set_other}
use Rattle.net_graph.proofs.CellLemmas.{same_cell, cell_at-there, cell_at-is}
use Rattle.net_graph.specs.declared.cell.Cell.{Cell}
use Rattle.net_graph.specs.declared.cell.Node.{Node}
use Rattle.net_graph.specs.declared.cell.Item.{Item}
use Rattle.net_graph.specs.declared.cell.Item.TheVariants.{Register}
use Rattle.net_graph.specs.declared.name.Name.{Name}
use Rattle.net_graph.specs.Cells.{NetView, cell_at}
use Rattle.net_graph.specs.Name.{is_control, is_control_name, is_input}
use Rattle.net_graph.specs.Cut.{Cut, IsCut}
use Rattle.net_graph.specs.Run.{Values, Obeys, IsRun}
use Rattle.net_graph.specs.Grow.{Extends, IsKept, IsUnbound, IsBoundTo, IsNamedAs, Adds, AddsRegister, bound_to, named_as}

-- ---- a node's value is one that its cut keeps
kept_from : (cut : Cut) → IsCut cut → (control : Bool) (width : ℕ) → 1 ≤ width → (x : ℕ → ℤ) (v : Values) (place : ℕ) (item : Option Item) → Obeys (cut control width) x v place item → (t : ℕ) → cut control width (v t place) ≡ v t place
kept_from cut law control width wide x v place None o t = o.1 t
kept_from cut law control width wide x v place (Some (Register next)) o zero = rw o.0 (law.fitting control width (pos 0) wide (FitsWidth-zero width))
kept_from cut law control width wide x v place (Some (Register next)) o (suc t) = rw (o.1 t) (law.again control width _ wide)
kept_from cut law control width wide x v place (Some item) o t = rw (o t) (law.again control width _ wide)

pub IsRun-keeps : (cut : Cut) → IsCut cut → (cells : List Cell) (x : ℕ → ℤ) (v : Values) (place : ℕ) (cell : Cell) → IsRun cut cells x v → slice_get cells place ≡ Some cell → 1 ≤ cell.width → (t : ℕ) → cut (is_control cell) cell.width (v t place) ≡ v t place
IsRun-keeps cut law cells x v place cell r there wide t = kept_from cut law (is_control cell) cell.width wide x v place cell.item (r.each place cell there) t

-- ---- longer nets

IsKept-refl : (cells : List Cell) (place : ℕ) (cell : Cell) → slice_get cells place ≡ Some cell → IsKept cells place cell
IsKept-refl cells place cell e = record { cell = cell; there = e; group = refl; width = refl; control = refl; input = refl; item = λ some. refl; name = λ some. refl }

pub IsRun-append : (cut : Cut) (cells more : List Cell) (inputs : ℕ → ℤ) (values : Values) → IsRun cut (cells ++ more) inputs values → IsRun cut cells inputs values
IsRun-append cut cells more inputs values r = record { each = λ k c e. r.each k c (slice_get-append_left cells more k c e) }

pub Extends-refl : (cells : List Cell) → Extends cells cells
Extends-refl cells = record { longer = omega arith; runs = λ cut law x v r. r; keeps = IsKept-refl cells }

pub Extends-trans : (a b c : List Cell) → Extends a b → Extends b c → Extends a c
Extends-trans a b c p q = record {
  longer = let l = p.longer in let m = q.longer in omega arith;
  runs = λ cut law x v r. p.runs cut law x v (q.runs cut law x v r);
  keeps = λ k cell e.
      let first = p.keeps k cell e in
      let last = q.keeps k first.cell first.there in
      record {
        cell = last.cell;
        there = last.there;
        group = last.group ∙ first.group;
        width = last.width ∙ first.width;
        control = last.control ∙ first.control;
        input = last.input ∙ first.input;
        item = λ some. last.item (subst (λ (i : Option Item). IsSome i) (sym (first.item some)) some) ∙ first.item some;
        name = λ some. last.name (subst (λ (n : Option Name). IsSome n) (sym (first.name some)) some) ∙ first.name some;
      };
}

pub Extends-append : (cells more : List Cell) → Extends cells (cells ++ more)
Extends-append cells more = record {
  longer = omega (arith, length-append cells more);
  runs = λ cut law x v r. IsRun-append cut cells more x v r;
  keeps = λ k c e. IsKept-refl (cells ++ more) k c (slice_get-append_left cells more k c e);
}

-- ---- one cell that gets what it had not

-- the new cell says more than the old
record Refines (was now : Cell) : Type 0 where
  group : now.group ≡ was.group
  width : now.width ≡ was.width
  control : is_control now ≡ is_control was
  input : is_input now.item ≡ is_input was.item
  item : IsSome was.item → now.item ≡ was.item
  name : IsSome was.name → now.name ≡ was.name
  obeys : (cut : Cut) → IsCut cut → (x : ℕ → ℤ) (v : Values) (place : ℕ) → Obeys (cut (is_control now) now.width) x v place now.item → Obeys (cut (is_control was) was.width) x v place was.item

Extends-set : (cells : List Cell) (place : ℕ) (was now : Cell) → slice_get cells place ≡ Some was → Refines was now → Extends cells (set cells place now)
Extends-set cells place was now there f =
    let within = slice_get_within cells place was there in
    let new = slice_get-set_same cells place now within in
    record {
      longer = omega (arith, length-set {A = Cell});
      runs = λ cut law x v r. record {
        each = λ k cell e. elim (cases_eq k place) [
          | inl same ↦
              let e' : slice_get cells place ≡ Some cell = subst (λ (n : ℕ). slice_get cells n ≡ Some cell) same e in
              let is : was ≡ cell = same_cell was cell (slice_get cells place) there e' in
              let o = f.obeys cut law x v place (r.each place now new) in
              subst (λ (n : ℕ). Obeys (cut (is_control cell) cell.width) x v n cell.item) (sym same) (subst (λ (c : Cell). Obeys (cut (is_control c) c.width) x v place c.item) is o)
          | inr other ↦ r.each k cell (slice_get-set_other cells place k now other ∙ e)
        ];
      };
      keeps = λ k cell e. elim (cases_eq k place) [
        | inl same ↦
            let e' : slice_get cells place ≡ Some cell = subst (λ (n : ℕ). slice_get cells n ≡ Some cell) same e in
            let is : was ≡ cell = same_cell was cell (slice_get cells place) there e' in
            let kept : IsKept (set cells place now) place was = record { cell = now; there = new; group = f.group; width = f.width; control = f.control; input = f.input; item = f.item; name = f.name } in
            subst (λ (n : ℕ). IsKept (set cells place now) n cell) (sym same) (subst (λ (c : Cell). IsKept (set cells place now) place c) is kept)
        | inr other ↦ IsKept-refl (set cells place now) k cell (slice_get-set_other cells place k now other ∙ e)
      ];
    }

-- a register that gets its next
Refines-bound : (was : Cell) (next : Node) → 1 ≤ was.width → was.item ≡ None → Refines was (bound_to was next)
Refines-bound was next wide nextless =
    let same : is_control (bound_to was next) ≡ is_control was = ap (λ (i : Option Item). is_control_name was.name was.group && not (is_input i)) (sym nextless) in
    record {
      group = refl;
      width = refl;
      control = same;
      input = ap is_input (sym nextless);
      item = λ some. let none : IsSome {T = Item} None = subst (λ (i : Option Item). IsSome i) nextless some in absurd (cc);
      name = λ some. refl;
      obeys = λ cut law x v place o.
          let kept = kept_from cut law (is_control (bound_to was next)) was.width wide x v place (Some (Register next)) o in
          subst (λ (i : Option Item). Obeys (cut (is_control was) was.width) x v place i) (sym nextless)
          (subst (λ (b : Bool). Obeys (cut b was.width) x v place None) same (o.0, kept));
    }

-- a node that gets a name under which it stays control or not
Refines-named : (was : Cell) (name : Name) → was.name ≡ None → is_control (named_as was name) ≡ is_control was → Refines was (named_as was name)
Refines-named was name nameless same = record {
  group = refl;
  width = refl;
  control = same;
  input = refl;
  item = λ some. refl;
  name = λ some. let none : IsSome {T = Name} None = subst (λ (n : Option Name). IsSome n) nameless some in absurd (cc);
  obeys = λ cut law x v place o. subst (λ (b : Bool). Obeys (cut b was.width) x v place was.item) same o;
}

pub Extends-bind : {old new : NetView} {register next : Node} → 1 ≤ (cell_at old.cells register.place).width → IsUnbound old.cells register → IsBoundTo old new register next → Extends old.cells new.cells
Extends-bind {old} {new} {register} {next} wide u b =
    let was = cell_at old.cells register.place in
    subst (λ (m : List Cell). Extends old.cells m) (sym b.cells) (Extends-set old.cells register.place was (bound_to was next) (cell_at-there old.cells register.place u.inside) (Refines-bound was next wide u.nextless))

pub Extends-named : {old new : NetView} {node : Node} {name : Name} → node.place < length old.cells → (cell_at old.cells node.place).name ≡ None → is_control (named_as (cell_at old.cells node.place) name) ≡ is_control (cell_at old.cells node.place) → IsNamedAs old new node name → Extends old.cells new.cells
Extends-named {old} {new} {node} {name} inside nameless same n =
    let was = cell_at old.cells node.place in
    subst (λ (m : List Cell). Extends old.cells m) (sym n.cells) (Extends-set old.cells node.place was (named_as was name) (cell_at-there old.cells node.place inside) (Refines-named was name nameless same))

-- ---- facts on the calls, whose nets and nodes are read from them

-- one more node
pub Extends-adds : {old new : NetView} {node : Node} {width : ℕ} {item : Item} → Adds old new node width item → Extends old.cells new.cells
Extends-adds {old} a = subst (λ (m : List Cell). Extends old.cells m) (sym a.cells) (Extends-append old.cells _)

pub Extends-then : {a : List Cell} {b c : NetView} {node : Node} {width : ℕ} {item : Item} → Extends a b.cells → Adds b c node width item → Extends a c.cells
Extends-then {a} {b} {c} e h = Extends-trans a b.cells c.cells e (Extends-adds h)

pub Extends-register : {old new : NetView} {node : Node} {name : Name} {width : ℕ} → AddsRegister old new node name width → Extends old.cells new.cells
Extends-register {old} a = subst (λ (m : List Cell). Extends old.cells m) (sym a.cells) (Extends-append old.cells _)

pub cell_of_added : {old new : NetView} {node : Node} {width : ℕ} {item : Item} → Adds old new node width item → slice_get new.cells node.place ≡ Some (record { group = old.group; name = None; width = width; item = Some item })
cell_of_added {old} {new} {node} {width} {item} a =
    let own : Cell = record { group = old.group; name = None; width = width; item = Some item } in
    subst (λ (m : List Cell). slice_get m node.place ≡ Some own) (sym a.cells) (slice_get_push old.cells own node.place a.place)

pub cell_of_register : {old new : NetView} {node : Node} {name : Name} {width : ℕ} → AddsRegister old new node name width → slice_get new.cells node.place ≡ Some (record { group = old.group; name = Some name; width = width; item = None })
cell_of_register {old} {new} {node} {name} {width} a =
    let own : Cell = record { group = old.group; name = Some name; width = width; item = None } in
    subst (λ (m : List Cell). slice_get m node.place ≡ Some own) (sym a.cells) (slice_get_push old.cells own node.place a.place)

pub cell_of_bound : {old new : NetView} {register next : Node} → IsUnbound old.cells register → IsBoundTo old new register next → slice_get new.cells register.place ≡ Some (bound_to (cell_at old.cells register.place) next)
cell_of_bound {old} {new} {register} {next} u b =
    let own = bound_to (cell_at old.cells register.place) next in
    subst (λ (m : List Cell). slice_get m register.place ≡ Some own) (sym b.cells) (slice_get-set_same old.cells register.place own u.inside)

-- a cell without a next, as a place
IsUnbound-there : (cells : List Cell) (register : Node) (cell : Cell) → slice_get cells register.place ≡ Some cell → cell.item ≡ None → IsUnbound cells register
IsUnbound-there cells register cell there e = record {
  inside = slice_get_within cells register.place cell there;
  nextless = ap (λ (c : Cell). c.item) (cell_at-is cells register.place cell there) ∙ e;
}

pub IsUnbound-added : {old new : NetView} {node : Node} {name : Name} {width : ℕ} → AddsRegister old new node name width → IsUnbound new.cells node
IsUnbound-added {old} {new} {node} a = IsUnbound-there new.cells node _ (cell_of_register a) refl

pub IsUnbound-then : {old new : NetView} {register node : Node} {width : ℕ} {item : Item} → IsUnbound old.cells register → Adds old new node width item → IsUnbound new.cells register
IsUnbound-then {old} {new} {register} u a =
    let was = cell_at old.cells register.place in
    let own : Cell = record { group = old.group; name = None; width = _; item = Some _ } in
    let there : slice_get (old.cells ++ own ∷ []) register.place ≡ Some was = slice_get-append_left old.cells (own ∷ []) register.place was (cell_at-there old.cells register.place u.inside) in
    IsUnbound-there new.cells register was (subst (λ (m : List Cell). slice_get m register.place ≡ Some was) (sym a.cells) there) u.nextless
