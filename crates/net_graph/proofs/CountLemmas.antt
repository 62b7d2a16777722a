-- Counts over the nodes of a net that grows.
use Rattle.std.proofs.Common.{◌≡◌, ℕ, zero, suc, ◌+◌, List, [], ◌∷◌, ◌++◌, refl, sym, ◌∙◌, ap, arith, Option, Some, None, slice_get, set, Bool, true, false, ◌&&◌, eqb, eq-eqb}
use Rattle.net_graph.specs.declared.cell.Cell.{Cell}
use Rattle.net_graph.specs.declared.cell.Node.{Node}
use Rattle.net_graph.specs.declared.cell.Item.{Item}
use Rattle.net_graph.specs.declared.name.Name.{Name}
use Rattle.net_graph.specs.Cells.{NetView, cell_at}
use Rattle.net_graph.specs.Count.{total, one_if, is_adder, adder, adders_in}
use Rattle.net_graph.specs.Grow.{Adds, AddsRegister, IsUnbound, IsBoundTo, bound_to}
use Rattle.net_graph.proofs.CellLemmas.{cell_at-there}

pub total_push : (count : Cell → ℕ) (cells : List Cell) (cell : Cell) → total count (cells ++ cell ∷ []) ≡ total count cells + count cell
total_push count [] cell = omega arith
total_push count (c ∷ cells) cell = omega (arith, total_push count cells cell)

pub total_set : (count : Cell → ℕ) (cells : List Cell) (i : ℕ) (was cell : Cell) → slice_get cells i ≡ Some was → count cell ≡ count was → total count (set cells i cell) ≡ total count cells
total_set count [] i was cell e same = refl
total_set count (c ∷ cells) zero was cell e same = let is : c ≡ was = cc in ap (λ (n : ℕ). n + total count cells) (same ∙ sym (ap count is))
total_set count (c ∷ cells) (suc i) was cell e same = ap (λ (n : ℕ). count c + n) (total_set count cells i was cell e same)

no_adder : (b : Bool) → one_if (b && false) ≡ 0
no_adder true = refl
no_adder false = refl

plain_adder : (group : ℕ) (b : Bool) (item : Option Item) → is_adder item ≡ false → one_if (b && is_adder item) ≡ 0
plain_adder group b item e = ap (λ (a : Bool). one_if (b && a)) e ∙ no_adder b

-- a node that is no adder leaves the count
pub adders_plain : {old new : NetView} {node : Node} {width : ℕ} {item : Item} (group : ℕ) → Adds old new node width item → is_adder (Some item) ≡ false → adders_in group new.cells ≡ adders_in group old.cells
adders_plain {old} {new} {node} {width} {item} group a plain =
    let own : Cell = record { group = old.group; name = None; width = width; item = Some item } in
    let nothing : adder group own ≡ 0 = plain_adder group (eqb old.group group) (Some item) plain in
    ap (total (adder group)) a.cells ∙ total_push (adder group) old.cells own ∙ omega (arith, nothing)

-- an adder counts
pub adders_more : {old new : NetView} {node : Node} {width : ℕ} {item : Item} (group : ℕ) → Adds old new node width item → is_adder (Some item) ≡ true → old.group ≡ group → adders_in group new.cells ≡ adders_in group old.cells + 1
adders_more {old} {new} {node} {width} {item} group a is same =
    let own : Cell = record { group = old.group; name = None; width = width; item = Some item } in
    let one : adder group own ≡ 1 = ap (λ (b : Bool). one_if (eqb old.group group && b)) is ∙ ap (λ (b : Bool). one_if (b && true)) (eq-eqb old.group group same) in
    ap (total (adder group)) a.cells ∙ total_push (adder group) old.cells own ∙ omega (arith, one)

pub adders_register : {old new : NetView} {node : Node} {name : Name} {width : ℕ} (group : ℕ) → AddsRegister old new node name width → adders_in group new.cells ≡ adders_in group old.cells
adders_register {old} {new} {node} {name} {width} group a =
    let own : Cell = record { group = old.group; name = Some name; width = width; item = None } in
    let nothing : adder group own ≡ 0 = no_adder (eqb old.group group) in
    ap (total (adder group)) a.cells ∙ total_push (adder group) old.cells own ∙ omega (arith, nothing)

pub adders_bind : {old new : NetView} {register next : Node} (group : ℕ) → IsUnbound old.cells register → IsBoundTo old new register next → adders_in group new.cells ≡ adders_in group old.cells
adders_bind {old} {new} {register} {next} group u b =
    let was = cell_at old.cells register.place in
    let now = bound_to was next in
    let before : adder group was ≡ 0 = ap (λ (i : Option Item). one_if (eqb was.group group && is_adder i)) u.nextless ∙ no_adder (eqb was.group group) in
    ap (total (adder group)) b.cells ∙ total_set (adder group) old.cells register.place was now (cell_at-there old.cells register.place u.inside) (no_adder (eqb was.group group) ∙ sym before)
