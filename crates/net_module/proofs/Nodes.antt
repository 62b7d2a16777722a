-- The right side of each node's assignment has the bits of the node's value.
use Rattle.std.proofs.Common.{◌≡◌, ℕ, ◌^◌, ◌<◌, ◌≤◌, true, List, Some, slice_get, ℤ, pos, negsuc, ◌+ℤ◌, ◌-ℤ◌, ◌*ℤ◌, refl, sym, ◌∙◌, ap, arith}
use Rattle.std.proofs.lemmas.Bool.{eq-eqb, ne_eqb}
use Rattle.mr_values.specs.Width.{pattern, wrap, chosen, floor_quotient}
use Rattle.mr_values.proofs.WidthLemmas.{pattern-wrap}
use Rattle.net_graph.specs.declared.cell.Cell.{Cell}
use Rattle.net_graph.specs.declared.cell.Item.{Item}
use Rattle.net_graph.specs.declared.cell.Item.TheVariants.{Input, Constant, Add, Sub, Shl, Shr, Mux, Equal, Bits, Register}
use Rattle.net_graph.specs.Run.{Values as Worth, Obeys, equality}
use Rattle.net_graph.specs.WellFormed.{OperandsBelow, SelectsWithin}
use Rattle.verilog_tree.specs.Tree as tree
use Rattle.verilog_tree.specs.Meaning.{Shapes, Values, assigned}
use Rattle.verilog_tree.proofs.Computes.{Holds, ComputesFit, assigned_from, name_computes, literal_computes, add_computes, sub_computes, left_computes, right_computes, choice_computes, equal_assigned, part_assigned}
use Rattle.net_module.specs.Written.{tree_for, is_wire}

equality_one : (x y : ℤ) → x ≡ y → equality x y ≡ pos 1
equality_one x y e = rw (← e) (self x)
  where
    self : (z : ℤ) → equality z z ≡ pos 1
    self (pos n) = rw (eq-eqb n n refl) refl
    self (negsuc n) = rw (eq-eqb n n refl) refl

equality_zero : (x y : ℤ) → (x ≡ y → ⊥) → equality x y ≡ pos 0
equality_zero (pos a) (pos b) h = rw (ne_eqb a b (λ e. h (ap pos e))) refl
equality_zero (pos a) (negsuc b) h = refl
equality_zero (negsuc a) (pos b) h = refl
equality_zero (negsuc a) (negsuc b) h = rw (ne_eqb a b (λ e. h (ap negsuc e))) refl

-- the item reads nodes among these alone
abbrev pub ReadsAmong : (ℕ → Type 0) → Item → Type 0
ReadsAmong among Input = Unit {0}
ReadsAmong among (Constant c) = Unit {0}
ReadsAmong among (Add a b) = among a.place × among b.place
ReadsAmong among (Sub a b) = among a.place × among b.place
ReadsAmong among (Shl a by) = among a.place
ReadsAmong among (Shr a by) = among a.place
ReadsAmong among (Mux on a b) = among on.place × among a.place × among b.place
ReadsAmong among (Equal a b) = among a.place × among b.place
ReadsAmong among (Bits a high low) = among a.place
ReadsAmong among (Register next) = among next.place

module _ (cells : List Cell) (shapes : Shapes) (now : Values) (number : ℕ → ℕ) (x : ℕ → ℤ) (worth : Worth) (t target place count width : ℕ)
    (wide : 1 ≤ width) (is : shapes.width target ≡ width)
    (among : ℕ → Type 0) (held : (k : ℕ) → k < place → among k → Holds shapes now (number k) (worth t k))
    (widths : (k : ℕ) → k < place → (cell : Cell) × (slice_get cells k ≡ Some cell) × (shapes.width (number k) ≡ cell.width)) where
  -- what has the bits of a number has the bits of the node, which is that number cut
  finish : (bits : ℕ) (z : ℤ) → bits ≡ pattern (shapes.width target) z → worth t place ≡ wrap width z → bits ≡ pattern width (worth t place)
  finish bits z computed o = computed ∙ ap (λ (n : ℕ). pattern n z) is ∙ sym (ap (pattern width) o ∙ pattern-wrap width z wide)

  name_of : (k : ℕ) → k < place → among k → ComputesFit shapes now (tree.Name (number k)) (worth t k)
  name_of k lt is = name_computes shapes now (number k) (worth t k) (held k lt is)

  -- an assignment of a node's item gives the bits of the node's value
  pub node_bits : (item : Item) → is_wire (Some item) ≡ true → ReadsAmong among item → Obeys (wrap width) x worth place (Some item) → OperandsBelow place count width (Some item) → SelectsWithin cells (Some item)
      → assigned shapes now target (tree_for number width (Some item)) ≡ pattern width (worth t place)
  node_bits Input wire r o below within = absurd (grind arith)
  node_bits (Constant c) wire r o below within =
      let literal = literal_computes shapes now width (pattern width c) c wide refl in
      assigned_from shapes now target (tree.Based width true (pattern width c)) (wrap width c) literal.computes
      ∙ ap (λ (n : ℕ). pattern n (wrap width c)) is ∙ sym (ap (pattern width) (o t))
  node_bits (Add a b) wire r o below within =
      finish _ (worth t a.place +ℤ worth t b.place)
      (assigned_from shapes now target _ _ (add_computes shapes now (tree.Name (number a.place)) (tree.Name (number b.place)) (worth t a.place) (worth t b.place) (name_of a.place below.0 r.0).computes (name_of b.place below.1 r.1).computes)) (o t)
  node_bits (Sub a b) wire r o below within =
      finish _ (worth t a.place -ℤ worth t b.place)
      (assigned_from shapes now target _ _ (sub_computes shapes now (tree.Name (number a.place)) (tree.Name (number b.place)) (worth t a.place) (worth t b.place) (name_of a.place below.0 r.0).computes (name_of b.place below.1 r.1).computes)) (o t)
  node_bits (Shl a by) wire r o below within =
      finish _ (worth t a.place *ℤ pos (2 ^ by))
      (assigned_from shapes now target _ _ (left_computes shapes now (tree.Name (number a.place)) (worth t a.place) by (name_of a.place below.0 r).computes)) (o t)
  node_bits (Shr a by) wire r o below within =
      finish _ (floor_quotient (worth t a.place) (2 ^ by))
      (assigned_from shapes now target _ _ (right_computes shapes now (tree.Name (number a.place)) (worth t a.place) by (name_of a.place below.0 r))) (o t)
  node_bits (Mux on a b) wire r o below within =
      finish _ (chosen (worth t on.place) (worth t a.place) (worth t b.place))
      (assigned_from shapes now target _ _
      (choice_computes shapes now (tree.Name (number on.place)) (tree.Name (number a.place)) (tree.Name (number b.place)) (worth t on.place) (worth t a.place) (worth t b.place) (name_of on.place below.0 r.0) (name_of a.place below.1 r.1).computes (name_of b.place below.2 r.2).computes)) (o t)
  node_bits (Equal a b) wire r o below within =
      let one : shapes.width target ≡ 1 = is ∙ below.2 in
      finish _ (equality (worth t a.place) (worth t b.place))
      (equal_assigned shapes now target (tree.Name (number a.place)) (tree.Name (number b.place)) (worth t a.place) (worth t b.place) (equality (worth t a.place) (worth t b.place)) one (name_of a.place below.0 r.0) (name_of b.place below.1 r.1)
      (equality_one (worth t a.place) (worth t b.place)) (equality_zero (worth t a.place) (worth t b.place))
      ∙ ap (λ (n : ℕ). pattern n (equality (worth t a.place) (worth t b.place))) (sym one)) (o t)
  node_bits (Bits a high low) wire r o below within =
      let of_a = widths a.place below.0 in
      let inside : high < shapes.width (number a.place) = omega (arith, within.inside of_a.0 of_a.1, of_a.2) in
      finish _ _ (part_assigned shapes now target (number a.place) high low (worth t a.place) (held a.place below.0 r) inside below.1 (is ∙ below.2)) (o t)
  node_bits (Register next) wire r o below within = absurd (grind arith)
