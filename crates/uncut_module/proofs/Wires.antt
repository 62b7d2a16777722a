-- The whole number of a node's right side is what the node's item makes of the numbers of its operands.
use Rattle.std.proofs.Common.{◌≡◌, ℕ, ◌<◌, ◌≤◌, true, false, Some, ℤ, pos, negsuc, refl, ◌∙◌}
use Rattle.mr_values.specs.Width.{pattern}
use Rattle.mr_values.proofs.WidthLemmas.{signed-pattern}
use Rattle.net_graph.specs.declared.cell.Item.{Item}
use Rattle.net_graph.specs.declared.cell.Item.TheVariants.{Input, Constant, Add, Sub, Shl, Shr, Mux, Equal, Bits, Register}
use Rattle.net_graph.specs.Run.{result_of, equality}
use Rattle.net_graph.specs.WellFormed.{OperandsBelow}
use Rattle.verilog_tree.specs.Meaning.{Shapes}
use Rattle.verilog_tree.specs.Uncut.{Numbers, whole, whole_bit, whole_equal}
use Rattle.net_module.specs.Written.{tree_for, is_wire}
use Rattle.net_module.proofs.Outputs.{signed_value-true}

false_true : false ≡ true → ⊥
false_true h = cc

whole_equality : (a b : ℤ) → whole_bit (whole_equal a b) ≡ equality a b
whole_equality (pos a) (pos b) = refl
whole_equality (pos a) (negsuc b) = refl
whole_equality (negsuc a) (pos b) = refl
whole_equality (negsuc a) (negsuc b) = refl

pub whole_item : (shapes : Shapes) (numbers : Numbers) (number : ℕ → ℕ) (now : ℕ → ℤ) (input : ℤ) (place count width : ℕ) (item : Item) → 1 ≤ width → is_wire (Some item) ≡ true
    → OperandsBelow place count width (Some item) → ((k : ℕ) → k < place → numbers (number k) ≡ now k)
    → whole shapes (tree_for number width (Some item)) numbers ≡ result_of item input now
whole_item shapes numbers number now input place count width Input wide wire o same = absurd (false_true wire)
whole_item shapes numbers number now input place count width (Constant v) wide wire o same = signed_value-true width (pattern width v) ∙ signed-pattern width v wide o
whole_item shapes numbers number now input place count width (Add a b) wide wire o same = rw (same a.place o.0, same b.place o.1) refl
whole_item shapes numbers number now input place count width (Sub a b) wide wire o same = rw (same a.place o.0, same b.place o.1) refl
whole_item shapes numbers number now input place count width (Shl a by) wide wire o same = rw (same a.place o.0) refl
whole_item shapes numbers number now input place count width (Shr a by) wide wire o same = rw (same a.place o.0) refl
whole_item shapes numbers number now input place count width (Mux on a b) wide wire o same = rw (same on.place o.0, same a.place o.1, same b.place o.2) refl
whole_item shapes numbers number now input place count width (Equal a b) wide wire o same =
    whole_equality (numbers (number a.place)) (numbers (number b.place)) ∙ rw (same a.place o.0, same b.place o.1) refl
whole_item shapes numbers number now input place count width (Bits a high low) wide wire o same = rw (same a.place o.0) refl
whole_item shapes numbers number now input place count width (Register next) wide wire o same = absurd (false_true wire)
