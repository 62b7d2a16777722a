-- The statements of a written module that drive the outputs have no adder.
use Rattle.std.proofs.Common.{◌≡◌, ℕ, zero, suc, ◌+◌, Bool, true, false, cond, List, [], ◌∷◌, Option, Some, slice_get, refl, sym, ◌∙◌, ap, arith}
use Rattle.std.specs.List.{sum_by}
use Rattle.std.proofs.lemmas.List.Sums.{sum-map, sum_by-cons}
use Rattle.net_graph.specs.declared.cell.Cell.{Cell}
use Rattle.net_graph.specs.declared.cell.Item.{Item}
use Rattle.net_graph.specs.Name.{is_input}
use Rattle.net_graph.specs.WellFormed.{IsNetlist}
use Rattle.verilog_tree.specs.Tree.{Name as NameTree, Action, Assignment, Design}
use Rattle.verilog_tree.specs.Names.{text_of}
use Rattle.verilog_tree.specs.Counted.{adders_in, given_adders}
use Rattle.net_module.specs.Written.{has_kind, is_output_kind, is_register, is_wire, number_of, tree_for, block_for, output_place, valid_place, written_module}
use Rattle.net_module.proofs.Cycles.{wire_parts, register_is}
use Rattle.net_module.proofs.Lists.{assignment_of, assign_from}
use Rattle.net_module.proofs.NodeTexts.{node_text_of}
use Rattle.module_costs.proofs.Written.{block_from}
use Rattle.module_names.specs.Outputs.{is_output, HasPlainOutputs}
use Rattle.module_names.proofs.OutputName.{output_text, output_register}

true_false : true ≡ false → ⊥
true_false h = cc

-- a sum in which each element adds nothing
sum_none : {A : Type 0} (f : A → ℕ) (xs : List A) → ((k : ℕ) (x : A) → slice_get xs k ≡ Some x → f x ≡ 0) → sum_by f xs ≡ 0
sum_none f [] each = refl
sum_none f (x ∷ xs) each =
    let own : f x ≡ 0 = each 0 x refl in
    let rest : sum_by f xs ≡ 0 = sum_none f xs (λ k y at. each (suc k) y at) in
    sum_by-cons f x xs ∙ (omega arith)

zero_either : (b : Bool) → cond {A = ℕ} b 0 0 ≡ 0
zero_either true = refl
zero_either false = refl

left_out : (b : Bool) (n : ℕ) → b ≡ false → cond b n 0 ≡ 0
left_out true n e = absurd (true_false e)
left_out false n e = refl

module _ (cells : List Cell) (netlist : IsNetlist cells) where
  abbrev D : Design
  D = written_module cells

  abbrev N : ℕ → ℕ
  N = number_of cells

  abbrev counts : ℕ → Bool
  counts n = is_output (text_of D n)

  abbrev assigned : Assignment → ℕ
  assigned a = cond (counts a.target) (adders_in a.value) 0

  -- the output register has no assignment
  wire_apart : (place : ℕ) (cell : Cell) → slice_get cells place ≡ Some cell → is_wire cell.item ≡ true → counts (N place) ≡ false
  wire_apart place cell there wire =
      let parts = wire_parts (is_input cell.item) (is_register cell.item) wire in
      ap is_output (node_text_of cells place cell there parts.0) ∙ output_text cell.name cell.group place ∙ by (has_kind is_output_kind cell.name) refl
    where
      by : (b : Bool) → has_kind is_output_kind cell.name ≡ b → has_kind is_output_kind cell.name ≡ false
      by true e =
          let register = output_register cell.name cell.item (netlist.well_formed.each place cell there).named (netlist.bound.each place cell there) e in
          absurd (true_false (sym register ∙ (wire_parts (is_input cell.item) (is_register cell.item) wire).1))
      by false e = e

  -- the ports show names
  abbrev port_of : ℕ → ℕ → Assignment
  port_of target place = record { target = target; value = NameTree (N place) }

  one_assignment : (a b : Assignment) → Some a ≡ Some b → a ≡ b
  one_assignment a b e = cc

  shown : (target place : ℕ) (a : Assignment) → Some (port_of target place) ≡ Some a → assigned a ≡ 0
  shown target place a there = ap assigned (sym (one_assignment (port_of target place) a there)) ∙ zero_either (counts target)

  no_assigned : (k : ℕ) (a : Assignment) → slice_get D.assigns k ≡ Some a → assigned a ≡ 0
  no_assigned zero a there = shown 5 (valid_place cells) a there
  no_assigned (suc zero) a there = shown 6 (output_place cells) a there
  no_assigned (suc (suc k)) a there =
      let w = assign_from N cells 0 k a there in
      let place : 0 + w.place ≡ w.place = omega arith in
      ap assigned (w.is_it ∙ ap (assignment_of N w.cell) place) ∙ left_out (counts (N w.place)) (adders_in (tree_for N w.cell.width w.cell.item)) (wire_apart w.place w.cell w.there w.wire)

  -- a register takes a name
  block_plain : (n width : ℕ) (item : Option Item) → is_register item ≡ true → given_adders counts (block_for n width (tree_for N width item)) ≡ 0
  block_plain n width item register =
      let r = register_is item register in
      let none = zero_either (counts n) in
      ap (λ (i : Option Item). given_adders counts (block_for n width (tree_for N width i))) r.1 ∙ (omega (arith, none))

  no_given : (k : ℕ) (s : Action) → slice_get D.blocks k ≡ Some s → given_adders counts s ≡ 0
  no_given k s there =
      let w = block_from N cells 0 k s there in
      ap (given_adders counts) w.is_it ∙ block_plain (N (0 + w.place)) w.cell.width w.cell.item w.register

  pub plain_outputs : HasPlainOutputs D
  plain_outputs =
      let assigns : sum_by assigned D.assigns ≡ 0 = sum_none assigned D.assigns no_assigned in
      let blocks : sum_by (given_adders counts) D.blocks ≡ 0 = sum_none (given_adders counts) D.blocks no_given in
      record { none = omega (arith, sum-map assigned D.assigns, sum-map (given_adders counts) D.blocks, assigns, blocks) }
