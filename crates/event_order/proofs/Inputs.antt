-- The inputs of cycles are driven by no assignment.
use Rattle.std.proofs.Common.{◌≡◌, ℕ, List, [], ◌∷◌, Some, slice_get, ◌∙◌, ap, arith}
use Rattle.std.specs.Prelude.{codes, All}
use Rattle.std.proofs.lemmas.List.Elements.{All-cons}
use Rattle.verilog_tree.specs.Circuit.{Driver, Input}
use Rattle.verilog_tree.specs.Cycle.{circuit_of}
use Rattle.verilog_tree.specs.Meaning.{bit_of}
use Rattle.verilog_tree.specs.Names.{number_of}
use Rattle.verilog_tree.specs.Renaming.{AreDistinct}
use Rattle.verilog_tree.specs.Checks.{Passes}
use Rattle.verilog_tree.specs.Shown.{Cycle, inputs_of, ports_of}
use Rattle.verilog_tree.specs.Tree.{Assignment, Design}
use Rattle.verilog_tree.proofs.OneSettling.{assign_at}
use Rattle.module_laws.proofs.InputPorts.{rst_undriven, ce_undriven, in_data_undriven}
use Rattle.event_order.specs.Laws.{inputs_over}
use Rattle.event_order.specs.Order.{AreInputs}

module _ (d : Design) (passes : Passes d) (distinct : AreDistinct d.names) where
  undriven : (name : ℕ) → ((k : ℕ) (a : Assignment) → slice_get d.assigns k ≡ Some a → a.target ≡ name → ⊥) → (k : ℕ) (by : Driver) → slice_get (circuit_of d).drivers k ≡ Some by → by.target ≡ name → ⊥
  undriven name none k by at is =
      let found = assign_at d k by at in
      none k found.0 found.1 (ap (λ (x : Driver). x.target) found.2 ∙ is)

  abbrev Undriven : Input → Type 0
  Undriven input = (k : ℕ) (by : Driver) → slice_get (circuit_of d).drivers k ≡ Some by → by.target ≡ input.name → ⊥

  none_inputs : All Undriven []
  none_inputs k e lt = absurd (omega (arith, lt))

  pub of_cycle : (c : Cycle) → AreInputs (circuit_of d) (inputs_of (ports_of d) c)
  of_cycle c =
      let rst : Input = record { name = number_of d (codes "rst"); value = bit_of c.rst } in
      let ce : Input = record { name = number_of d (codes "ce"); value = bit_of c.ce } in
      let in_data : Input = record { name = number_of d (codes "in_data"); value = c.in_data } in
      All-cons Undriven rst (ce ∷ in_data ∷ []) (undriven rst.name (rst_undriven d passes distinct))
      (All-cons Undriven ce (in_data ∷ []) (undriven ce.name (ce_undriven d passes distinct))
      (All-cons Undriven in_data [] (undriven in_data.name (in_data_undriven d passes distinct)) none_inputs))

  pub are_inputs : (cycles : List Cycle) → All (AreInputs (circuit_of d)) (inputs_over d cycles)
  are_inputs [] = λ k e lt. absurd (omega (arith, lt))
  are_inputs (c ∷ cycles) = All-cons (AreInputs (circuit_of d)) (inputs_of (ports_of d) c) (inputs_over d cycles) (of_cycle c) (are_inputs cycles)
