-- A simulator after its inputs were set and its wires settled.
use Rattle.std.proofs.Common.{◌≡◌, ℕ, Bool, List, ◌++◌, take, length, sym, ap, ◌∙◌, subst}
use Rattle.std.proofs.lemmas.List.{take_at}
use Rattle.verilog_tree.specs.declared.tree.Module.{Module}
use Rattle.verilog_tree.specs.Meaning.{Values}
use Rattle.verilog_tree.specs.Circuit.{with_inputs, IsSettling}
use Rattle.verilog_tree.specs.Cycle.{circuit_of}
use Rattle.verilog_tree.specs.Shown.{ports_of, inputs_of}
use Rattle.verilog_tree.specs.View.{design_view}
use Rattle.clock_sim.specs.Simulated.{values_of}
use Rattle.clock_sim.specs.Sim.{Simulation, cycle_of}

pub settle_view : (sim : Simulation) (m : Module) (items slice before after rest : List ℕ) (n : ℕ) (rst ce : Bool) (in_data : ℕ)
    → sim ≡ record { design = m; values = items } → slice ≡ items → values_of before ≡ with_inputs (inputs_of (ports_of (design_view m)) (cycle_of rst ce in_data)) (values_of slice)
    → IsSettling (circuit_of (design_view m)) (values_of before) (values_of after) → length after ≡ n
    → IsSettling (circuit_of (design_view sim.design)) (with_inputs (inputs_of (ports_of (design_view sim.design)) (cycle_of rst ce in_data)) (values_of sim.values)) (values_of (take n (after ++ rest)))
settle_view sim m items slice before after rest n rst ce in_data view same set settled size =
    let content = set ∙ ap (λ (xs : List ℕ). with_inputs (inputs_of (ports_of (design_view m)) (cycle_of rst ce in_data)) (values_of xs)) same in
    let moved = subst (λ (v : Values). IsSettling (circuit_of (design_view m)) v (values_of after)) content settled in
    subst (λ (s : Simulation). IsSettling (circuit_of (design_view s.design)) (with_inputs (inputs_of (ports_of (design_view s.design)) (cycle_of rst ce in_data)) (values_of s.values)) (values_of (take n (after ++ rest)))) (sym view)
    (subst (λ (xs : List ℕ). IsSettling (circuit_of (design_view m)) (with_inputs (inputs_of (ports_of (design_view m)) (cycle_of rst ce in_data)) (values_of items)) (values_of xs)) (sym (take_at after rest n size)) moved)

pub inputs_view : (sim : Simulation) (m : Module) (items slice after rest : List ℕ) (n : ℕ) (rst ce : Bool) (in_data : ℕ)
    → sim ≡ record { design = m; values = items } → slice ≡ items → values_of after ≡ with_inputs (inputs_of (ports_of (design_view m)) (cycle_of rst ce in_data)) (values_of slice) → length after ≡ n
    → values_of (take n (after ++ rest)) ≡ with_inputs (inputs_of (ports_of (design_view sim.design)) (cycle_of rst ce in_data)) (values_of sim.values)
inputs_view sim m items slice after rest n rst ce in_data view same set size =
    ap values_of (take_at after rest n size) ∙ set
    ∙ ap (λ (xs : List ℕ). with_inputs (inputs_of (ports_of (design_view m)) (cycle_of rst ce in_data)) (values_of xs)) same
    ∙ ap (λ (s : Simulation). with_inputs (inputs_of (ports_of (design_view s.design)) (cycle_of rst ce in_data)) (values_of s.values)) (sym view)
