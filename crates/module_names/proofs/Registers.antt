-- The registers of a written module.
use Rattle.std.proofs.Common.{◌≡◌, ℕ, ◌+◌, true, false, List, Some, slice_get, sym, ◌∙◌, ap, subst, arith, ℤ, pos}
use Rattle.std.specs.Option.{option_map}
use Rattle.mr_values.specs.Width.{pattern}
use Rattle.mr_values.proofs.WidthLemmas.{pattern-zero}
use Rattle.net_graph.specs.declared.cell.Cell.{Cell}
use Rattle.net_graph.specs.Cells.{cell_at}
use Rattle.net_graph.specs.Cut.{cut_all}
use Rattle.net_graph.specs.Name.{is_control}
use Rattle.net_graph.specs.Run.{Obeys}
use Rattle.net_graph.specs.WellFormed.{IsNetlist}
use Rattle.net_graph.proofs.CutLemmas.{IsCut-all}
use Rattle.net_graph.proofs.RunLemmas.{some_run}
use Rattle.verilog_tree.specs.declared.tree.Kind.TheVariants.{Reg}
use Rattle.verilog_tree.specs.declared.tree.Signal.{Signal}
use Rattle.verilog_tree.specs.Tree.{Action, Design}
use Rattle.verilog_tree.specs.Meaning.{Values}
use Rattle.verilog_tree.specs.Names.{kind_of}
use Rattle.verilog_tree.specs.Circuit.{IsSettling, with_inputs, next}
use Rattle.verilog_tree.specs.Cycle.{circuit_of}
use Rattle.verilog_tree.specs.Shown.{Cycle, ports_of, inputs_of}
use Rattle.net_module.specs.Written.{IsWritable, is_register, input_place, kind_for, number_of, node_signals, output_place, tree_for, block_for, written_module}
use Rattle.net_module.proofs.Cycles.{width_of, signal_of, register_data, register_is, register_is_kept, resets, rests}
use Rattle.module_costs.proofs.Written.{IsRegisterOf, past_ports, register_from, block_from}
use Rattle.module_names.specs.Registers.{IsHeldBlock, HasHeldBlocks, HasReset}

module _ (cells : List Cell) (netlist : IsNetlist cells) (writable : IsWritable cells) where
  abbrev D : Design
  D = written_module cells

  abbrev N : ℕ → ℕ
  N = number_of cells

  -- each register is that of a node
  pub register_node : (name : ℕ) → kind_of D name ≡ Some Reg → IsRegisterOf cells 7 name
  register_node name is = register_from cells 7 name (past_ports (cell_at cells (input_place cells)).width (cell_at cells (output_place cells)).width name (node_signals cells 7) is)

  pub kind_there : (place : ℕ) (cell : Cell) → slice_get cells place ≡ Some cell → is_register cell.item ≡ true → kind_of D (N place) ≡ Some Reg
  kind_there place cell there register =
      ap (option_map (λ (s : Signal). s.kind)) (signal_of cells netlist writable place cell there (register_data cell.item register)) ∙ ap (λ b. Some (kind_for b)) register

  -- ---- blocks

  held : (k : ℕ) (block : Action) → slice_get D.blocks k ≡ Some block → IsHeldBlock D block
  held k block there =
      let w = block_from N cells 0 k block there in
      let place : 0 + w.place ≡ w.place = omega arith in
      let value = tree_for N w.cell.width w.cell.item in
      record {
        register = N w.place;
        value = value;
        is_register = kind_there w.place w.cell w.there w.register;
        is_it = w.is_it ∙ ap (λ (p : ℕ). block_for (N p) w.cell.width value) place ∙ ap (λ (width : ℕ). block_for (N w.place) width value) (sym (width_of cells netlist writable w.place w.cell w.there));
      }

  pub held_blocks : HasHeldBlocks D
  held_blocks = record { each = held }

  -- ---- resets and rests

  begins_at_zero : (worth : ℕ → ℕ → ℤ) (x : ℕ → ℤ) (place : ℕ) (cell : Cell) → is_register cell.item ≡ true → Obeys (cut_all (is_control cell) cell.width) x worth place cell.item → worth 0 place ≡ pos 0
  begins_at_zero worth x place cell register obeys = let r = register_is cell.item register in (subst (Obeys (cut_all (is_control cell) cell.width) x worth place) r.1 obeys).0

  module _ (content now : Values) (c : Cycle) (settling : IsSettling (circuit_of D) (with_inputs (inputs_of (ports_of D) c) content) now) where
    reset : c.rst ≡ true → (name : ℕ) → kind_of D name ≡ Some Reg → next (circuit_of D) now name ≡ 0
    reset on name is =
        let r = register_node name is in
        let x : ℕ → ℤ = λ t. pos 0 in
        let run = some_run cut_all IsCut-all cells x netlist in
        ap (next (circuit_of D) now) r.number
        ∙ resets cells netlist writable c content now settling on x run.0 run.1 r.place r.cell r.there r.register
        ∙ ap (pattern r.cell.width) (begins_at_zero run.0 x r.place r.cell r.register (run.1.each r.place r.cell r.there))
        ∙ pattern-zero r.cell.width

    rest : c.rst ≡ false → c.ce ≡ false → (name : ℕ) → kind_of D name ≡ Some Reg → next (circuit_of D) now name ≡ content name
    rest off idle name is =
        let r = register_node name is in
        rests cells netlist writable c content now settling off idle name
        ∙ ap now r.number ∙ register_is_kept cells netlist writable c content now settling r.place r.cell r.there r.register ∙ ap content (sym r.number)

  pub has_reset : HasReset D
  has_reset = record { sets = reset; rests = rest }
