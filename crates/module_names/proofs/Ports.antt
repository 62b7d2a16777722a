-- The ports and the output register of a written module.
use Rattle.std.proofs.Common.{◌≡◌, ℕ, ◌+◌, true, List, ◌∷◌, ◌++◌, length, map, take, Some, slice_get, refl, sym, ◌∙◌, ap, subst, arith, ℤ}
use Rattle.std.specs.Option.{option_map}
use Rattle.net_graph.specs.declared.cell.Cell.{Cell}
use Rattle.net_graph.specs.Cut.{cut_all}
use Rattle.net_graph.specs.WellFormed.{IsNetlist}
use Rattle.net_graph.proofs.CutLemmas.{IsCut-all}
use Rattle.net_graph.proofs.NetLemmas.{IsRun-keeps}
use Rattle.net_graph.proofs.RunLemmas.{some_run}
use Rattle.net_graph.proofs.CellLemmas.{cell_at-is}
use Rattle.verilog_tree.specs.declared.tree.Signal.{Signal}
use Rattle.verilog_tree.specs.Names.{shapes_of, kind_of}
use Rattle.verilog_tree.specs.Cycle.{circuit_of, driver_of}
use Rattle.verilog_tree.specs.Meaning.{Values}
use Rattle.verilog_tree.specs.Shown.{Cycle, ports_of, inputs_of}
use Rattle.verilog_tree.specs.Tree.{Name, Assignment, Design}
use Rattle.verilog_tree.proofs.Computes.{Holds, assigned_from, name_computes}
use Rattle.mr_values.specs.Width.{FitsWidth, pattern}
use Rattle.mr_values.proofs.WidthLemmas.{FitsWidth-wrap}
use Rattle.net_module.specs.Steps.{ticks_in, samples_of, width_in}
use Rattle.net_module.specs.Written.{IsWritable, has_kind, is_output_kind, is_register, kind_for, number_of, output_place, written_module}
use Rattle.net_module.proofs.Along.{steps_as}
use Rattle.net_module.proofs.Cycles.{wide_of, width_of, sign_of, signal_of, register_data}
use Rattle.net_module.proofs.Numbers.{IsThere, first_there}
use Rattle.module_names.specs.Control.{IsRunAfterReset}
use Rattle.module_names.specs.Ports.{output_name, HasPorts}
use Rattle.module_names.proofs.OutputName.{output_register, output_number}
use Rattle.net_module.proofs.Settles.{settled_in}

module _ (cells : List Cell) (netlist : IsNetlist cells) (writable : IsWritable cells) where
  abbrev D : Design
  D = written_module cells

  out : IsThere cells (λ (c : Cell). has_kind is_output_kind c.name) (output_place cells)
  out = first_there (λ (c : Cell). has_kind is_output_kind c.name) cells writable.output.place writable.output.cell writable.output.there writable.output.is_it

  registered : is_register out.cell.item ≡ true
  registered = output_register out.cell.name out.cell.item (netlist.well_formed.each (output_place cells) out.cell out.there).named (netlist.bound.each (output_place cells) out.cell out.there) out.is_it

  number : output_name D ≡ number_of cells (output_place cells)
  number = output_number cells netlist (output_place cells) out.cell out.there out.is_it

  -- `out_data` has the bits of `out_q`: both are those of the node's value
  shown : (content : Values) (before after : List Cycle) (reset : Cycle) (settled : List Values) → IsRunAfterReset D content before after reset settled → (j : ℕ) (now : Values) → slice_get settled (length before + 1 + j) ≡ Some now
      → now (ports_of D).out_data ≡ now (output_name D)
  shown content before after reset settled r j now at =
      let place = output_place cells in
      let x = samples_of (width_in cells) after in
      let run = some_run cut_all IsCut-all cells x netlist in
      let t = ticks_in (take j after) in
      let worth : ℤ = run.0 t place in
      let wide = wide_of cells netlist writable place out.cell out.there in
      let w = width_of cells netlist writable place out.cell out.there in
      let port_wide = ap (λ (c : Cell). c.width) (cell_at-is cells place out.cell out.there) in
      let bits = (steps_as cells netlist writable).registers content before after reset settled (record { run = r.run; is_reset = r.is_reset; none = r.none; fit = r.fit }) run.0 run.1 j now at place out.cell out.there registered in
      let fits = subst (FitsWidth out.cell.width) (IsRun-keeps cut_all IsCut-all cells x run.0 place out.cell run.1 out.there wide t) (FitsWidth-wrap out.cell.width worth wide) in
      let held : Holds (shapes_of D) now (number_of cells place) worth =
      record {
        wide = omega (arith, w, wide);
        sign = sign_of cells netlist writable place out.cell out.there;
        fits = subst (λ (n : ℕ). FitsWidth n worth) (sym w) fits;
        bits = bits ∙ ap (λ (n : ℕ). pattern n worth) (sym w);
      } in
      let settled_here = settled_in (circuit_of D) content (map (inputs_of (ports_of D)) (before ++ reset ∷ after)) settled r.run (length before + 1 + j) now at in
      let alias : Assignment = record { target = 6; value = Name (number_of cells place) } in
      settled_here 1 (driver_of (shapes_of D) alias) refl
      ∙ assigned_from (shapes_of D) now 6 (Name (number_of cells place)) worth (name_computes (shapes_of D) now (number_of cells place) worth held).computes
      ∙ ap (λ (n : ℕ). pattern n worth) port_wide ∙ sym bits ∙ ap now (sym number)

  pub has_ports : HasPorts (width_in cells) D
  has_ports = record {
    same = shown;
    in_signed = refl;
    in_width = refl;
    out_signed = refl;
    out_width = ap (λ (c : Cell). c.width) (cell_at-is cells (output_place cells) out.cell out.there)
        ∙ sym (width_of cells netlist writable (output_place cells) out.cell out.there) ∙ ap (shapes_of D).width (sym number);
    register = ap (kind_of D) number
        ∙ ap (option_map (λ (s : Signal). s.kind)) (signal_of cells netlist writable (output_place cells) out.cell out.there (register_data out.cell.item registered))
        ∙ ap (λ b. Some (kind_for b)) registered;
  }
