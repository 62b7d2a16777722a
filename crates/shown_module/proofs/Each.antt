-- The outputs of a written module in each cycle after a reset.
use Rattle.std.proofs.Common.{◌≡◌, ℕ, ◌+◌, ◌≤◌, Bool, true, false, not, List, ◌∷◌, ◌++◌, length, map, take, Some, slice_get, ℤ, pos, refl, sym, ◌∙◌, ap, arith, subst}
use Rattle.std.specs.Prelude.{◌==◌, All}
use Rattle.std.specs.Option.{option_map}
use Rattle.std.proofs.lemmas.Option.{slice_get-map}
use Rattle.mr_values.specs.Sequence.{samples}
use Rattle.mr_values.specs.Width.{FitsWidth, pattern, signed}
use Rattle.mr_values.proofs.WidthLemmas.{signed-pattern, pattern-zero, pattern-set_bit, FitsWidth-wrap}
use Rattle.net_graph.specs.declared.cell.Cell.{Cell}
use Rattle.net_graph.specs.Cells.{cell_at}
use Rattle.net_graph.specs.Cut.{cut_all}
use Rattle.net_graph.specs.Run.{Values as Worth, IsRun as IsNetRun}
use Rattle.net_graph.proofs.CellLemmas.{cell_at-is}
use Rattle.net_graph.proofs.CutLemmas.{IsCut-all}
use Rattle.net_graph.proofs.NetLemmas.{IsRun-keeps}
use Rattle.net_graph.proofs.RunLemmas.{some_run}
use Rattle.verilog_tree.specs.Circuit.{IsSettled}
use Rattle.verilog_tree.specs.Cycle.{circuit_of, driver_of}
use Rattle.verilog_tree.specs.Meaning.{Values}
use Rattle.verilog_tree.specs.Names.{shapes_of}
use Rattle.verilog_tree.specs.Shown.{Cycle, ports_of, inputs_of}
use Rattle.verilog_tree.specs.Tree.{Name, Assignment, Design}
use Rattle.verilog_tree.specs.Uncut.{number_at}
use Rattle.verilog_tree.proofs.Computes.{assigned_from, name_computes}
use Rattle.net_module.specs.Steps.{RunsAfterReset, ticks_in, samples_of, width_in}
use Rattle.net_module.specs.Written.{number_of, has_kind, is_output_kind, is_register, output_place, valid_place, written_module}
use Rattle.net_module.proofs.Along.{steps_as}
use Rattle.net_module.proofs.Cycles.{input_width, wide_of, make}
use Rattle.net_module.proofs.Numbers.{IsThere}
use Rattle.net_module.proofs.Outputs.{output_there, signed_value-true}
use Rattle.net_module.proofs.Settles.{settled_in}
use Rattle.module_names.specs.Control.{IsRunAfterReset}
use Rattle.module_names.proofs.OutputName.{output_register}
use Rattle.shown_module.specs.Shown.{numbers_in, ShowsInEach}
use Rattle.shown_module.specs.ShownNet.{IsShownNet}
use Rattle.shown_module.proofs.Data.{numbers_are, numbers_fit}

false_true : false ≡ true → ⊥
false_true h = cc

module _ {width : ℕ} {shown : ℕ → Bool} {value : List ℤ → ℕ → ℤ} {cells : List Cell} (net : IsShownNet width shown value cells) where
  abbrev D : Design
  D = written_module cells

  abbrev N : ℕ → ℕ
  N = number_of cells

  -- the output is a register
  out : IsThere cells (λ c. has_kind is_output_kind c.name) (output_place cells)
  out = output_there cells net.netlist net.writable

  registered : is_register out.cell.item ≡ true
  registered = output_register out.cell.name out.cell.item (net.netlist.well_formed.each (output_place cells) out.cell out.there).named (net.netlist.bound.each (output_place cells) out.cell out.there) out.is_it

  input_wide : 1 ≤ width_in cells
  input_wide =
      let i = net.writable.input in
      let same = input_width cells net.netlist net.writable i.place i.cell i.there i.is_it in
      let wide = wide_of cells net.netlist net.writable i.place i.cell i.there in
      omega (arith, same, wide)

  module _ (content : Values) (before after : List Cycle) (reset : Cycle) (settled : List Values) (r : IsRunAfterReset D content before after reset settled) where
    abbrev x : ℕ → ℤ
    x = samples_of (width_in cells) after

    abbrev runs : RunsAfterReset cells content before after reset settled
    runs = record { run = r.run; is_reset = r.is_reset; none = r.none; fit = r.fit }

    module _ (worth : Worth) (run : IsNetRun cut_all cells x worth) (j : ℕ) (now : Values) (at : slice_get settled (length before + 1 + j) ≡ Some now) where
      abbrev t : ℕ
      t = ticks_in (take j after)

      settled_here : IsSettled (circuit_of D) now
      settled_here = settled_in (circuit_of D) content (map (inputs_of (ports_of D)) (before ++ reset ∷ after)) settled r.run (length before + 1 + j) now at

      -- an output has the bits of the node that it names
      alias : (k target place : ℕ) (cell : Cell) → slice_get cells place ≡ Some cell → now (N place) ≡ pattern cell.width (worth t place) → slice_get D.assigns k ≡ Some (record { target = target; value = Name (N place) })
          → now target ≡ pattern ((shapes_of D).width target) (worth t place)
      alias k target place cell there bits at_k =
          let a : Assignment = record { target = target; value = Name (N place) } in
          let holds = make cells net.netlist net.writable x worth run t now place cell there bits in
          settled_here k (driver_of (shapes_of D) a) (slice_get-map (driver_of (shapes_of D)) D.assigns k ∙ ap (option_map (driver_of (shapes_of D))) at_k)
          ∙ assigned_from (shapes_of D) now target (Name (N place)) (worth t place) (name_computes (shapes_of D) now (N place) (worth t place) holds).computes

      valid_bits : now 5 ≡ pattern 1 (worth t (valid_place cells))
      valid_bits =
          let c = net.valid.control in
          alias 0 5 (valid_place cells) c.cell c.there
          ((steps_as cells net.netlist net.writable).control net.closed content before after reset settled runs worth run j now at (valid_place cells) c.cell c.there c.control) refl

      valid_is : not (now 5 == 0) ≡ shown t
      valid_is = by (shown t) refl
        where
          by : (b : Bool) → shown t ≡ b → not (now 5 == 0) ≡ shown t
          by true e =
              ap (λ (n : ℕ). not (n == 0)) (valid_bits ∙ ap (pattern 1) (net.valid.sets cut_all IsCut-all x worth run t e) ∙ pattern-set_bit) ∙ sym e
          by false e =
              ap (λ (n : ℕ). not (n == 0)) (valid_bits ∙ ap (pattern 1) (net.valid.clears cut_all IsCut-all x worth run t (λ is. false_true (sym e ∙ is))) ∙ pattern-zero 1) ∙ sym e

      data_is : number_at D now 6 ≡ worth t (output_place cells)
      data_is =
          let place = output_place cells in
          let wide = wide_of cells net.netlist net.writable place out.cell out.there in
          let port_wide = ap (λ (c : Cell). c.width) (cell_at-is cells place out.cell out.there) in
          let fits = subst (FitsWidth out.cell.width) (IsRun-keeps cut_all IsCut-all cells x worth place out.cell run out.there wide t) (FitsWidth-wrap out.cell.width (worth t place) wide) in
          let bits = alias 1 6 place out.cell out.there ((steps_as cells net.netlist net.writable).registers content before after reset settled runs worth run j now at place out.cell out.there registered) refl in
          signed_value-true (cell_at cells place).width (now 6)
          ∙ ap (signed (cell_at cells place).width) bits
          ∙ ap (λ (w : ℕ). signed w (pattern w (worth t place))) port_wide
          ∙ signed-pattern out.cell.width (worth t place) wide fits

    pub a_run : (worth : Worth) × IsNetRun cut_all cells x worth
    a_run = some_run cut_all IsCut-all cells x net.netlist

    -- the value at a shown tick
    pub value_is : (worth : Worth) → IsNetRun cut_all cells x worth → (t : ℕ) → shown t ≡ true → worth t (output_place cells) ≡ value (numbers_in width after) t
    value_is worth run t is =
        net.values x worth (numbers_in width after)
        (subst (λ (w : ℕ). All (FitsWidth w) (numbers_in w after)) net.input (numbers_fit (width_in cells) input_wide after r.fit))
        (λ s. numbers_are (width_in cells) after s ∙ ap (λ (w : ℕ). samples (numbers_in w after) (pos s)) net.input) run t is

  pub shows_in_each : ShowsInEach width shown value D
  shows_in_each = record {
    valid = λ content before after reset settled r j now at. let run = a_run content before after reset settled r in valid_is content before after reset settled r run.0 run.1 j now at;
    carried = λ content before after reset settled r j now at is.
        let run = a_run content before after reset settled r in
        data_is content before after reset settled r run.0 run.1 j now at ∙ value_is content before after reset settled r run.0 run.1 (ticks_in (take j after)) is;
  }
