-- The numbers of a net's register in the module of a plan: those of the net's run at each tick, as its bits and uncut.
use Rattle.std.proofs.Common.{◌≡◌, ℕ, suc, ◌+◌, ◌≤◌, true, List, length, take, drop, Some, slice_get, sym, ◌∙◌, ap, subst}
use Rattle.std.specs.Option.{option_map}
use Rattle.mr_values.specs.declared.plan.Element.{Element}
use Rattle.mr_values.specs.Width.{signed}
use Rattle.net_graph.specs.declared.cell.Cell.{Cell}
use Rattle.net_graph.specs.declared.cell.Node.{Node}
use Rattle.net_graph.specs.Cut.{cut_all, cut_control}
use Rattle.net_graph.specs.Run.{IsRun, Values as Worth}
use Rattle.net_graph.proofs.CutLemmas.{IsCut-all}
use Rattle.net_graph.proofs.NetLemmas.{IsRun-keeps}
use Rattle.verilog_tree.specs.declared.tree.Kind.TheVariants.{Reg}
use Rattle.verilog_tree.specs.declared.tree.Signal.{Signal}
use Rattle.verilog_tree.specs.Meaning.{Shapes, Values}
use Rattle.verilog_tree.specs.Names as texts
use Rattle.verilog_tree.specs.Names.{shapes_of, kind_of}
use Rattle.verilog_tree.specs.Shown.{Cycle, signed_value}
use Rattle.verilog_tree.specs.Tree.{Design}
use Rattle.verilog_tree.specs.Uncut.{Numbers, IsUncutRun, number_at}
use Rattle.verilog_text.specs.Order.{IsSameButPlaces}
use Rattle.module_laws.proofs.Places.{same_shapes}
use Rattle.net_module.specs.Written.{IsWritable, is_register, kind_for, written_module, number_of}
use Rattle.net_module.specs.Steps.{ticks_in, samples_of, RunsAfterReset}
use Rattle.net_module.proofs.Along.{steps_as}
use Rattle.net_module.proofs.Cycles.{wide_of, width_of, sign_of, signal_of, register_data}
use Rattle.net_module.proofs.Outputs.{signed_value-true}
use Rattle.chain_build.specs.ChainNet.{IsChainNet}
use Rattle.uncut_module.proofs.Along.{steps_uncut}
use Rattle.filter_text.specs.Runs.{IsRunFrom}
use Rattle.filter_text.proofs.ChainPlaces.{input_width, chain_writable}
use Rattle.filter_text.proofs.ChainShows.{of_written}
use Rattle.filter_text.proofs.UncutPlaces.{same_kind, same_number, same_uncut_run}

-- a register, whose name is the first with this text
module _ {width ticks : ℕ} {elements : List Element} {cells : List Cell} {out_q out_valid : Node} (wide : 1 ≤ width) (narrow : width ≤ 127) (some : 1 ≤ ticks) (net : IsChainNet width ticks elements cells out_q out_valid)
    (place : ℕ) (cell : Cell) (there : slice_get cells place ≡ Some cell) (registered : is_register cell.item ≡ true) (text : List ℕ) (numbered : texts.number_of (written_module cells) text ≡ number_of cells place)
    (d : Design) (same : IsSameButPlaces d (written_module cells)) where
  abbrev can : IsWritable cells
  can = chain_writable net narrow

  abbrev number : ℕ
  number = number_of cells place

  abbrev written : Shapes
  written = shapes_of (written_module cells)

  written_runs : (content : Values) (before after : List Cycle) (reset : Cycle) (settled : List Values) → IsRunFrom d width content before after reset settled → RunsAfterReset cells content before after reset settled
  written_runs = of_written narrow some net.positive net d same

  number_same : texts.number_of d text ≡ number
  number_same = rw (same.same_names) numbered

  pub register_kind : kind_of d (texts.number_of d text) ≡ Some Reg
  register_kind =
      ap (kind_of d) number_same ∙ same_kind d (written_module cells) same number
      ∙ ap (option_map (λ (s : Signal). s.kind)) (signal_of cells net.netlist can place cell there (register_data cell.item registered))
      ∙ ap (λ b. Some (kind_for b)) registered

  pub register_width : (shapes_of d).width (texts.number_of d text) ≡ cell.width
  register_width =
      ap ((shapes_of d).width) number_same ∙ ap (λ (s : Shapes). s.width number) (same_shapes d (written_module cells) same)
      ∙ width_of cells net.netlist can place cell there

  -- in each cycle after the last reset, over a run of the net
  module _ (content : Values) (before after : List Cycle) (reset : Cycle) (settled : List Values) (runs : IsRunFrom d width content before after reset settled) where
    -- the bits stand for the number of the net's run
    pub register_bits : (worth : Worth) → IsRun cut_all cells (samples_of width after) worth → (j : ℕ) (now : Values) → slice_get settled (length before + 1 + j) ≡ Some now
        → number_at d now (texts.number_of d text) ≡ worth (ticks_in (take j after)) place
    register_bits worth run j now at =
        let own = subst (λ (w : ℕ). IsRun cut_all cells (samples_of w after) worth) (sym (input_width net)) run in
        ap (number_at d now) number_same ∙ same_number d (written_module cells) same now number
        ∙ ap (λ b. signed_value b (written.width number) (now number)) (sign_of cells net.netlist can place cell there)
        ∙ signed_value-true (written.width number) (now number)
        ∙ ap (λ (w : ℕ). signed w (now number)) (width_of cells net.netlist can place cell there)
        ∙ ap (signed cell.width) ((steps_as cells net.netlist can).registers content before after reset settled (written_runs content before after reset settled runs) worth own j now at place cell there registered)
        ∙ IsRun-keeps cut_all IsCut-all cells (samples_of width after) worth place cell run there (wide_of cells net.netlist can place cell there) (ticks_in (take j after))

    -- the whole number is that of the net's uncut run
    pub register_whole : (begins : Numbers) (uncut : List Numbers) → IsUncutRun d begins (drop (length before) settled) uncut → (worth : Worth) → IsRun cut_control cells (samples_of width after) worth
        → (j : ℕ) (now : Numbers) → slice_get uncut (suc j) ≡ Some now → now (texts.number_of d text) ≡ worth (ticks_in (take j after)) place
    register_whole begins uncut numbers worth run j now at =
        let own = subst (λ (w : ℕ). IsRun cut_control cells (samples_of w after) worth) (sym (input_width net)) run in
        let whole_run = same_uncut_run d (written_module cells) same begins (drop (length before) settled) uncut numbers in
        ap now number_same
        ∙ (steps_uncut cells net.netlist net.closed can).registers content before after reset settled uncut worth
        (record { patterns = written_runs content before after reset settled runs; begins = begins; numbers = whole_run; net = own })
        j now at place cell there registered
