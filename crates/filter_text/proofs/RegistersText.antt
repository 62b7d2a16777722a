-- The linear registers of a plan are in its module as they are in its net.
use Rattle.std.proofs.Common.{◌≡◌, inr, ℕ, zero, suc, ◌+◌, ◌*◌, ◌<◌, ◌≤◌, true, List, [], ◌∷◌, length, drop, take, Some, slice_get, sym, ◌∙◌, ap, arith, pos}
use Rattle.std.specs.Prelude.{bytes_eq}
use Rattle.std.specs.List.{position_or_len}
use Rattle.mr_values.specs.declared.plan.Element.{Element}
use Rattle.mr_values.specs.Sequence.{samples, filter}
use Rattle.mr_values.specs.Timing.{Group, Fir, DownCic, UpCic, Rounding, Clipping, groups}
use Rattle.mr_values.specs.Value.{chain}
use Rattle.net_graph.specs.declared.cell.Cell.{Cell}
use Rattle.net_graph.specs.declared.cell.Node.{Node}
use Rattle.net_graph.specs.declared.name.Name.{Name}
use Rattle.net_graph.specs.Cut.{cut_all, cut_control}
use Rattle.net_graph.specs.Name.{written_name}
use Rattle.net_graph.proofs.CutLemmas.{IsCut-all, IsCut-control}
use Rattle.net_graph.proofs.RunLemmas.{some_run}
use Rattle.stage_law.specs.Range.{InClass}
use Rattle.stage_law.specs.Registers.{HeldSum}
use Rattle.verilog_tree.specs.Meaning.{Values}
use Rattle.verilog_tree.specs.Names as texts
use Rattle.verilog_tree.specs.Names.{text_of}
use Rattle.verilog_tree.specs.Shown.{Cycle}
use Rattle.verilog_tree.specs.Tree.{Design}
use Rattle.verilog_tree.specs.Uncut.{Numbers, IsUncutRun, number_at}
use Rattle.verilog_text.specs.Order.{IsSameButPlaces}
use Rattle.net_module.specs.Written.{is_register, written_module, number_of}
use Rattle.net_module.specs.Steps.{ticks_in, samples_of}
use Rattle.net_module.proofs.Cycles.{register_data}
use Rattle.net_module.proofs.NodeTexts.{node_text_of}
use Rattle.net_text.specs.Small.{AreSmall}
use Rattle.chain_build.specs.ChainNet.{IsChainNet}
use Rattle.chain_build.specs.Linear.{LinearRegister, linear, is_linear_group, is_linear_number}
use Rattle.chain_build.specs.LinearNet as net_registers
use Rattle.chain_build.specs.LinearNet.{IsRegisterIn, IsListed}
use Rattle.filter_text.specs.Runs.{samples_in, IsRunFrom}
use Rattle.filter_text.specs.Registers.{register_number, IsLinearRegister, IsNeverCut, AreNeverCut, IsNamedIn, HasLinearRegisters}
use Rattle.filter_text.proofs.ChainShows.{has_samples, samples_fit}
use Rattle.filter_text.proofs.CountedText.{few_groups}
use Rattle.filter_text.proofs.NodeNames.{text_number, register_text}
use Rattle.filter_text.proofs.RegisterNumbers.{register_kind, register_width, register_bits, register_whole}
use Rattle.filter_text.proofs.UncutPlaces.{same_text}
use Rattle.filter_text.proofs.RegisterGroups.{register_of_group}

-- a linear group has the number of a group
linear_place : (gs : List Group) (n : ℕ) → is_linear_group gs n ≡ true → n < length gs
linear_place [] n is = absurd (cc)
linear_place (Rounding shift mode ∷ gs) n is = absurd (cc)
linear_place (Clipping bits ∷ gs) n is = absurd (cc)
linear_place (Fir up f down ∷ gs) zero is = omega arith
linear_place (DownCic factor stages delay ∷ gs) zero is = omega arith
linear_place (UpCic factor stages delay ∷ gs) zero is = omega arith
linear_place (Fir up f down ∷ gs) (suc n) is = omega (arith, linear_place gs n is)
linear_place (DownCic factor stages delay ∷ gs) (suc n) is = omega (arith, linear_place gs n is)
linear_place (UpCic factor stages delay ∷ gs) (suc n) is = omega (arith, linear_place gs n is)

linear_below : (gs : List Group) (n : ℕ) → is_linear_number gs n ≡ true → n ≤ length gs
linear_below gs zero is = omega arith
linear_below gs (suc n) is = omega (arith, linear_place gs n is)

module _ {width ticks : ℕ} {elements : List Element} {cells : List Cell} {out_q out_valid : Node} (wide : 1 ≤ width) (narrow : width ≤ 127) (some : 1 ≤ ticks) (net : IsChainNet width ticks elements cells out_q out_valid)
    (small : AreSmall cells) (d : Design) (same : IsSameButPlaces d (written_module cells)) where
  -- a register of the net
  module _ (r : LinearRegister) (its : IsRegisterIn width ticks cells r) where
    registered : is_register its.register.cell.item ≡ true
    registered = ap is_register its.register.registered.1

    pub numbered : texts.number_of (written_module cells) (written_name r.name) ≡ number_of cells its.node.place
    numbered =
        ap (texts.number_of (written_module cells)) (sym (register_text cells net.netlist its.node.place its.register.cell r.name its.register.there registered its.register.named))
        ∙ text_number cells net.netlist small its.node.place its.register.cell its.register.there (register_data its.register.cell.item registered)

    uncut_same : (content : Values) (before after : List Cycle) (reset : Cycle) (settled : List Values) → IsRunFrom d width content before after reset settled
        → (begins : Numbers) (uncut : List Numbers) → IsUncutRun d begins (drop (length before) settled) uncut
        → (j : ℕ) (now : Values) (whole : Numbers) → slice_get settled (length before + 1 + j) ≡ Some now → slice_get uncut (suc j) ≡ Some whole
        → number_at d now (register_number d r) ≡ whole (register_number d r)
    uncut_same content before after reset settled runs begins uncut numbers j now whole at found =
        let cut_run = some_run cut_all IsCut-all cells (samples_of width after) net.netlist in
        let whole_run = some_run cut_control IsCut-control cells (samples_of width after) net.netlist in
        register_bits wide narrow some net its.node.place its.register.cell its.register.there registered (written_name r.name) numbered d same content before after reset settled runs cut_run.0 cut_run.1 j now at
        ∙ its.same (samples_of width after) cut_run.0 whole_run.0 (samples_in width ticks after) (samples_fit width ticks some wide after runs.fit) (has_samples width ticks some after) cut_run.1 whole_run.1 (ticks_in (take j after))
        ∙ sym (register_whole wide narrow some net its.node.place its.register.cell its.register.there registered (written_name r.name) numbered d same content before after reset settled runs begins uncut numbers whole_run.0 whole_run.1 j whole found)

    sum_held : (s : HeldSum) → r.needed ≡ Some s
        → (content : Values) (before after : List Cycle) (reset : Cycle) (settled : List Values) → IsRunFrom d width content before after reset settled
        → (k j : ℕ) (now : Values) → InClass s.class k → slice_get settled (length before + 1 + j) ≡ Some now → ticks_in (take j after) ≡ r.stream.offset + k * r.stream.period + s.lag
        → number_at d now (register_number d r) ≡ filter s.form (chain r.stream.elements (samples (samples_in width ticks after))) (pos k)
    sum_held s needs content before after reset settled runs k j now class at is =
        let run = some_run cut_all IsCut-all cells (samples_of width after) net.netlist in
        register_bits wide narrow some net its.node.place its.register.cell its.register.there registered (written_name r.name) numbered d same content before after reset settled runs run.0 run.1 j now at
        ∙ ap (λ (t : ℕ). run.0 t its.node.place) is
        ∙ its.holds s needs (samples_of width after) run.0 (samples_in width ticks after) (samples_fit width ticks some wide after runs.fit) (has_samples width ticks some after) run.1 k class

    text_is : text_of d (register_number d r) ≡ written_name r.name
    text_is =
        same_text d (written_module cells) same (register_number d r)
        ∙ ap (text_of (written_module cells)) (ap (λ (names : List (List ℕ)). position_or_len (bytes_eq (written_name r.name)) names) same.same_names ∙ numbered)
        ∙ node_text_of cells its.node.place its.register.cell its.register.there (register_data its.register.cell.item registered)
        ∙ register_text cells net.netlist its.node.place its.register.cell r.name its.register.there registered its.register.named

    pub linear_register : IsLinearRegister width ticks d r
    linear_register = record {
      named = text_is;
      is_register = register_kind wide narrow some net its.node.place its.register.cell its.register.there registered (written_name r.name) numbered d same;
      wide = register_width wide narrow some net its.node.place its.register.cell its.register.there registered (written_name r.name) numbered d same ∙ its.register.wide;
      holds = sum_held;
    }

    pub never_cut : IsNeverCut width d r
    never_cut = record { whole = uncut_same }

  -- a list has a register of each name that is written so
  named_in : (registers : List LinearRegister) (name : Name) (text : List ℕ) → written_name name ≡ text → IsListed registers name → IsNamedIn registers text
  named_in registers name text written listed = record { place = listed.place; r = listed.r; there = listed.there; named = ap written_name listed.named ∙ written }

  pub registers_text : length elements ≤ 32 → net_registers.HasLinearRegisters width ticks elements cells → HasLinearRegisters elements width ticks d
  registers_text few has = record {
    each = λ i r at. linear_register r (has.each i r at);
    only = λ n group kind is_linear inside.
        let below = linear_below (groups elements) group is_linear in
        let short = few_groups elements in
        let found = register_of_group cells net.netlist small d same n group (omega (arith, below, short, few)) kind inside in
        named_in (linear width ticks elements) found.name (text_of d n) found.written
        (has.only found.place found.cell found.name found.next found.there found.named found.is_it (inr (found.no_control, ap (is_linear_number (groups elements)) found.of_group ∙ is_linear)));
  }

  pub never_cut_text : net_registers.HasLinearRegisters width ticks elements cells → AreNeverCut elements width ticks d
  never_cut_text has = record { each = λ i r at. never_cut r (has.each i r at) }
