-- The output register of a plan's module has the chain's values at their ticks, and is never cut where no group rounds.
use Rattle.std.proofs.Common.{◌≡◌, ℕ, ◌+◌, ◌*◌, ◌≤◌, List, length, take, Some, slice_get, ◌∙◌, ap, ℤ, pos, true}
use Rattle.std.specs.Prelude.{codes}
use Rattle.mr_values.specs.declared.plan.Element.{Element}
use Rattle.mr_values.specs.Timing.{groups, last_stream, latency}
use Rattle.mr_values.specs.Value.{val}
use Rattle.net_graph.specs.declared.cell.Cell.{Cell}
use Rattle.net_graph.specs.declared.cell.Node.{Node}
use Rattle.net_graph.specs.Cut.{Cut, cut_all, cut_control}
use Rattle.net_graph.specs.Run.{IsRun, Values as Worth}
use Rattle.net_graph.proofs.CutLemmas.{IsCut-all, IsCut-control}
use Rattle.net_graph.proofs.RunLemmas.{some_run}
use Rattle.verilog_tree.specs.Meaning.{Values}
use Rattle.verilog_tree.specs.Names as texts
use Rattle.verilog_tree.specs.Shown.{Cycle, EachFits}
use Rattle.verilog_tree.specs.Tree.{Design}
use Rattle.verilog_tree.specs.Uncut.{number_at}
use Rattle.verilog_text.specs.Order.{IsSameButPlaces}
use Rattle.net_module.specs.Written.{has_kind, is_output_kind, is_register, written_module, number_of}
use Rattle.net_module.specs.Steps.{ticks_in, samples_of}
use Rattle.chain_build.specs.Built.{ArePlainGroups}
use Rattle.chain_build.specs.ChainNet.{IsChainNet, ShowsValues}
use Rattle.filter_text.specs.Headline.{output_register, KeepsOutput, KeepsWhole}
use Rattle.filter_text.specs.Runs.{samples_in, IsRunFrom}
use Rattle.filter_text.proofs.ChainPlaces.{output_is}
use Rattle.filter_text.proofs.ChainShows.{has_samples, samples_fit}
use Rattle.filter_text.proofs.OutputNumber.{output_number}
use Rattle.filter_text.proofs.RegisterNumbers.{register_bits, register_whole}

module _ {width ticks : ℕ} {elements : List Element} {cells : List Cell} {out_q out_valid : Node} (wide : 1 ≤ width) (narrow : width ≤ 127) (some : 1 ≤ ticks) (net : IsChainNet width ticks elements cells out_q out_valid) where
  abbrev value : List Cycle → ℕ → ℤ
  value after n = val elements (samples_in width ticks after) (pos n)

  output_there : texts.number_of (written_module cells) (codes "out_q") ≡ number_of cells out_q.place
  output_there = output_number cells out_q.place net.register.cell net.netlist.well_formed net.register.there (ap (has_kind is_output_kind) net.register.named) ∙ ap (number_of cells) (output_is net)

  registered : is_register net.register.cell.item ≡ true
  registered = ap is_register net.register.registered.1

  -- in a run that shows the chain's values, so does the output at its ticks
  worth_is : (cut : Cut) → ShowsValues cut width ticks elements cells out_q → (after : List Cycle) → EachFits width after → (worth : Worth) → IsRun cut cells (samples_of width after) worth
      → (n t : ℕ) → t ≡ latency width ticks elements + n * (last_stream width ticks elements).period → worth t out_q.place ≡ value after n
  worth_is cut shown after fit worth run n t is =
      ap (λ (s : ℕ). worth s out_q.place) is
      ∙ shown (samples_of width after) worth (samples_in width ticks after) (samples_fit width ticks some wide after fit) (has_samples width ticks some after) run n

  module _ (d : Design) (same : IsSameButPlaces d (written_module cells)) where
    bits_hold : (content : Values) (before after : List Cycle) (reset : Cycle) (settled : List Values) → IsRunFrom d width content before after reset settled
        → (n j : ℕ) (now : Values) → slice_get settled (length before + 1 + j) ≡ Some now → ticks_in (take j after) ≡ latency width ticks elements + n * (last_stream width ticks elements).period
        → number_at d now (output_register d) ≡ value after n
    bits_hold content before after reset settled runs n j now at is =
        let run = some_run cut_all IsCut-all cells (samples_of width after) net.netlist in
        register_bits wide narrow some net out_q.place net.register.cell net.register.there registered (codes "out_q") output_there d same content before after reset settled runs run.0 run.1 j now at
        ∙ worth_is cut_all net.values after runs.fit run.0 run.1 n (ticks_in (take j after)) is

    pub keeps_output : KeepsOutput elements width ticks (latency width ticks elements) (last_stream width ticks elements).period d
    keeps_output = record { bits = bits_hold }

    pub keeps_whole : ArePlainGroups (groups elements) → KeepsWhole elements width ticks (latency width ticks elements) (last_stream width ticks elements).period d
    keeps_whole plain = record {
      whole = λ content before after reset settled runs begins uncut numbers n j now at is.
          let run = some_run cut_control IsCut-control cells (samples_of width after) net.netlist in
          register_whole wide narrow some net out_q.place net.register.cell net.register.there registered (codes "out_q") output_there d same content before after reset settled runs begins uncut numbers run.0 run.1 j now at
          ∙ worth_is cut_control (net.whole plain) after runs.fit run.0 run.1 n (ticks_in (take j after)) is;
    }
