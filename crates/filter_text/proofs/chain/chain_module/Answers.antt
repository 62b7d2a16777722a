use Rattle.std.proofs.Common.{◌≡◌, ℕ, List, length, slice_get, subst, sym, ◌∙◌, ap, arith}
use Rattle.std.proofs.lemmas.Option.{slice_get_within}
use Rattle.mr_values.specs.Value.{size}
use Rattle.mr_values.specs.Width.{IsLeastWidth}
use Rattle.mr_values.specs.Timing.{groups, last_stream}
use Rattle.net_graph.specs.declared.cell.Cell.{Cell}
use Rattle.net_graph.proofs.CellLemmas.{cell_at-is}
use Rattle.verilog_tree.specs.Tree.{Design}
use Rattle.verilog_text.specs.Grammar.{limits}
use Rattle.verilog_text.specs.Shortest.{IsWritable}
use Rattle.verilog_text.specs.Order.{IsInOrder, IsSameButPlaces}
use Rattle.net_module.specs.Written.{written_module}
use Rattle.net_text.proofs.Writable.{has_text, in_order}
use Rattle.uncut_runs.proofs.Exists.{passing_uncut}
use Rattle.chain_build.specs.Linear.{output_range}
use Rattle.chain_build.specs.declared.extremes.RegisterExtreme.{RegisterExtreme}
use Rattle.filter_text.specs.Extremes.{told_at, TellsByNumber}
use Rattle.filter_text.specs.Headline.{ShowsChain, ShowsOutputs, KeepsOutput, KeepsWhole, IsLeastOutput}
use Rattle.filter_text.specs.Written.{TellCosts}
use Rattle.filter_text.proofs.ChainLimits.{narrow_plan, wide_plan, some_ticks}
use Rattle.filter_text.proofs.ChainPlaces.{chain_writable, output_wide}
use Rattle.filter_text.proofs.ChainShows.{chain_shows, chain_outputs}
use Rattle.filter_text.proofs.UncutOutput.{keeps_output, keeps_whole}
use Rattle.filter_text.proofs.LeastOutput.{least_output}
use Rattle.plan_laws.proofs.Passes.{passes_of}
use Rattle.filter_text.proofs.CountedText.{chain_counted, chain_costs}
use Rattle.filter_text.proofs.RegistersText.{registers_text, never_cut_text}
use Rattle.filter_text.proofs.CascadesText.{cascades_text}
use Rattle.filter_text.proofs.LeastText.{least_text}
use Rattle.filter_text.proofs.ShapesText.{chain_shaped}
use Rattle.filter_text.proofs.NamesText.{chain_blocks, chain_ports, chain_names, chain_control, chain_outputs_plain, chain_reset}
use Rattle.filter_text.proofs.TellExtremes.{tells_extremes}
use Rattle.filter_text.proofs.TellNumbers.{has_extremes, told_within, tells_each}
use Rattle.filter_text.proofs.ReadModules.{passing, running, output_width}
use Rattle.filter_text.proofs.chain.chain_module.Goals as goal
use Rattle.verilog_tree.specs.View.{design_view}

pub module_of-requires-clause-writable : goal.module_of-requires-clause-writable
module_of-requires-clause-writable c = chain_writable c.in_ok-built.ensures.chain (narrow_plan c.args.plan.now c.requires.accepted)

pub by_number-requires : goal.by_number-requires
by_number-requires c = λ j t at.
    let built = c.in_ok-built.ensures in
    let cells = c.in_ok-built.built.net in
    let told = c.in_ok-built.built.extremes.items in
    let less = told_within built.chain c.nets_are_small.ensures built.registers told built.extremes j t (ap (λ (xs : List RegisterExtreme). slice_get xs j) (sym c.deref.ensures.value) ∙ at) in
    let names : length c.in_ok-tree.tree.names.items ≡ length (written_module cells).names = ap (λ (d : Design). length d.names) c.in_ok-tree.ensures in
    omega (arith, less, names, c.len.ensures, c.in_ok-tree.tree.names.ok)

pub new-requires : goal.new-requires
new-requires c =
    let net = c.in_ok-built.ensures.chain in
    subst (λ (d : Design). IsWritable limits d) (sym c.in_ok-tree.ensures) (has_text c.in_ok-built.built.net net.netlist (chain_writable net (narrow_plan c.args.plan.now c.requires.accepted)) c.nets_are_small.ensures)

pub width-requires : goal.width-requires
width-requires c =
    let register = c.in_ok-built.ensures.chain.register in slice_get_within c.in_ok-built.built.net c.in_ok-built.built.out_q.place register.cell register.there

pub returns : goal.returns
returns c =
    let W = size c.args.plan.now.width in
    let T = size c.args.plan.now.ticks in
    let es = c.args.plan.now.elements in
    let cells = c.in_ok-built.built.net in
    let net = c.in_ok-built.ensures.chain in
    let wide = wide_plan c.args.plan.now c.requires.accepted in
    let narrow = narrow_plan c.args.plan.now c.requires.accepted in
    let some = some_ticks c.args.plan.now c.requires.accepted in
    let can = chain_writable net narrow in
    let few = (passes_of c.args.plan.now c.requires.accepted).limits.few in
    let within = (passes_of c.args.plan.now c.requires.accepted).limits.elements in
    let small = c.nets_are_small.ensures in
    let has = c.in_ok-built.ensures.costs in
    let linear = c.in_ok-built.ensures.registers in
    let told = c.in_ok-built.ensures.extremes in
    let is = ap design_view c.new.ensures ∙ c.in_ok-tree.ensures in
    record {
      is_module = λ d same.
          let as_written = subst (λ (e : Design). IsSameButPlaces d e) is same in
          let registers = registers_text wide narrow some net small d as_written few linear in
          record {
            passes = passing cells net.netlist can d as_written;
            runs = running cells net.netlist can d as_written;
            one_uncut = passing_uncut d (passing cells net.netlist can d as_written);
            output = subst (IsLeastWidth (output_range W T es).lo (output_range W T es).hi) (sym (output_width cells d as_written ∙ output_wide net)) net.least;
            shows = subst (λ (p : ℕ). ShowsChain es W T c.args.facts.now.latency p d) (sym c.requires.are_facts.period_is)
                (subst (λ (l : ℕ). ShowsChain es W T l (last_stream W T es).period d) (sym c.requires.are_facts.latency_is)
                (chain_shows narrow some net.positive net d as_written));
            outputs = subst (λ (p : ℕ). ShowsOutputs es W T c.args.facts.now.latency p d) (sym c.requires.are_facts.period_is)
                (subst (λ (l : ℕ). ShowsOutputs es W T l (last_stream W T es).period d) (sym c.requires.are_facts.latency_is) (chain_outputs narrow some net.positive net d as_written));
            keeps = subst (λ (p : ℕ). KeepsOutput es W T c.args.facts.now.latency p d) (sym c.requires.are_facts.period_is)
                (subst (λ (l : ℕ). KeepsOutput es W T l (last_stream W T es).period d) (sym c.requires.are_facts.latency_is) (keeps_output wide narrow some net d as_written));
            least_output = λ plain. subst (IsLeastOutput es W) (sym (output_width cells d as_written ∙ output_wide net)) (least_output es W T net.out_width within net.least plain);
            uncut = λ plain.
                subst (λ (p : ℕ). KeepsWhole es W T c.args.facts.now.latency p d) (sym c.requires.are_facts.period_is)
                (subst (λ (l : ℕ). KeepsWhole es W T l (last_stream W T es).period d) (sym c.requires.are_facts.latency_is) (keeps_whole wide narrow some net d as_written plain));
            registers = registers;
            never_cut = never_cut_text wide narrow some net small d as_written linear;
            least = least_text some d registers (has_extremes told);
            cascades = cascades_text wide narrow some net small d as_written few c.in_ok-built.ensures.cascades;
            costs = chain_counted es c.in_ok-built.built.costs.items cells few net.netlist small has d as_written;
            shapes = chain_shaped es cells few net.netlist small has.tables.own c.in_ok-built.ensures.shapes d as_written;
            blocks = chain_blocks net can d as_written;
            reset = chain_reset net can d as_written;
            ports = chain_ports net can d as_written;
            names = chain_names net can d as_written c.in_ok-built.ensures.groups;
            control = chain_control net can d as_written;
            plain_outputs = chain_outputs_plain net can d as_written;
          };
      in_order = subst (λ (d : Design). IsInOrder d) (sym is) (in_order cells net.netlist can);
      output = λ d same.
          let as_written = subst (λ (e : Design). IsSameButPlaces d e) is same in
          c.width.ensures.width ∙ ap (λ (x : Cell). x.width) (cell_at-is cells c.in_ok-built.built.out_q.place net.register.cell net.register.there) ∙ net.register.wide ∙ sym (output_width cells d as_written ∙ output_wide net);
      costs = subst (λ (d : Design). TellCosts 1 (groups es) c.in_ok-built.built.costs.items d) (sym is) (chain_costs es c.in_ok-built.built.costs.items cells few net.netlist small has);
      extremes = λ d same.
          let as_written = subst (λ (e : Design). IsSameButPlaces d e) is same in
          let registers = registers_text wide narrow some net small d as_written few linear in
          let extremes = c.in_ok-extremes.extremes.items in
          tells_extremes some net.netlist small linear d as_written registers (told_at extremes) (tells_each net small linear c.in_ok-built.built.extremes.items told d as_written extremes (subst (λ (told : List RegisterExtreme). TellsByNumber told extremes) c.deref.ensures.value c.in_ok-extremes.ensures));
    }
