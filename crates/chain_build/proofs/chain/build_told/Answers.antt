use Rattle.std.proofs.Common.{◌∙◌, ◌≤◌, ap, length, map, refl, subst, sym, List, ℕ}
use Rattle.mr_values.specs.Timing.{groups, last_stream}
use Rattle.mr_values.specs.Value.{size}
use Rattle.net_graph.specs.declared.cell.Cell.{Cell}
use Rattle.net_graph.specs.declared.cell.Item.TheVariants.{Input}
use Rattle.net_graph.specs.Cells.{NetView}
use Rattle.net_graph.specs.Grow.{Adds}
use Rattle.net_graph.specs.WellFormed.{IsNetlist}
use Rattle.net_graph.proofs.BoundLemmas.{IsBound-finishes}
use Rattle.chain_build.specs.Added.{IsChained}
use Rattle.chain_build.specs.Alike.{HasCascades}
use Rattle.chain_build.proofs.AlikeSoFar.{cascades_outputs}
use Rattle.chain_build.specs.ChainNet.{IsChainNet}
use Rattle.chain_build.specs.GroupCosts.{HasCosts}
use Rattle.net_graph.specs.Cut.{cut_all}
use Rattle.net_graph.proofs.CutLemmas.{IsCut-all}
use Rattle.chain_build.specs.LinearNet.{HasLinearRegisters}
use Rattle.chain_build.specs.LinearOn.{HasGroupRegisters}
use Rattle.chain_build.specs.Groups.{AreGrouped}
use Rattle.chain_build.specs.Shapes.{HaveLinearItems}
use Rattle.chain_build.proofs.ChainLemmas.{empty, built-groups, bound3, chain_net, chain_costs, chain_shapes, over, carried_from, shows}
use Rattle.chain_build.proofs.GroupsSoFar.{outputs_grouped}
use Rattle.chain_build.proofs.LinearBuilt.{has_linear}
use Rattle.chain_build.proofs.OutputLemmas.{can_show}
use Rattle.plan_laws.proofs.Passes.{passes_of}
use Rattle.chain_build.proofs.ExactPrefixes.{unrounded-linear}
use Rattle.chain_build.proofs.OutputRange.{room-chain}
use Rattle.chain_build.proofs.SoFar.{some_width}
use Rattle.chain_build.proofs.SoonRead.{reads-value}
use Rattle.chain_build.specs.Linear.{linear as linear_list}
use Rattle.chain_build.specs.Peaks.{ArePeaksOf, as_extreme}
use Rattle.chain_build.proofs.BuiltPeaks.{all_peaks}
use Rattle.chain_build.proofs.chain.build_told.Goals as goal

pub add_groups-requires-clause-built : goal.add_groups-requires-clause-built
add_groups-requires-clause-built c = built-groups c.args.plan.now.elements c.requires.built

pub add_chain_outputs-requires-clause-can : goal.add_chain_outputs-requires-clause-can
add_chain_outputs-requires-clause-can c = can_show c.in_ok-chained.ensures.ok

pub add_chain_outputs-requires-clause-room : goal.add_chain_outputs-requires-clause-room
add_chain_outputs-requires-clause-room c =
    let es = c.args.plan.now.elements in
    let last = last_stream (size c.args.plan.now.width) (size c.args.plan.now.ticks) es in
    let chained = c.in_ok-chained.ensures.ok in
    room-chain (size c.args.plan.now.width) (size c.args.plan.now.ticks) es last.low last.high chained.low_small chained.high_small chained.span

pub unreachable-requires : goal.unreachable-requires
unreachable-requires c =
    let W = size c.args.plan.now.width in
    let T = size c.args.plan.now.ticks in
    let es = c.args.plan.now.elements in
    let wide : 1 ≤ W = some_width c.args.plan.now c.requires.accepted in
    let first : Adds empty c.input.new.self c.in_ok-node.node W Input = subst (λ (w : ℕ). Adds empty c.input.new.self c.in_ok-node.node w Input) c.width_of.ensures (subst (λ (n : NetView). Adds n c.input.new.self c.in_ok-node.node c.width_of.result Input) c.new-net.ensures c.in_ok-node.ensures.ok) in
    let chained = subst (λ (p : ℕ). IsChained W T es c.input.new.self c.add_groups.new.net (record { node = c.in_ok-node.node; period = p; offset = 0 }) c.in_ok-chained.chained.stream) c.ticks_of.ensures c.in_ok-chained.ensures.ok in
    let outs = c.in_ok-outputs.ensures.ok in
    IsBound-finishes _ c.in-Err.field-0 (bound3 W T es wide first chained (unrounded-linear es (passes_of c.args.plan.now c.requires.accepted).limits.elements) outs) c.in-Err.ensures.err

pub returns : goal.returns
returns c =
    let W = size c.args.plan.now.width in
    let T = size c.args.plan.now.ticks in
    let es = c.args.plan.now.elements in
    let wide : 1 ≤ W = some_width c.args.plan.now c.requires.accepted in
    let first : Adds empty c.input.new.self c.in_ok-node.node W Input = subst (λ (w : ℕ). Adds empty c.input.new.self c.in_ok-node.node w Input) c.width_of.ensures (subst (λ (n : NetView). Adds n c.input.new.self c.in_ok-node.node c.width_of.result Input) c.new-net.ensures c.in_ok-node.ensures.ok) in
    let chained = subst (λ (p : ℕ). IsChained W T es c.input.new.self c.add_groups.new.net (record { node = c.in_ok-node.node; period = p; offset = 0 }) c.in_ok-chained.chained.stream) c.ticks_of.ensures c.in_ok-chained.ensures.ok in
    let outs = c.in_ok-outputs.ensures.ok in
    let linear = unrounded-linear es (passes_of c.args.plan.now c.requires.accepted).limits.elements in
    let formed = (subst (λ (cells : List Cell). IsNetlist cells) c.in-Ok.ensures.ok c.in-Ok.ensures.netlist).well_formed in
    record {
      chain = subst (λ (cells : List Cell). IsChainNet W T es cells c.in_ok-outputs.outputs.out_q c.in_ok-outputs.outputs.out_valid) (sym c.in-Ok.ensures.ok) (chain_net W T es wide first chained linear outs formed);
      costs = subst (λ (cells : List Cell). HasCosts (groups es) c.in_ok-chained.chained.costs.items cells) (sym c.in-Ok.ensures.ok) (chain_costs W T es wide first chained linear outs c.in_ok-chained.ensures.costs);
      cascades = subst (λ (cells : List Cell). HasCascades W T es cells) (sym c.in-Ok.ensures.ok) (cascades_outputs W T es outs c.in_ok-chained.ensures.cascades);
      shapes = subst (λ (cells : List Cell). HaveLinearItems 1 (groups es) cells) (sym c.in-Ok.ensures.ok) (chain_shapes W T es wide first chained linear outs c.in_ok-chained.ensures.shapes);
      groups = subst (λ (cells : List Cell). AreGrouped (length (groups es)) cells) (sym c.in-Ok.ensures.ok) (outputs_grouped c.in_ok-chained.ensures.groups outs formed);
      extremes = c.in_ok-extremes.ensures ∙ ap (map as_extreme) c.deref.ensures.value;
      peaks = subst (λ (cells : List Cell). ArePeaksOf W T es cells (linear_list W T es) c.add_chain_outputs.new.peaks.items) (sym c.in-Ok.ensures.ok)
          (all_peaks W T es c.add_groups.new.net.cells _ c.in_ok-chained.chained.stream _ _ linear (λ none. reads-value c.args.plan.now es (groups es) c.requires.accepted none (linear none) refl refl) chained.period chained.offset chained.balance chained.long chained.early outs.grown.extends c.in_ok-chained.ensures.peaks c.in_ok-outputs.ensures.peaks);
      registers = subst (λ (cells : List Cell). HasLinearRegisters W T es cells) (sym c.in-Ok.ensures.ok)
          (has_linear W T es wide first chained outs (over W T es wide first chained linear outs) (carried_from W T es wide first chained linear outs) (shows W T es wide first chained linear outs cut_all IsCut-all chained.carries) formed
          (subst (λ (p : ℕ). HasGroupRegisters W T es c.add_groups.new.net.cells (record { node = c.in_ok-node.node; period = p; offset = 0 })) c.ticks_of.ensures c.in_ok-chained.ensures.registers));
    }
