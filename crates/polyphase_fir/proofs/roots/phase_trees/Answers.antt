use Rattle.std.proofs.Common.{◌≡◌, ◌<◌, ◌+◌, ◌∙◌, ap, sym, refl, arith, subst, ℕ, suc, List, length, length-append, ◌∷◌, []}
use Rattle.net_graph.specs.declared.cell.Node.{Node}
use Rattle.net_graph.proofs.NetLemmas.{Extends-refl, Extends-trans}
use Rattle.signed_digit.specs.declared.term_list.Term.{Term}
use Rattle.fir_pieces.specs.declared.held.Held.{Held}
use Rattle.fir_pieces.specs.declared.reading.Reading.{Reading}
use Rattle.fir_pieces.specs.Held.{AreHeld}
use Rattle.fir_pieces.specs.Reading.{ages}
use Rattle.fir_pieces.specs.Sums.{AddsTree, IsReady}
use Rattle.fir_pieces.proofs.AgeLemmas.{ages_within, window_shown}
use Rattle.fir_pieces.proofs.ReadersLemmas.{IsWideWindow-later, IsCutWindow-later}
use Rattle.fir_pieces.proofs.WidthsLemmas.{AreHeld-none, AreHeld-append}
use Rattle.polyphase_fir.specs.Facts.{depth_of, levels_of, phase_sums}
use Rattle.polyphase_fir.specs.Placed.{placed_terms}
use Rattle.polyphase_fir.specs.Roots.{AddsRegisters, AddsRoots}
use Rattle.polyphase_fir.proofs.PhaseBounds.{phase_ready, placed_places}
use Rattle.polyphase_fir.proofs.RegisterLemmas.{AddsRegisters-none, AddsRegisters-push}
use Rattle.polyphase_fir.proofs.RootLemmas.{AddsRoots-none, AddsRoots-push, SumsWindow-none, SumsWindow-push}
use Rattle.polyphase_fir.proofs.roots.phase_trees.Goals as goal

pub loop-phase-init : goal.loop-phase-init
loop-phase-init g c = record {
  many = rw c.new.ensures.items refl;
  group = refl;
  extends = Extends-refl _;
  trees = λ from positive w. rw c.new.ensures.items (AddsRoots-none _ _ _ _ _ _);
  registers = λ from positive w. rw c.new-2.ensures.items (AddsRegisters-none _ _ _ _ _);
  held = rw c.new-3.ensures.items (AreHeld-none _);
  shallow = SumsWindow-none c.args.net.now c.args.window.now.nodes.items;
}

pub sum_tree-requires-clause-data_group : goal.sum_tree-requires-clause-data_group
sum_tree-requires-clause-data_group g c = rw c.loop-phase.invariant.group c.requires.data_group

pub sum_tree-requires-clause-ready : goal.sum_tree-requires-clause-ready
sum_tree-requires-clause-ready g c =
    let p = c.args.filter.now in
    let streams = g.R.Ranges.streams c.args.ranges.now in
    let taps = p.taps.items in
    let up = p.rates.up in
    let phase = c.loop-phase.phase in
    let cells = c.loop-phase.net.cells in
    let window = c.args.window.now.nodes.items in
    let wide = IsWideWindow-later streams c.loop-phase.invariant.extends c.requires.wide in
    let terms_are = c.as_slice-in-loop-phase.ensures.value ∙ c.in_ok-terms.ensures ∙ ap (placed_terms up phase) c.as_slice.ensures.value in
    let long : depth_of taps up ≡ length window = sym p.is_depth ∙ sym c.requires.deep in
    let ready = phase_ready streams up phase taps c.loop-phase-test.true p.limits p.few c.requires.room cells window wide long in
    subst (λ (n : ℕ). IsReady streams cells window c.args.window.now.readings.items c.as_slice-in-loop-phase.result.now n) (sym p.is_levels)
    (subst (λ (rs : List Reading). IsReady streams cells window rs c.as_slice-in-loop-phase.result.now (levels_of taps up)) (sym (c.requires.values ∙ ap ages p.is_depth))
    (subst (λ (ts : List Term). IsReady streams cells window (ages (depth_of taps up)) ts (levels_of taps up)) (sym terms_are) ready))

pub returns-in_err-tree-clause-extends : goal.returns-in_err-tree-clause-extends
returns-in_err-tree-clause-extends g c = Extends-trans _ _ _ c.loop-phase.invariant.extends c.in_err-tree.ensures.extends

pub returns-in_err-push_tree-clause-extends : goal.returns-in_err-push_tree-clause-extends
returns-in_err-push_tree-clause-extends g c = Extends-trans _ _ _ c.loop-phase.invariant.extends c.in_ok-tree.ensures.extends

-- one phase more
pub loop-phase-preserved : goal.loop-phase-preserved
loop-phase-preserved g c =
    let i = c.loop-phase.invariant in
    let p = c.args.filter.now in
    let taps = p.taps.items in
    let up = p.rates.up in
    let depth = depth_of taps up in
    let phase = c.loop-phase.phase in
    let window = c.args.window.now.nodes.items in
    let streams = g.R.Ranges.streams c.args.ranges.now in
    let causal = g.met.R.Ranges.causal c.args.ranges.now in
    let items = c.in_ok-push_tree.ensures.roots in
    let many = i.many in
    let own = c.in_ok-tree.tree in
    let terms_are = c.as_slice-in-loop-phase.ensures.value ∙ c.in_ok-terms.ensures ∙ ap (placed_terms up phase) c.as_slice.ensures.value in
    let long : depth ≡ length window = sym p.is_depth ∙ sym c.requires.deep in
    let of_terms = subst (λ (ts : List Term). AddsTree streams c.loop-phase.net c.sum_tree.new.net window c.args.window.now.readings.items c.args.window.now.ticks ts p.levels own.held.items own.registers.items own.root) terms_are c.in_ok-tree.ensures.ok in
    let of_ages = subst (λ (rs : List Reading). AddsTree streams c.loop-phase.net c.sum_tree.new.net window rs c.args.window.now.ticks (placed_terms up phase taps) p.levels own.held.items own.registers.items own.root) (c.requires.values ∙ ap ages p.is_depth) of_terms in
    let here = subst (λ (n : ℕ). AddsTree streams c.loop-phase.net c.sum_tree.new.net window (ages depth) n (placed_terms up phase taps) p.levels own.held.items own.registers.items own.root) c.requires.prompt of_ages in
    let tree = subst (λ (r : ℕ). AddsTree streams c.loop-phase.net c.sum_tree.new.net window (ages depth) 0 (placed_terms up r taps) p.levels own.held.items own.registers.items own.root) (sym many) here in
    let inside : length c.loop-phase.trees.roots.items < up = let test = c.loop-phase-test.true in omega arith in
    let next : suc phase ≡ phase + 1 = omega arith in
    record {
      many = omega (arith, ap length items, length-append c.loop-phase.trees.roots.items (own.root ∷ []), many);
      group = c.in_ok-tree.ensures.group ∙ i.group;
      extends = Extends-trans _ _ _ i.extends c.in_ok-tree.ensures.extends;
      trees = λ from positive w.
          subst (λ (roots : List Node). AddsRoots streams c.args.net.now c.sum_tree.new.net from p.levels taps up roots) (sym items)
          (AddsRoots-push streams causal taps up inside positive (IsCutWindow-later streams i.extends w) long (i.trees from positive w) tree);
      registers = λ from positive w.
          subst (λ (n : ℕ). AddsRegisters streams c.args.net.now c.sum_tree.new.net from depth p.levels (phase_sums up taps p.levels n) c.push_tree.new.trees.registers.items) next
          (subst (λ (nodes : List Node). AddsRegisters streams c.args.net.now c.sum_tree.new.net from depth p.levels (phase_sums up taps p.levels (suc phase)) nodes) (sym c.in_ok-push_tree.ensures.registers)
          (AddsRegisters-push streams causal positive (window_shown streams causal positive depth long (IsCutWindow-later streams i.extends w)) (placed_places up phase taps p.up_low) (ages_within depth) i.group (i.registers from positive w) here));
      held =
          subst (λ (n : ℕ). AreHeld streams (phase_sums up taps p.levels n) c.push_tree.new.trees.held.items) next
          (subst (λ (held : List Held). AreHeld streams (phase_sums up taps p.levels (suc phase)) held) (sym c.in_ok-push_tree.ensures.held) (AreHeld-append i.held here.sums));
      shallow = SumsWindow-push streams taps up (length c.loop-phase.trees.roots.items) inside long i.group i.extends i.shallow tree;
    }

pub returns-clause-registers : goal.returns-clause-registers
returns-clause-registers g c from positive w =
    let p = c.args.filter.now in
    let streams = g.R.Ranges.streams c.args.ranges.now in
    let low = c.loop-phase-test.false in
    let high = c.loop-phase.auto.phase-end in
    let same : c.loop-phase.phase ≡ p.rates.up = omega (arith, low, high) in
    subst (λ (n : ℕ). AddsRegisters streams c.args.net.now c.loop-phase.net from n p.levels (phase_sums p.rates.up p.taps.items p.levels p.rates.up) c.loop-phase.trees.registers.items) (sym p.is_depth)
    (subst (λ (n : ℕ). AddsRegisters streams c.args.net.now c.loop-phase.net from (depth_of p.taps.items p.rates.up) p.levels (phase_sums p.rates.up p.taps.items p.levels n) c.loop-phase.trees.registers.items) same
    (c.loop-phase.invariant.registers from positive w))

pub returns-clause-held : goal.returns-clause-held
returns-clause-held g c =
    let p = c.args.filter.now in
    let low = c.loop-phase-test.false in
    let high = c.loop-phase.auto.phase-end in
    let same : c.loop-phase.phase ≡ p.rates.up = omega (arith, low, high) in
    subst (λ (n : ℕ). AreHeld (g.R.Ranges.streams c.args.ranges.now) (phase_sums p.rates.up p.taps.items p.levels n) c.loop-phase.trees.held.items) same c.loop-phase.invariant.held
