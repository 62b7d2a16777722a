use Rattle.std.proofs.Common.{◌≡◌, ◌++◌, ◌∙◌, ℕ, ap, sym, refl, subst, List, length, slice_get, Some}
use Rattle.std.proofs.lemmas.List.{length-map}
use Rattle.net_graph.specs.declared.cell.Node.{Node}
use Rattle.net_graph.proofs.NetLemmas.{Extends-trans}
use Rattle.stage_law.specs.declared.stage.Peak.{Peak}
use Rattle.fir_pieces.specs.Held.{AreHeld, held_sum}
use Rattle.fir_pieces.specs.Listed.{window_sums}
use Rattle.fir_pieces.specs.Peaks.{peaks_at}
use Rattle.fir_pieces.proofs.ListLemmas.{length-window_sums}
use Rattle.polyphase_fir.specs.Facts.{depth_of, phase_sums}
use Rattle.polyphase_fir.specs.Roots.{AddsRegisters, IsShown}
use Rattle.polyphase_fir.proofs.RealisesLemmas.{Realises-phases}
use Rattle.polyphase_fir.proofs.stage.PolyphaseStage.emit.Goals as goal

pub returns-in_err-roots-clause-extends : goal.returns-in_err-roots-clause-extends
returns-in_err-roots-clause-extends g c = Extends-trans _ _ _ c.in_ok-nodes.ensures.extends c.in_err-roots.ensures.extends

pub shown-requires-clause-within : goal.shown-requires-clause-within
shown-requires-clause-within g c r root is =
    let trees = c.in_ok-roots.ensures.ok c.args.from c.requires.takes.some c.in_ok-nodes.ensures.ok.window in
    (trees.each r root (subst (λ (nodes : List Node). slice_get nodes r ≡ Some root) c.as_slice.ensures.value is)).within

pub returns-in_err-stream-clause-extends : goal.returns-in_err-stream-clause-extends
returns-in_err-stream-clause-extends g c = Extends-trans _ _ _ c.in_ok-nodes.ensures.extends (Extends-trans _ _ _ c.in_ok-roots.ensures.extends c.in_err-stream.ensures.extends)

pub returns-clause-extends : goal.returns-clause-extends
returns-clause-extends g c = Extends-trans _ _ _ c.in_ok-nodes.ensures.extends (Extends-trans _ _ _ c.in_ok-roots.ensures.extends c.in_ok-stream.ensures.extends)

pub push_peaks-requires : goal.push_peaks-requires
push_peaks-requires g c =
    sym (length-map c.in_ok-values.values.items held_sum) ∙ ap length c.in_ok-values.ensures.same ∙ length-window_sums c.args.self.now.depth ∙ sym c.in_ok-nodes.ensures.many ∙ sym (ap length c.as_slice-2.ensures.value)

pub push_peaks-requires-2 : goal.push_peaks-requires-2
push_peaks-requires-2 g c =
    let registers = c.in_ok-roots.ensures.registers c.args.from c.requires.takes.some c.in_ok-nodes.ensures.ok.window in
    sym (length-map c.in_ok-roots.field-0.held.items held_sum) ∙ ap length c.in_ok-roots.ensures.held.same ∙ sym registers.many ∙ sym (ap length c.as_slice-3.ensures.value)

pub returns-clause-realises : goal.returns-clause-realises
returns-clause-realises g c =
    let p = c.args.self.now in
    let taps = p.taps.items in
    let up = p.rates.up in
    let streams = g.R.Ranges.streams c.args.ranges.now in
    let window = c.in_ok-nodes.nodes.items in
    let w = c.in_ok-nodes.ensures.ok in
    let own = c.in_ok-roots.field-0 in
    let trees = c.in_ok-roots.ensures.ok c.args.from c.requires.takes.some w.window in
    let shown = subst (λ (nodes : List Node). IsShown c.phase_trees.new.net c.shown.new.net nodes up p.rates.down c.args.from p.levels c.in_ok-stream.stream) c.as_slice.ensures.value c.in_ok-stream.ensures.ok in
    let long : depth_of taps up ≡ length window = sym p.is_depth ∙ sym c.in_ok-nodes.ensures.many in
    let values = subst (λ (n : ℕ). AreHeld streams (window_sums n) c.in_ok-values.values.items) p.is_depth c.in_ok-values.ensures in
    let registers =
    subst (λ (n : ℕ). AddsRegisters streams c.cut_window.new.net c.phase_trees.new.net c.args.from n p.levels (phase_sums up taps p.levels up) own.registers.items) p.is_depth
    (c.in_ok-roots.ensures.registers c.args.from c.requires.takes.some w.window) in
    let peaks = c.in_ok-push_peaks-2.ensures ∙ ap (λ (ps : List Peak). ps ++ peaks_at own.held.items c.as_slice-3.result.now) (c.in_ok-push_peaks.ensures ∙ ap (λ (ps : List Peak). ps ++ peaks_at c.in_ok-values.values.items c.as_slice-2.result.now) c.new-peaks.ensures.items)
    ∙ ap (λ (nodes : List Node). peaks_at c.in_ok-values.values.items nodes ++ peaks_at own.held.items c.as_slice-3.result.now) c.as_slice-2.ensures.value
    ∙ ap (λ (nodes : List Node). peaks_at c.in_ok-values.values.items window ++ peaks_at own.held.items nodes) c.as_slice-3.ensures.value in
    Realises-phases streams taps up p.rates.down p.up_low (g.met.R.Ranges.causal c.args.ranges.now) c.requires.takes.some c.requires.group c.requires.unused w long trees c.in_ok-roots.ensures.many registers c.in_ok-roots.ensures.shallow shown p.is_levels values c.in_ok-roots.ensures.held _ refl peaks

pub returns-in_err-push_peaks-clause-extends : goal.returns-in_err-push_peaks-clause-extends
returns-in_err-push_peaks-clause-extends g c = Extends-trans _ _ _ c.in_ok-nodes.ensures.extends (Extends-trans _ _ _ c.in_ok-roots.ensures.extends c.in_ok-stream.ensures.extends)

pub returns-in_err-push_peaks-2-clause-extends : goal.returns-in_err-push_peaks-2-clause-extends
returns-in_err-push_peaks-2-clause-extends g c = Extends-trans _ _ _ c.in_ok-nodes.ensures.extends (Extends-trans _ _ _ c.in_ok-roots.ensures.extends c.in_ok-stream.ensures.extends)
