use Rattle.std.proofs.Common.{◌≡◌, ◌∙◌, ◌++◌, ◌≤◌, ℕ, List, ap, sym, subst, arith, length, slice_get, Some}
use Rattle.std.proofs.lemmas.List.{length-map, append_assoc}
use Rattle.net_graph.specs.declared.cell.Node.{Node}
use Rattle.net_graph.proofs.NetLemmas.{Extends-trans}
use Rattle.stage_law.specs.declared.stage.Peak.{Peak}
use Rattle.fir_pieces.specs.Held.{AreHeld, held_sum}
use Rattle.fir_pieces.specs.Listed.{window_sums}
use Rattle.fir_pieces.specs.Peaks.{peaks_at}
use Rattle.fir_pieces.proofs.ListLemmas.{length-window_sums}
use Rattle.symmetric_fir.specs.Facts.{levels_of}
use Rattle.symmetric_fir.specs.Front.{AddsSums}
use Rattle.symmetric_fir.proofs.ReadyLemmas.{low_levels, pairs_many, later_many, given_stream}
use Rattle.symmetric_fir.proofs.RealisesLemmas.{Realises-mirror}
use Rattle.symmetric_fir.proofs.stage.MirrorStage.emit.Goals as goal

pub sums-requires : goal.sums-requires
sums-requires g c =
    let window = c.in_ok-window.ensures.ok in
    let depth_is : c.len-depth.result ≡ length c.args.self.now.taps.items = c.len-depth.ensures ∙ c.args.self.now.taps.ok.0 in
    (omega arith, (rw c.in_ok-window.ensures.group c.requires.group, (record { each = λ k node is. (window.wide.narrow k node (subst (λ (ns : List Node). slice_get ns k ≡ Some node) c.as_slice.ensures.value is)).0 }, (ap length c.as_slice.ensures.value ∙ c.in_ok-window.ensures.many ∙ depth_is, c.requires.room))))

pub returns-in_err-root-clause-extends : goal.returns-in_err-root-clause-extends
returns-in_err-root-clause-extends g c = Extends-trans _ _ _ c.in_ok-window.ensures.extends c.in_err-root.ensures.extends

pub overflow_add-stream-2 : goal.overflow_add-stream-2
overflow_add-stream-2 g c =
    let m = c.args.self.now in
    let low : levels_of m.taps.items ≤ 18 = low_levels m.taps.items m.few in
    let are : m.levels ≡ levels_of m.taps.items = m.is_levels in
    let value = c.from-2.ensures in
    let early = c.requires.early in
    omega arith

pub push_peaks-requires : goal.push_peaks-requires
push_peaks-requires g c =
    let depth = c.len-depth.result in
    let same : length c.in_ok-values.values.items ≡ depth = sym (length-map c.in_ok-values.values.items held_sum) ∙ ap length c.in_ok-values.ensures.same ∙ length-window_sums depth in
    same ∙ sym c.in_ok-window.ensures.many ∙ sym (ap length c.as_slice-2.ensures.value)

pub returns-in_err-push_peaks-clause-extends : goal.returns-in_err-push_peaks-clause-extends
returns-in_err-push_peaks-clause-extends g c = Extends-trans _ _ _ c.in_ok-window.ensures.extends c.in_ok-root.ensures.extends

pub push_peaks-requires-2 : goal.push_peaks-requires-2
push_peaks-requires-2 g c = pairs_many (g.R.Ranges.streams c.args.ranges.now) c.in_ok-root.ensures.ok ∙ sym (ap length c.as_slice-3.ensures.value)

pub returns-in_err-push_peaks-2-clause-extends : goal.returns-in_err-push_peaks-2-clause-extends
returns-in_err-push_peaks-2-clause-extends g c = Extends-trans _ _ _ c.in_ok-window.ensures.extends c.in_ok-root.ensures.extends

pub push_peaks-requires-3 : goal.push_peaks-requires-3
push_peaks-requires-3 g c = later_many (g.R.Ranges.streams c.args.ranges.now) c.in_ok-root.ensures.ok ∙ sym (ap length c.as_slice-4.ensures.value)

pub returns-in_err-push_peaks-3-clause-extends : goal.returns-in_err-push_peaks-3-clause-extends
returns-in_err-push_peaks-3-clause-extends g c = Extends-trans _ _ _ c.in_ok-window.ensures.extends c.in_ok-root.ensures.extends

pub returns-clause-realises : goal.returns-clause-realises
returns-clause-realises g c =
    let m = c.args.self.now in
    let taps = m.taps.items in
    let streams = g.R.Ranges.streams c.args.ranges.now in
    let all = c.in_ok-root.field-0 in
    let window = c.in_ok-window.window.items in
    let depth_is : c.len-depth.result ≡ length taps = c.len-depth.ensures ∙ m.taps.ok.0 in
    let values_items = c.in_ok-values.values.items in
    let sums = subst (λ (nodes : List Node). AddsSums streams c.cut_window.new.net c.sums.new.net nodes g.row.ANTI taps m.levels all.pair_held.items all.held.items all.pair_nodes.items all.registers.items all.root) c.as_slice.ensures.value c.in_ok-root.ensures.ok in
    let long : length taps ≡ length window = sym (c.in_ok-window.ensures.many ∙ depth_is) in
    let values = subst (λ (n : ℕ). AreHeld streams (window_sums n) values_items) depth_is c.in_ok-values.ensures in
    let peaks = c.in_ok-push_peaks-3.ensures ∙ ap (λ (ps : List Peak). ps ++ peaks_at all.held.items c.as_slice-4.result.now) (c.in_ok-push_peaks-2.ensures
    ∙ ap (λ (ps : List Peak). ps ++ peaks_at all.pair_held.items c.as_slice-3.result.now) (c.in_ok-push_peaks.ensures ∙ ap (λ (ps : List Peak). ps ++ peaks_at values_items c.as_slice-2.result.now) c.new-peaks.ensures.items))
    ∙ append_assoc (peaks_at values_items c.as_slice-2.result.now) (peaks_at all.pair_held.items c.as_slice-3.result.now) (peaks_at all.held.items c.as_slice-4.result.now)
    ∙ ap (λ (nodes : List Node). peaks_at values_items nodes ++ (peaks_at all.pair_held.items c.as_slice-3.result.now ++ peaks_at all.held.items c.as_slice-4.result.now)) c.as_slice-2.ensures.value
    ∙ ap (λ (nodes : List Node). peaks_at values_items window ++ (peaks_at all.pair_held.items nodes ++ peaks_at all.held.items c.as_slice-4.result.now)) c.as_slice-3.ensures.value
    ∙ ap (λ (nodes : List Node). peaks_at values_items window ++ (peaks_at all.pair_held.items all.pair_nodes.items ++ peaks_at all.held.items nodes)) c.as_slice-4.ensures.value in
    let given = given_stream all.root c.args.from.period c.args.from.offset c.from.result m.down c.from-2.result m.levels c.from.ensures c.from-2.ensures in
    Realises-mirror streams g.row.ANTI taps m.down m.mirrored (g.met.R.Ranges.causal c.args.ranges.now) c.requires.takes.some c.requires.group c.requires.unused c.in_ok-window.ensures.ok long sums m.is_levels values _ given peaks

pub returns-clause-extends : goal.returns-clause-extends
returns-clause-extends g c = Extends-trans _ _ _ c.in_ok-window.ensures.extends c.in_ok-root.ensures.extends
