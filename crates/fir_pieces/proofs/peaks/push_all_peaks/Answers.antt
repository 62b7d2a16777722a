use Rattle.std.proofs.Common.{◌≡◌, ◌++◌, ◌<◌, ◌∷◌, [], ◌∙◌, ℕ, List, Some, ap, sym, subst, arith, append-nil, length, length-append, get_or, slice_get}
use Rattle.std.proofs.lemmas.List.{append_assoc, length-map, map-append}
use Rattle.std.proofs.lemmas.Option.{slice_get-get_or}
use Rattle.net_graph.specs.declared.cell.Node.{Node}
use Rattle.stage_law.specs.declared.stage.Peak.{Peak}
use Rattle.fir_pieces.specs.declared.held.Held.{Held}
use Rattle.fir_pieces.specs.declared.held_sums.HeldSums.{HeldSums}
use Rattle.fir_pieces.specs.Columns.{parts_in, parts_of}
use Rattle.fir_pieces.specs.Peaks.{widest_peak, all_peaks_at}
use Rattle.fir_pieces.proofs.PeakLemmas.{all_peaks_at-push}
use Rattle.fir_pieces.proofs.peaks.push_all_peaks.Goals as goal

pub loop-own-init : goal.loop-own-init
loop-own-init c = record {
  peaks = sym (append-nil c.args.peaks.now.items);
  count = omega arith;
  left = c.into_iter-own-iterator.ensures.into_iter_gives.0;
}

pub loop-own-preserved : goal.loop-own-preserved
loop-own-preserved c =
    let i = c.loop-own.invariant in
    let registers = c.args.registers.now in
    let yielded = c.loop-own.yielded in
    let own = c.in-Some.own in
    let blank : Node = record { place = 0 } in
    let node = get_or registers c.loop-own.index blank in
    let rest = c.in-Some.ensures.steps.0 in
    let whole = ap length i.left in
    let parts = length-append yielded c.loop-own.own-iterator.rest.items in
    let one = ap length rest in
    let count = i.count in
    let many = c.requires in
    let less : c.loop-own.index < length registers = omega (arith, whole, parts, one, count, many) in
    let place : c.loop-own.index ≡ length (parts_of yielded) = count ∙ sym (length-map yielded parts_in) in
    let there : slice_get registers (length (parts_of yielded)) ≡ Some node = subst (λ (n : ℕ). slice_get registers n ≡ Some node) place (slice_get-get_or registers c.loop-own.index blank less) in
    let width = own.is_widest in
    record {
      peaks =
          c.in_ok-push_widest.ensures ∙ ap (λ (ps : List Peak). ps ++ widest_peak node own.width own.sums.items) i.peaks ∙ append_assoc c.args.peaks.now.items (all_peaks_at (parts_of yielded) registers) (widest_peak node own.width own.sums.items)
          ∙ ap (λ (n : ℕ). c.args.peaks.now.items ++ (all_peaks_at (parts_of yielded) registers ++ widest_peak node n own.sums.items)) width
          ∙ ap (λ (ps : List Peak). c.args.peaks.now.items ++ ps) (sym (all_peaks_at-push (parts_of yielded) registers own.sums.items node there))
          ∙ ap (λ (all : List (List Held)). c.args.peaks.now.items ++ all_peaks_at all registers) (sym (map-append parts_in yielded (own ∷ [])));
      count = let longer = length-append yielded (own ∷ []) in omega (arith, count, longer);
      left = append_assoc yielded (own ∷ []) c.next.new.self.rest.items ∙ sym (ap (λ (xs : List HeldSums). yielded ++ xs) rest) ∙ i.left;
    }
