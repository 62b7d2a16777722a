use Rattle.std.proofs.Common.{◌≡◌, ◌∙◌, ◌++◌, List, ℤ, length, sym, ap, subst, arith}
use Rattle.net_graph.specs.declared.cell.Node.{Node}
use Rattle.net_graph.proofs.NetLemmas.{Extends-trans}
use Rattle.signed_digit.specs.declared.term_list.Term.{Term}
use Rattle.signed_digit.specs.Terms.{terms_of}
use Rattle.fir_pieces.specs.declared.reading.Reading.{Reading}
use Rattle.fir_pieces.specs.Sums.{AddsTree, IsReady}
use Rattle.symmetric_fir.specs.Front.{AddsFront}
use Rattle.symmetric_fir.specs.Pairs.{pairs, centres, readings, firsts, mirror_terms}
use Rattle.symmetric_fir.proofs.PairLemmas.{length-firsts}
use Rattle.symmetric_fir.proofs.ReadyLemmas.{mirror_ready, AddsSums-joined}
use Rattle.symmetric_fir.proofs.mirror.Mirror.sums.Goals as goal

pub terms-requires-clause-few : goal.terms-requires-clause-few
terms-requires-clause-few g c =
    let taps = c.args.self.now.taps.items in
    let are : c.as_slice-5.result.now ≡ firsts taps = c.as_slice-5.ensures.value ∙ c.in_ok-found.ensures.firsts ∙ ap firsts c.as_slice.ensures.value in
    let same = ap length are in
    let few = length-firsts taps in
    let most = c.args.self.now.limits.1 in
    omega (arith, same, few, most)

pub sum_tree-requires-clause-ready : goal.sum_tree-requires-clause-ready
sum_tree-requires-clause-ready g c =
    let m = c.args.self.now in
    let taps = m.taps.items in
    let anti = g.row.ANTI in
    let streams = g.R.Ranges.streams c.args.ranges.now in
    let cells = c.add_front.new.net.cells in
    let front = subst (λ (ts : List ℤ). AddsFront streams c.args.net.now c.add_front.new.net c.args.window.now anti ts c.in_ok-front.front.pairs.held.items c.in_ok-front.front.centres.held.items c.in_ok-front.front.pairs.nodes.items c.in_ok-front.front.centres.nodes.items) c.as_slice-2.ensures.value c.in_ok-front.ensures.ok in
    let ready = mirror_ready streams anti taps m.levels m.mirrored m.limits m.few c.requires.room m.is_levels front in
    let nodes_are : c.in_ok-nodes.nodes.items ≡ c.in_ok-front.front.pairs.nodes.items ++ c.in_ok-front.front.centres.nodes.items = c.in_ok-nodes.ensures ∙ ap (λ (xs : List Node). xs ++ c.as_slice-4.result.now) c.as_slice-3.ensures.value ∙ ap (λ (xs : List Node). c.in_ok-front.front.pairs.nodes.items ++ xs) c.as_slice-4.ensures.value in
    let readings_are : c.in_ok-readings.readings.items ≡ readings anti taps = c.in_ok-readings.ensures ∙ ap (λ (xs : List Reading). xs ++ c.in_ok-found.found.centres.items) (c.in_ok-found.ensures.pairs ∙ ap (pairs anti) c.as_slice.ensures.value)
    ∙ ap (λ (xs : List Reading). pairs anti taps ++ xs) (c.in_ok-found.ensures.centres ∙ ap centres c.as_slice.ensures.value) in
    let terms_are : c.as_slice-6.result.now ≡ mirror_terms taps = c.as_slice-6.ensures ∙ c.in_ok-terms.ensures.value ∙ ap (terms_of 1 0) (c.as_slice-5.ensures.value ∙ c.in_ok-found.ensures.firsts ∙ ap firsts c.as_slice.ensures.value) in
    subst (λ (ns : List Node). IsReady streams cells ns c.in_ok-readings.readings.items c.as_slice-6.result.now m.levels) (sym nodes_are)
    (subst (λ (rs : List Reading). IsReady streams cells (c.in_ok-front.front.pairs.nodes.items ++ c.in_ok-front.front.centres.nodes.items) rs c.as_slice-6.result.now m.levels) (sym readings_are)
    (subst (λ (ts : List Term). IsReady streams cells (c.in_ok-front.front.pairs.nodes.items ++ c.in_ok-front.front.centres.nodes.items) (readings anti taps) ts m.levels) (sym terms_are) ready))

pub returns-in_err-tree-clause-extends : goal.returns-in_err-tree-clause-extends
returns-in_err-tree-clause-extends g c = Extends-trans _ _ _ c.in_ok-front.ensures.extends c.in_err-tree.ensures.extends

pub returns-in_err-sums-clause-extends : goal.returns-in_err-sums-clause-extends
returns-in_err-sums-clause-extends g c = Extends-trans _ _ _ c.in_ok-front.ensures.extends c.in_ok-tree.ensures.extends

pub returns-clause-ok : goal.returns-clause-ok
returns-clause-ok g c =
    let m = c.args.self.now in
    let taps = m.taps.items in
    let anti = g.row.ANTI in
    let streams = g.R.Ranges.streams c.args.ranges.now in
    let old = c.args.net.now in
    let middle = c.add_front.new.net in
    let new = c.sum_tree.new.net in
    let first = c.in_ok-front.front in
    let tree = c.in_ok-tree.tree in
    let front = subst (λ (ts : List ℤ). AddsFront streams old middle c.args.window.now anti ts first.pairs.held.items first.centres.held.items first.pairs.nodes.items first.centres.nodes.items) c.as_slice-2.ensures.value c.in_ok-front.ensures.ok in
    let nodes_are : c.in_ok-nodes.nodes.items ≡ first.pairs.nodes.items ++ first.centres.nodes.items = c.in_ok-nodes.ensures ∙ ap (λ (xs : List Node). xs ++ c.as_slice-4.result.now) c.as_slice-3.ensures.value ∙ ap (λ (xs : List Node). first.pairs.nodes.items ++ xs) c.as_slice-4.ensures.value in
    let readings_are : c.in_ok-readings.readings.items ≡ readings anti taps = c.in_ok-readings.ensures ∙ ap (λ (xs : List Reading). xs ++ c.in_ok-found.found.centres.items) (c.in_ok-found.ensures.pairs ∙ ap (pairs anti) c.as_slice.ensures.value)
    ∙ ap (λ (xs : List Reading). pairs anti taps ++ xs) (c.in_ok-found.ensures.centres ∙ ap centres c.as_slice.ensures.value) in
    let terms_are : c.as_slice-6.result.now ≡ mirror_terms taps = c.as_slice-6.ensures ∙ c.in_ok-terms.ensures.value ∙ ap (terms_of 1 0) (c.as_slice-5.ensures.value ∙ c.in_ok-found.ensures.firsts ∙ ap firsts c.as_slice.ensures.value) in
    let sums =
    subst (λ (ts : List Term). AddsTree streams middle new (first.pairs.nodes.items ++ first.centres.nodes.items) (readings anti taps) 1 ts m.levels tree.held.items tree.registers.items tree.root) terms_are
    (subst (λ (rs : List Reading). AddsTree streams middle new (first.pairs.nodes.items ++ first.centres.nodes.items) rs 1 c.as_slice-6.result.now m.levels tree.held.items tree.registers.items tree.root) readings_are
    (subst (λ (ns : List Node). AddsTree streams middle new ns c.in_ok-readings.readings.items 1 c.as_slice-6.result.now m.levels tree.held.items tree.registers.items tree.root) nodes_are c.in_ok-tree.ensures.ok)) in
    AddsSums-joined streams _ _ _ _ _ front sums c.in_ok-sums.ensures.root c.in_ok-sums.ensures.pair_nodes c.in_ok-sums.ensures.pair_held c.in_ok-sums.ensures.registers c.in_ok-sums.ensures.held

pub returns-clause-extends : goal.returns-clause-extends
returns-clause-extends g c = Extends-trans _ _ _ c.in_ok-front.ensures.extends c.in_ok-tree.ensures.extends
