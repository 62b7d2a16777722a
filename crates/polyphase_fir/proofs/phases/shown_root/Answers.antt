use Rattle.std.proofs.Common.{◌≡◌, ◌∙◌, sym, arith, subst, List, length, slice_get, Some}
use Rattle.std.proofs.lemmas.Option.{slice_get-get_or}
use Rattle.net_graph.specs.declared.cell.Node.{Node}
use Rattle.net_graph.proofs.NetLemmas.{Extends-trans}
use Rattle.pipeline_balance.specs.Phase.{IsSelection}
use Rattle.polyphase_fir.proofs.ShownLemmas.{AddsShown-one, AddsShown-select, order_within}
use Rattle.polyphase_fir.proofs.phases.shown_root.Goals as goal

pub returns-then-count-eq1-clause-ok : goal.returns-then-count-eq1-clause-ok
returns-then-count-eq1-clause-ok c =
    let first = slice_get-get_or c.args.roots.now 0 (record { place = 0 }) (let some = c.requires.up in let all = c.requires.all in omega arith) in
    AddsShown-one c.args.net.now c.args.roots.now c.args.rates.up c.args.rates.down c.args.period c.args.first c.round_of-count.result _ c.if-count-eq1.true c.round_of-count.ensures first (c.requires.within 0 _ first)

pub widest-width-requires : goal.widest-width-requires
widest-width-requires c phase node is =
    let before = order_within c.args.net.now.cells c.args.roots.now c.args.rates.up c.args.rates.down c.round_of-count.result c.in_ok-shown.shown.items c.in_ok-shown.ensures c.requires.within phase node (subst (λ (nodes : List Node). slice_get nodes phase ≡ Some node) c.as_slice.ensures.value is) in
    let longer = c.in_ok-bits.ensures.extends.longer in
    omega arith

pub select-requires-clause-narrow : goal.select-requires-clause-narrow
select-requires-clause-narrow c phase node is =
    c.widest-width.ensures.narrow phase node (subst (λ (nodes : List Node). slice_get nodes phase ≡ Some node) (c.as_slice-3.ensures.value ∙ sym c.as_slice.ensures.value) is)

pub returns-in_err-to-clause-extends : goal.returns-in_err-to-clause-extends
returns-in_err-to-clause-extends c = Extends-trans _ _ _ c.in_ok-bits.ensures.extends c.in_err-to.ensures.extends

pub returns-clause-extends : goal.returns-clause-extends
returns-clause-extends c = Extends-trans _ _ _ c.in_ok-bits.ensures.extends c.in_ok-to.ensures.extends

pub returns-clause-ok : goal.returns-clause-ok
returns-clause-ok c =
    let selected = subst (λ (bits : List Node). IsSelection c.phases.new.net c.select.new.net bits c.in_ok-shown.shown.items (length c.in_ok-shown.shown.items) c.widest-width.result c.in_ok-to.to) c.as_slice-2.ensures.value
    (subst (λ (nodes : List Node). IsSelection c.phases.new.net c.select.new.net c.as_slice-2.result.now nodes (length nodes) c.widest-width.result c.in_ok-to.to) c.as_slice-3.ensures.value c.in_ok-to.ensures.ok) in
    AddsShown-select c.args.roots.now c.args.rates.up c.args.rates.down c.args.period c.args.first c.round_of-count.result c.requires.positive c.round_of-count.ensures c.in_ok-shown.ensures c.in_ok-bits.ensures.ok selected

pub select-requires-clause-has_bits : goal.select-requires-clause-has_bits
select-requires-clause-has_bits c phase bit is = (c.in_ok-bits.ensures.ok.each phase bit (subst (λ (bits : List Node). slice_get bits phase ≡ Some bit) c.as_slice-2.ensures.value is)).within
