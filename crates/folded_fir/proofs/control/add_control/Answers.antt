use Rattle.std.proofs.Common.{ℕ, ◌+◌, length, ◌∙◌, ap, List}
use Rattle.net_graph.proofs.NetLemmas.{Extends-trans}
use Rattle.folded_fir.proofs.ControlLemmas.{distances_below, below_as, AddsBits-as, AddsControl-of}
use Rattle.folded_fir.proofs.control.add_control.Goals as goal

pub returns-in_err-clear-clause-extends : goal.returns-in_err-clear-clause-extends
returns-in_err-clear-clause-extends c = Extends-trans _ _ _ c.in_ok-load.ensures.extends c.in_err-clear.ensures.extends

pub ticks_after-requires-clause-below : goal.ticks_after-requires-clause-below
ticks_after-requires-clause-below c = below_as c.args.beat.period c.from.ensures c.as_slice.ensures.value (distances_below c.args.beat.period c.args.beat.round c.args.slots.now c.in_ok-distances.distances.items c.in_ok-distances.ensures c.requires.inside)

pub returns-in_err-bits-clause-extends : goal.returns-in_err-bits-clause-extends
returns-in_err-bits-clause-extends c = Extends-trans _ _ _ c.in_ok-load.ensures.extends (Extends-trans _ _ _ c.in_ok-clear.ensures.extends c.in_err-bits.ensures.extends)

pub returns-clause-ok : goal.returns-clause-ok
returns-clause-ok c o same_period same_round = AddsControl-of c.args.slots.now c.args.from o same_period same_round c.in_ok-distances.ensures c.in_ok-load.ensures.ok c.in_ok-clear.ensures.ok (AddsBits-as c.args.beat.period (c.args.from.offset + 2) c.from.ensures c.as_slice.ensures.value c.in_ok-bits.ensures.ok)
    (c.in_ok-bits.ensures.many ∙ ap (λ (ds : List ℕ). length ds) c.as_slice.ensures.value)

pub returns-clause-extends : goal.returns-clause-extends
returns-clause-extends c = Extends-trans _ _ _ c.in_ok-load.ensures.extends (Extends-trans _ _ _ c.in_ok-clear.ensures.extends c.in_ok-bits.ensures.extends)
