use Rattle.std.proofs.Common.{ℕ, ◌/◌, sym, subst}
use Rattle.net_graph.proofs.NetLemmas.{Extends-trans, Extends-adds}
use Rattle.cic_chain.specs.Pieces.{AddsStuffed}
use Rattle.cic_chain.proofs.InterpolatorLemmas.{AddsStuffed-circuit, whole_times}
use Rattle.cic_chain.proofs.interpolator.zero_stuffed.Goals as goal

pub returns-clause-ok : goal.returns-clause-ok
returns-clause-ok c =
    let from = c.args.from in
    subst (λ (n : ℕ). AddsStuffed c.args.net.now c.mux.new.self from c.args.width c.args.factor (record { node = c.in_ok-node.node; period = from.period / n; offset = from.offset })) (sym c.from.ensures)
    (AddsStuffed-circuit from c.args.width c.args.factor (from.period / c.args.factor) c.requires.data_group c.requires.within c.requires.wide.0 c.requires.positive c.requires.some
    (whole_times from.period c.args.factor c.requires.whole) c.in_ok-bit.ensures.ok c.in_ok-zero.ensures.ok c.in_ok-node.ensures.ok)

pub returns-clause-extends : goal.returns-clause-extends
returns-clause-extends c = (returns-clause-ok c).piece.grows.extends

pub returns-in_err-node-clause-extends : goal.returns-in_err-node-clause-extends
returns-in_err-node-clause-extends c = rw c.in_err-node.ensures.err (Extends-trans _ _ _ c.in_ok-bit.ensures.extends (Extends-adds c.in_ok-zero.ensures.ok))
