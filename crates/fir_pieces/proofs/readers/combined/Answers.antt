use Rattle.std.proofs.Common.{sym, refl, subst, length}
use Rattle.std.proofs.lemmas.Result.{IfOk-weaker}
use Rattle.net_graph.proofs.NetLemmas.{Extends-adds}
use Rattle.fir_pieces.specs.declared.reading.Reading.{Reading}
use Rattle.fir_pieces.specs.declared.reading.Reading.TheVariants.{Sum, Difference}
use Rattle.fir_pieces.specs.Reading.{ReadsWithin}
use Rattle.fir_pieces.specs.Readers.{IsCombined}
use Rattle.fir_pieces.proofs.ReadersLemmas.{IsCombined-one, IsCombined-add, IsCombined-sub}
use Rattle.fir_pieces.proofs.readers.combined.Goals as goal

pub returns-in-One-clause-ok : goal.returns-in-One-clause-ok
returns-in-One-clause-ok c = IfOk-weaker c.narrowed.result _ _
    (λ node n. subst (λ (r : Reading). IsCombined c.args.net.now c.narrowed.new.net c.args.window.now r c.args.width node) (sym c.in-One.is) (IsCombined-one c.args.window.now c.in-One.place c.requires.data_group refl n)) c.narrowed.ensures.ok

pub returns-in_ok-node-in-Sum-clause-ok : goal.returns-in_ok-node-in-Sum-clause-ok
returns-in_ok-node-in-Sum-clause-ok c =
    let within : ReadsWithin (length c.args.window.now) (Sum c.in-Sum.first c.in-Sum.second) = subst (ReadsWithin (length c.args.window.now)) c.in-Sum.is c.requires.within in
    subst (λ (r : Reading). IsCombined c.args.net.now c.add.new.self c.args.window.now r c.args.width c.in_ok-node-in-Sum.node) (sym c.in-Sum.is)
    (IsCombined-add c.args.window.now c.in-Sum.first c.in-Sum.second _ _ c.requires.data_group c.requires.wide.0 within.0 within.1 refl refl c.in_ok-node-in-Sum.ensures.ok)

pub returns-in_ok-node-in-Sum-clause-extends : goal.returns-in_ok-node-in-Sum-clause-extends
returns-in_ok-node-in-Sum-clause-extends c = Extends-adds c.in_ok-node-in-Sum.ensures.ok

pub returns-in_ok-node-in-Difference-clause-ok : goal.returns-in_ok-node-in-Difference-clause-ok
returns-in_ok-node-in-Difference-clause-ok c =
    let within : ReadsWithin (length c.args.window.now) (Difference c.in-Difference.first c.in-Difference.second) = subst (ReadsWithin (length c.args.window.now)) c.in-Difference.is c.requires.within in
    subst (λ (r : Reading). IsCombined c.args.net.now c.sub.new.self c.args.window.now r c.args.width c.in_ok-node-in-Difference.node) (sym c.in-Difference.is)
    (IsCombined-sub c.args.window.now c.in-Difference.first c.in-Difference.second _ _ c.requires.data_group c.requires.wide.0 within.0 within.1 refl refl c.in_ok-node-in-Difference.ensures.ok)

pub returns-in_ok-node-in-Difference-clause-extends : goal.returns-in_ok-node-in-Difference-clause-extends
returns-in_ok-node-in-Difference-clause-extends c = Extends-adds c.in_ok-node-in-Difference.ensures.ok
