use Rattle.std.proofs.Common.{◌≡◌, ◌∙◌, ℕ, List, length, sym, subst, All}
use Rattle.net_graph.proofs.NetLemmas.{Extends-trans}
use Rattle.fir_pieces.specs.declared.reading.Reading.{Reading}
use Rattle.fir_pieces.specs.Reading.{ReadsWithin}
use Rattle.symmetric_fir.specs.Pairs.{pairs}
use Rattle.symmetric_fir.proofs.PairLemmas.{pairs_within}
use Rattle.symmetric_fir.proofs.front.add_front.Goals as goal

pub add_readers-requires-clause-within : goal.add_readers-requires-clause-within
add_readers-requires-clause-within g c =
    let taps = c.args.taps.now in
    let are : c.as_slice.result.now ≡ pairs c.args.anti taps = c.as_slice.ensures.value ∙ c.requires.are_pairs in
    subst (λ (rs : List Reading). All (ReadsWithin (length c.args.window.now)) rs) (sym are) (subst (λ (n : ℕ). All (ReadsWithin n) (pairs c.args.anti taps)) (sym c.requires.deep) (pairs_within c.args.anti taps))

pub returns-in_err-centres-clause-extends : goal.returns-in_err-centres-clause-extends
returns-in_err-centres-clause-extends g c = Extends-trans _ _ _ c.in_ok-pairs.ensures.extends c.in_err-centres.ensures.extends

pub returns-clause-extends : goal.returns-clause-extends
returns-clause-extends g c = Extends-trans _ _ _ c.in_ok-pairs.ensures.extends c.in_ok-centres.ensures.extends
