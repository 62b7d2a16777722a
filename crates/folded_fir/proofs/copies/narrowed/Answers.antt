use Rattle.fir_pieces.proofs.CuttingLemmas.{IsNarrowed-cut}
use Rattle.folded_fir.proofs.copies.narrowed.Goals as goal

pub returns-clause-ok : goal.returns-clause-ok
returns-clause-ok c = IsNarrowed-cut c.requires.wide.0 c.requires.data_group c.in_ok-to.ensures.ok

pub returns-clause-extends : goal.returns-clause-extends
returns-clause-extends c = (returns-clause-ok c).grows.extends
