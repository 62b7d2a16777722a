use Rattle.pipeline_balance.proofs.TakenLemmas.{IsTaken-plain}
use Rattle.pipeline_balance.proofs.windows.plain_register.Goals as goal

pub returns-clause-ok : goal.returns-clause-ok
returns-clause-ok c = IsTaken-plain c.width-width.ensures.wide.0 c.requires.data_group c.requires.within c.width-width.ensures.width c.requires.data_name c.in_ok-register.ensures.ok c.bind.ensures

pub returns-clause-extends : goal.returns-clause-extends
returns-clause-extends c = (returns-clause-ok c).lengthens.extends
