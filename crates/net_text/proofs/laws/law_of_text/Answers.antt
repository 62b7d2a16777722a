use Rattle.net_text.proofs.Writable.{has_text, in_order}
use Rattle.net_text.proofs.laws.law_of_text.Goals as goal

pub returns-clause-text : goal.returns-clause-text
returns-clause-text c = has_text

pub returns-clause-order : goal.returns-clause-order
returns-clause-order c = in_order
