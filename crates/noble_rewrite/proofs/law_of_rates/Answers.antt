use Rattle.noble_rewrite.proofs.Exchanges.{third_rule}
use Rattle.noble_rewrite.proofs.law_of_rates.Goals as goal

pub returns : goal.returns
returns c = third_rule
