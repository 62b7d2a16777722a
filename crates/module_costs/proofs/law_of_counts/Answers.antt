use Rattle.module_costs.proofs.Sums.{counts_as}
use Rattle.module_costs.proofs.law_of_counts.Goals as goal

pub returns : goal.returns
returns c = counts_as
