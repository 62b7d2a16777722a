use Rattle.width_extreme.proofs.Ranges.{prefix-range-is}
use Rattle.width_extreme.proofs.law_of_ranges.Goals as goal

pub returns : goal.returns
returns c = prefix-range-is
