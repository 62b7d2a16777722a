use Rattle.net_graph.proofs.RunLemmas.{kept_values}
use Rattle.net_graph.proofs.laws.law_of_growth.Goals as goal

pub returns : goal.returns
returns c old new net more cut law x v u p q t place inside = kept_values old new net more cut law x v u p q t place inside
