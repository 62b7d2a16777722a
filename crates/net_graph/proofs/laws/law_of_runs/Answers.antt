use Rattle.net_graph.proofs.CutLemmas.{IsCut-all, IsCut-control}
use Rattle.net_graph.proofs.RunLemmas.{some_run, run_same}
use Rattle.net_graph.proofs.laws.law_of_runs.Goals as goal

pub returns-clause-cut : goal.returns-clause-cut
returns-clause-cut c = IsCut-all

pub returns-clause-uncut : goal.returns-clause-uncut
returns-clause-uncut c = IsCut-control

pub returns-clause-exists : goal.returns-clause-exists
returns-clause-exists c cells net cut law x = some_run cut law cells x net

pub returns-clause-unique : goal.returns-clause-unique
returns-clause-unique c cells net cut x v u p q t place inside = run_same cut cells x v u net p q t place inside
