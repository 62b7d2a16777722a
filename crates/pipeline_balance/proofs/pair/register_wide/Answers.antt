use Rattle.net_graph.proofs.NetLemmas.{IsUnbound-added}
use Rattle.pipeline_balance.proofs.PairLemmas.{TakesNode-bound}
use Rattle.pipeline_balance.proofs.pair.register_wide.Goals as goal

pub bind-requires-clause-unbound : goal.bind-requires-clause-unbound
bind-requires-clause-unbound c = IsUnbound-added c.in_ok-register.ensures.ok.adds

pub returns-clause-ok : goal.returns-clause-ok
returns-clause-ok c = TakesNode-bound c.requires.data_group c.group-group.ensures c.requires.wide.0 c.in_ok-register.ensures.ok c.bind.ensures
