use Rattle.net_graph.specs.declared.cell.Cell.{Cell}
use Rattle.net_module.specs.Written.{has_kind, is_valid_kind}
use Rattle.net_module.proofs.Loops.{NotBefore}
use Rattle.net_module.proofs.write.find_valid.Given as goal

abbrev pub invariant-loop-place : goal.invariant-loop-place
invariant-loop-place l = NotBefore (λ (c : Cell). has_kind is_valid_kind c.name) l.net l.place
