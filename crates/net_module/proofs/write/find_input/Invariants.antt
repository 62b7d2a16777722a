use Rattle.net_graph.specs.declared.cell.Cell.{Cell}
use Rattle.net_graph.specs.Name.{is_input}
use Rattle.net_module.proofs.Loops.{NotBefore}
use Rattle.net_module.proofs.write.find_input.Given as goal

abbrev pub invariant-loop-place : goal.invariant-loop-place
invariant-loop-place l = NotBefore (λ (c : Cell). is_input c.item) l.net l.place
