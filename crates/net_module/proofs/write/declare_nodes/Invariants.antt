use Rattle.net_module.specs.Loops.{IsDeclaredTo}
use Rattle.net_module.specs.Listed.{listed}
use Rattle.net_module.proofs.write.declare_nodes.Given as goal

abbrev pub invariant-loop-place : goal.invariant-loop-place
invariant-loop-place l = IsDeclaredTo l.net l.place (listed l.initial.lists) (listed l.lists)
