use Rattle.net_module.specs.Loops.{IsDrivenTo}
use Rattle.net_module.proofs.write.drive_nodes.Given as goal

abbrev pub invariant-loop-place : goal.invariant-loop-place
invariant-loop-place l = IsDrivenTo l.numbers l.net l.place l.initial.drivers.assigns.items l.drivers.assigns.items l.initial.drivers.blocks.items l.drivers.blocks.items
