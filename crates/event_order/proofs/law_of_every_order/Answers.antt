use Rattle.verilog_tree.specs.Cycle.{circuit_of}
use Rattle.verilog_tree.proofs.OneSettling.{circuit_sound}
use Rattle.module_laws.proofs.Passing.{passing_driven}
use Rattle.event_order.proofs.EveryOrder.{every_order}
use Rattle.event_order.proofs.law_of_every_order.Goals as goal

pub returns : goal.returns
returns c = λ d passes. every_order (circuit_of d) (circuit_sound d (passing_driven d passes))
