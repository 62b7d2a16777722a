use Rattle.verilog_tree.specs.Cycle.{circuit_of}
use Rattle.verilog_tree.proofs.OneSettling.{circuit_sound, circuit_loop_free}
use Rattle.module_laws.proofs.Levels.{loop_free}
use Rattle.module_laws.proofs.Passing.{passing_driven}
use Rattle.event_order.specs.Drawn.{declared_names}
use Rattle.event_order.proofs.Declared.{names_registers}
use Rattle.event_order.proofs.DrawnSteps.{drawn_is_order}
use Rattle.event_order.proofs.law_of_drawn_order.Goals as goal

pub returns : goal.returns
returns c = λ d passes inputs start state settled are begins settling.
    drawn_is_order (circuit_of d) (circuit_sound d (passing_driven d passes)) (circuit_loop_free d (loop_free d passes.free)) (declared_names d) (names_registers d passes)
    inputs start state settled are begins settling
