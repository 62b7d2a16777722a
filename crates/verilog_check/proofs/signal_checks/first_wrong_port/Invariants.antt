use Rattle.std.proofs.Common.{◌≡◌, drop, find, ◌&&◌, not}
use Rattle.verilog_tree.specs.declared.tree.Signal.{Signal}
use Rattle.verilog_tree.specs.Checks.{is_port, is_right_port}
use Rattle.verilog_tree.specs.View.{design_view}
use Rattle.verilog_check.specs.Faces.{face_of}
use Rattle.verilog_check.proofs.signal_checks.first_wrong_port.Given as goal

abbrev pub invariant-loop-signal : goal.invariant-loop-signal
invariant-loop-signal l =
    find (λ (s : Signal). is_port s.kind && not (is_right_port (face_of l.face) (design_view l.design) s)) (drop l.signal-index l.ordered)
    ≡ find (λ (s : Signal). is_port s.kind && not (is_right_port (face_of l.face) (design_view l.design) s)) l.ordered
