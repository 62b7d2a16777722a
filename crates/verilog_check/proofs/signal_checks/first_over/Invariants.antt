use Rattle.std.proofs.Common.{◌≡◌, drop, find}
use Rattle.verilog_tree.specs.declared.tree.Signal.{Signal}
use Rattle.verilog_tree.specs.Checks.{is_over}
use Rattle.verilog_check.proofs.signal_checks.first_over.Given as goal

abbrev pub invariant-loop-signal : goal.invariant-loop-signal
invariant-loop-signal l = find (λ (s : Signal). is_over s.width) (drop l.signal-index l.ordered) ≡ find (λ (s : Signal). is_over s.width) l.ordered
