use Rattle.std.proofs.Common.{◌≡◌, drop, find, ◌&&◌, not}
use Rattle.std.specs.Prelude.{nat_eq}
use Rattle.std.specs.HashSet.{contains}
use Rattle.verilog_tree.specs.declared.tree.Signal.{Signal}
use Rattle.verilog_tree.specs.Checks.{needs_driver}
use Rattle.verilog_check.proofs.signal_checks.first_outside.Given as goal

abbrev pub invariant-loop-signal : goal.invariant-loop-signal
invariant-loop-signal l =
    find (λ (s : Signal). needs_driver s.kind && not (contains nat_eq l.driven s.name)) (drop l.signal-index l.ordered)
    ≡ find (λ (s : Signal). needs_driver s.kind && not (contains nat_eq l.driven s.name)) l.ordered
