use Rattle.std.proofs.Common.{◌≡◌, [], map, drop}
use Rattle.std.specs.Prelude.{nat_eq}
use Rattle.std.specs.HashSet.{contains}
use Rattle.verilog_tree.specs.declared.tree.Signal.{Signal}
use Rattle.verilog_tree.specs.Checks.{first_repeat}
use Rattle.verilog_check.proofs.Repeating.{first_known}
use Rattle.verilog_check.proofs.repeats.first_redeclared.Given as goal

abbrev pub invariant-loop-signal : goal.invariant-loop-signal
invariant-loop-signal l = first_known (contains nat_eq l.seen) (drop l.signal-index l.ordered) ≡ first_repeat [] (map (λ (s : Signal). s.name) l.ordered)
