use Rattle.std.proofs.Common.{◌≡◌, ◌++◌, map, drop}
use Rattle.verilog_tree.specs.declared.tree.Signal.{Signal}
use Rattle.wire_levels.specs.Levels.{level_in}
use Rattle.wire_levels.proofs.signal_levels.levels.Given as goal

abbrev pub invariant-loop-signal : goal.invariant-loop-signal
invariant-loop-signal l =
    l.levels.items ++ map (λ (s : Signal). level_in l.by_name.items s.name) (drop l.signal-index l.design.signals.items) ≡ map (λ (s : Signal). level_in l.by_name.items s.name) l.design.signals.items
