use Rattle.std.proofs.Common.{◌≡◌, ℕ, ◌<◌, Some, slice_get}
use Rattle.verilog_tree.specs.declared.tree.Signal.{Signal}
use Rattle.verilog_tree.specs.Checks.{DependsOnItself}
use Rattle.verilog_tree.specs.View.{design_view}
use Rattle.loop_search.proofs.search.first_loop.Given as goal

-- no declared signal before depends on itself
abbrev pub invariant-loop-signal : goal.invariant-loop-signal
invariant-loop-signal l = (k : ℕ) (s : Signal) → k < l.signal-index → slice_get l.ordered k ≡ Some s → DependsOnItself (design_view l.design) s.name → ⊥
