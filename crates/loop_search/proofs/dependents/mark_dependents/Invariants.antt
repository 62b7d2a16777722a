use Rattle.std.proofs.Common.{◌≡◌, ◌+◌, ◌-◌, false, length}
use Rattle.std.specs.Prelude.{if◌then◌else◌}
use Rattle.verilog_tree.specs.View.{design_view}
use Rattle.settle_order.specs.Placing.{opened_of, count_open}
use Rattle.loop_search.specs.Dependents.{AreDependents, AreAllDependents}
use Rattle.loop_search.proofs.dependents.mark_dependents.Given as goal

abbrev pub invariant-loop-progress : goal.invariant-loop-progress
invariant-loop-progress l = record {
  dependents : AreDependents (design_view l.design) (opened_of l.initial.marked) (opened_of l.marked);
  all : l.progress ≡ false → AreAllDependents (design_view l.design) (opened_of l.marked);
}

abbrev pub decreases-loop-progress : goal.decreases-loop-progress
decreases-loop-progress l = if l.progress then (length l.marked - count_open l.marked) + 1 else 0
