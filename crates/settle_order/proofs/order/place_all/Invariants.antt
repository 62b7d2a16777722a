use Rattle.std.proofs.Common.{◌≡◌, ◌+◌, false}
use Rattle.std.specs.Prelude.{if◌then◌else◌}
use Rattle.verilog_tree.specs.Cycle.{circuit_of}
use Rattle.verilog_tree.specs.View.{design_view}
use Rattle.settle_order.specs.Placing.{opened_of, count_open, IsPlaced, IsStuck}
use Rattle.settle_order.proofs.order.place_all.Given as goal

abbrev pub invariant-loop-progress : goal.invariant-loop-progress
invariant-loop-progress l = record {
  placed : IsPlaced (circuit_of (design_view l.design)) (opened_of l.opened.items) l.order.items;
  stuck : l.progress ≡ false → IsStuck (circuit_of (design_view l.design)) (opened_of l.opened.items);
}

abbrev pub decreases-loop-progress : goal.decreases-loop-progress
decreases-loop-progress l = if l.progress then count_open l.opened.items + 1 else 0
