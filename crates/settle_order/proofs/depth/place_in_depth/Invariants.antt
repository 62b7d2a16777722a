use Rattle.verilog_tree.specs.Cycle.{circuit_of}
use Rattle.verilog_tree.specs.View.{design_view}
use Rattle.settle_order.specs.Placing.{opened_of, IsPlaced}
use Rattle.settle_order.proofs.depth.place_in_depth.Given as goal

abbrev pub invariant-loop : goal.invariant-loop
invariant-loop l = IsPlaced (circuit_of (design_view l.design)) (opened_of l.opened) l.order.items
