use Rattle.verilog_tree.specs.View.{design_view}
use Rattle.settle_order.proofs.Turns.{IsTurn}
use Rattle.settle_order.proofs.order.place_ready.Given as goal

abbrev pub invariant-loop-place : goal.invariant-loop-place
invariant-loop-place l = IsTurn (design_view l.design) l.initial.opened l.opened l.order.items l.progress l.place
