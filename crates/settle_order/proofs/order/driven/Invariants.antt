use Rattle.verilog_tree.specs.View.{design_view}
use Rattle.settle_order.proofs.Turns.{IsMarked}
use Rattle.settle_order.proofs.order.driven.Given as goal

abbrev pub invariant-loop-assign : goal.invariant-loop-assign
invariant-loop-assign l = IsMarked (design_view l.design) l.count l.opened.items l.assign-index
