use Rattle.std.proofs.Common.{◌≡◌, drop}
use Rattle.verilog_tree.specs.View.{trees_view}
use Rattle.settle_order.specs.Placing.{any_reads_open, opened_of}
use Rattle.settle_order.proofs.order.+reads_open.Given as goal

-- those before don't read an open name
abbrev pub invariant-any_reads_open-loop-member : goal.invariant-any_reads_open-loop-member
invariant-any_reads_open-loop-member l = any_reads_open (opened_of l.opened) (trees_view l.members) ≡ any_reads_open (opened_of l.opened) (trees_view (drop l.member-index l.members))
