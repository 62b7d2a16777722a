use Rattle.std.proofs.Common.{◌≡◌, drop}
use Rattle.verilog_tree.specs.View.{trees_view}
use Rattle.settle_order.specs.Placing.{any_reads_open, opened_of}
use Rattle.settle_order.proofs.depth.+open_name.Given as goal

-- those before don't read an open name
abbrev pub invariant-open_name_of-loop-member : goal.invariant-open_name_of-loop-member
invariant-open_name_of-loop-member l = any_reads_open (opened_of l.opened) (trees_view l.members) ≡ any_reads_open (opened_of l.opened) (trees_view (drop l.member-index l.members))
