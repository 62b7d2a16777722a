use Rattle.std.proofs.Common.{◌≡◌, drop}
use Rattle.verilog_tree.specs.Cycle.{any_reads}
use Rattle.verilog_tree.specs.View.{trees_view}
use Rattle.order_sim.proofs.readers.+reads.Given as goal

-- those before don't read the name
abbrev pub invariant-any_reads-loop-member : goal.invariant-any_reads-loop-member
invariant-any_reads-loop-member l = any_reads (trees_view l.members) l.name ≡ any_reads (trees_view (drop l.member-index l.members)) l.name
