use Rattle.std.proofs.Common.{drop}
use Rattle.verilog_tree.specs.Checks.{trees_uses}
use Rattle.verilog_tree.specs.View.{trees_view}
use Rattle.verilog_check.specs.Uses.{use_view}
use Rattle.verilog_check.proofs.Walks.{IsUnderway}
use Rattle.verilog_check.proofs.uses.+add_reads.Given as goal

abbrev pub invariant-add_all_reads-loop-member : goal.invariant-add_all_reads-loop-member
invariant-add_all_reads-loop-member l = IsUnderway use_view (trees_uses (trees_view l.members)) (trees_uses (trees_view (drop l.member-index l.members))) l.initial.uses.items l.uses.items
