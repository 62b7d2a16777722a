use Rattle.std.proofs.Common.{drop}
use Rattle.verilog_tree.specs.Checks.{actions_uses}
use Rattle.verilog_tree.specs.View.{actions_view}
use Rattle.verilog_check.specs.Uses.{use_view}
use Rattle.verilog_check.proofs.Walks.{IsUnderway}
use Rattle.verilog_check.proofs.uses.+add_uses.Given as goal

abbrev pub invariant-add_all_uses-loop-statement : goal.invariant-add_all_uses-loop-statement
invariant-add_all_uses-loop-statement l =
    IsUnderway use_view (actions_uses (actions_view l.statements)) (actions_uses (actions_view (drop l.statement-index l.statements))) l.initial.uses.items l.uses.items
