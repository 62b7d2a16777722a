use Rattle.std.proofs.Common.{drop}
use Rattle.verilog_tree.specs.Checks.{actions_drives}
use Rattle.verilog_tree.specs.View.{actions_view}
use Rattle.verilog_check.specs.Drives.{drive_view}
use Rattle.verilog_check.proofs.Walks.{IsUnderway}
use Rattle.verilog_check.proofs.drives.+add_drives.Given as goal

abbrev pub invariant-add_all_drives-loop-statement : goal.invariant-add_all_drives-loop-statement
invariant-add_all_drives-loop-statement l =
    IsUnderway drive_view (actions_drives l.driver (actions_view l.statements)) (actions_drives l.driver (actions_view (drop l.statement-index l.statements))) l.initial.drives.items l.drives.items
