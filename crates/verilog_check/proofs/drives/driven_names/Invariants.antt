use Rattle.std.specs.Prelude.{nat_eq}
use Rattle.std.specs.HashSet.{contains}
use Rattle.verilog_check.proofs.Driving.{AreDriven}
use Rattle.verilog_check.proofs.drives.driven_names.Given as goal

abbrev pub invariant-loop-drive : goal.invariant-loop-drive
invariant-loop-drive l = AreDriven l.drives l.drive-index (contains nat_eq l.driven)
