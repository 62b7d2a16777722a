use Rattle.std.proofs.Common.{◌≡◌, [], map, drop}
use Rattle.std.specs.Prelude.{nat_eq}
use Rattle.std.specs.HashMap.{get}
use Rattle.verilog_tree.specs.Checks.{first_shared}
use Rattle.verilog_check.specs.Drives.{drive_view}
use Rattle.verilog_check.proofs.Driving.{first_with_other}
use Rattle.verilog_check.proofs.drives.first_shared.Given as goal

abbrev pub invariant-loop-drive : goal.invariant-loop-drive
invariant-loop-drive l = first_with_other (get nat_eq l.driver_of) (map drive_view (drop l.drive-index l.drives)) ≡ first_shared [] (map drive_view l.drives)
