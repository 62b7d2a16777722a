use Rattle.std.proofs.Common.{get_or, map, refl, sym, ◌∙◌}
use Rattle.std.specs.Prelude.{nat_eq}
use Rattle.std.specs.HashMap.{get}
use Rattle.verilog_check.specs.declared.drives.Drive.{Drive}
use Rattle.verilog_check.specs.Drives.{drive_view}
use Rattle.verilog_check.proofs.Lists.{item_is}
use Rattle.verilog_check.proofs.Driving.{none_shared, shared_skips}
use Rattle.verilog_check.proofs.drives.first_shared.Goals as goal

pub loop-drive-init : goal.loop-drive-init
loop-drive-init c = none_shared (get nat_eq c.new-driver_of.result) (map drive_view c.args.drives.now) (λ n. rw c.new-driver_of.ensures.empty refl)

pub loop-drive-preserved : goal.loop-drive-preserved
loop-drive-preserved c =
    let none : Drive = record { driver = 0; name = 0 } in
    let k = c.loop-drive.drive-index in
    shared_skips c.args.drives.now k (get nat_eq c.loop-drive.driver_of) _ c.loop-drive.invariant (get_or c.args.drives.now k none) c.loop-drive-test.true
    (item_is c.args.drives.now k none c.loop-drive-test.true) c.in_ok-known.known c.in_ok-known.ensures.old (get nat_eq c.insert.new.self) (sym c.is_other.ensures ∙ c.if-is_other.false)
    c.in_ok-known.ensures.updates.0
