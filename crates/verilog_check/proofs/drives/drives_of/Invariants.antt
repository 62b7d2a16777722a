use Rattle.std.proofs.Common.{◌≡◌, ◌+◌, ◌++◌, length, map, drop}
use Rattle.verilog_tree.specs.Checks.{assigns_drives, blocks_drives, drives}
use Rattle.verilog_tree.specs.View.{assignment_view, action_view, design_view}
use Rattle.verilog_check.specs.Drives.{drive_view}
use Rattle.verilog_check.proofs.drives.drives_of.Given as goal

abbrev pub invariant-loop-driver : goal.invariant-loop-driver
invariant-loop-driver l =
    map drive_view l.drives.items
    ++ assigns_drives l.driver (map assignment_view (drop l.driver l.design.assigns.items)) (blocks_drives (length (map assignment_view l.design.assigns.items)) (map action_view l.design.blocks.items))
    ≡ drives (design_view l.design)

abbrev pub invariant-loop-place : goal.invariant-loop-place
invariant-loop-place l =
    map drive_view l.drives.items ++ blocks_drives (length l.design.assigns.items + l.place) (map action_view (drop l.place l.design.blocks.items)) ≡ drives (design_view l.design)
