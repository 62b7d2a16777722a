use Rattle.std.proofs.Common.{◌≡◌, map, drop}
use Rattle.verilog_tree.specs.Checks.{assigns_sides, blocks_sides, sides}
use Rattle.verilog_tree.specs.View.{assignment_view, action_view, design_view}
use Rattle.verilog_check.specs.Widths.{first_told}
use Rattle.verilog_check.proofs.widths.first_side_over.Given as goal

abbrev pub invariant-loop-assign : goal.invariant-loop-assign
invariant-loop-assign l =
    let m = l.declared.design.now in
    let d = design_view m in
    first_told d (assigns_sides d (map assignment_view (drop l.assign-index m.assigns.items)) (blocks_sides d (map action_view m.blocks.items))) ≡ first_told d (sides d)

abbrev pub invariant-loop-block : goal.invariant-loop-block
invariant-loop-block l =
    let m = l.declared.design.now in
    let d = design_view m in
    first_told d (blocks_sides d (map action_view (drop l.block-index m.blocks.items))) ≡ first_told d (sides d)
