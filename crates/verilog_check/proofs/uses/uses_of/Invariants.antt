use Rattle.std.proofs.Common.{◌≡◌, ◌++◌, map, drop}
use Rattle.verilog_tree.specs.Checks.{assigns_uses, blocks_uses, uses}
use Rattle.verilog_tree.specs.View.{assignment_view, action_view, design_view}
use Rattle.verilog_check.specs.Uses.{use_view}
use Rattle.verilog_check.proofs.uses.uses_of.Given as goal

abbrev pub invariant-loop-assign : goal.invariant-loop-assign
invariant-loop-assign l =
    map use_view l.uses.items ++ assigns_uses (map assignment_view (drop l.assign-index l.design.assigns.items)) (blocks_uses (map action_view l.design.blocks.items)) ≡ uses (design_view l.design)

abbrev pub invariant-loop-block : goal.invariant-loop-block
invariant-loop-block l = map use_view l.uses.items ++ blocks_uses (map action_view (drop l.block-index l.design.blocks.items)) ≡ uses (design_view l.design)
