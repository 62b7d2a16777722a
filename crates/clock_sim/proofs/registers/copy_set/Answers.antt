use Rattle.std.proofs.Common.{◌∙◌, refl, ap, sym, subst}
use Rattle.verilog_tree.specs.Tree.{Action, Tree, Give}
use Rattle.verilog_tree.specs.Names.{shapes_of}
use Rattle.verilog_tree.specs.View.{action_view, design_view}
use Rattle.settle_order.proofs.Opened.{same_some}
use Rattle.clock_sim.specs.declared.registers.CopySet.{CopySet}
use Rattle.clock_sim.specs.Blocks.{IsCopySet}
use Rattle.clock_sim.proofs.StepKinds.{copy_step}
use Rattle.clock_sim.proofs.BlockKinds.{copy_given}
use Rattle.clock_sim.proofs.registers.copy_set.Goals as goal

pub returns-in-Set : goal.returns-in-Set
returns-in-Set c s is =
    let shapes = shapes_of (design_view c.args.design.now) in
    let name = c.in_ok-name.ensures c.in_ok-name.name refl in
    let viewed = ap action_view c.in-Set.is ∙ ap (λ (e : Tree). Give c.in-Set.target e) name in
    let step = copy_step shapes c.requires.fitting c.in-Set.target c.width_in-width.result c.width_in-width.ensures.value c.mask_of.result c.mask_of.ensures
    c.in_ok-name.name c.handed-whole.result c.handed-whole.ensures c.operand_of.result c.operand_of.ensures in
    subst (λ (t : CopySet). IsCopySet shapes (action_view c.args.statement.now) t) (same_some _ s is)
    (subst (λ (a : Action). IsCopySet shapes a (record { target = c.in-Set.target; source = c.operand_of.result; mask = c.mask_of.result })) (sym viewed)
    (copy_given shapes c.in-Set.target c.in_ok-name.name c.operand_of.result c.mask_of.result step))
