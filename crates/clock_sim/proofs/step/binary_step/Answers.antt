use Rattle.std.proofs.Common.{sym, subst}
use Rattle.verilog_tree.specs.declared.tree.Op.{Op}
use Rattle.verilog_tree.specs.Tree.{Name, Binary}
use Rattle.verilog_tree.specs.Names.{shapes_of}
use Rattle.verilog_tree.specs.View.{design_view}
use Rattle.clock_sim.specs.declared.step.Step.TheVariants.{Sum, Difference, Same}
use Rattle.clock_sim.specs.Steps.{IsStepOf}
use Rattle.clock_sim.proofs.StepKinds.{sum_step, difference_step, same_step}
use Rattle.clock_sim.proofs.step.binary_step.Goals as goal

pub returns-in-Add : goal.returns-in-Add
returns-in-Add c =
    let shapes = shapes_of (design_view c.args.design.now) in
    subst (λ (op : Op). IsStepOf shapes c.args.target (Binary op (Name c.args.first) (Name c.args.second)) (Sum c.operand_of-a.result c.operand_of-b.result c.mask_of.result)) (sym c.in-Add.is)
    (sum_step shapes c.requires.fitting c.args.target c.width_in-width.result c.width_in-width.ensures.value c.mask_of.result c.mask_of.ensures
    c.args.first c.args.second c.handed-whole.result c.handed-whole.ensures c.operand_of-a.result c.operand_of-b.result c.operand_of-a.ensures c.operand_of-b.ensures)

pub returns-in-Sub : goal.returns-in-Sub
returns-in-Sub c =
    let shapes = shapes_of (design_view c.args.design.now) in
    subst (λ (op : Op). IsStepOf shapes c.args.target (Binary op (Name c.args.first) (Name c.args.second)) (Difference c.operand_of-a.result c.operand_of-b.result c.mask_of-in-Sub.result)) (sym c.in-Sub.is)
    (difference_step shapes c.requires.fitting c.args.target c.width_in-width.result c.width_in-width.ensures.value c.mask_of-in-Sub.result c.mask_of-in-Sub.ensures
    c.args.first c.args.second c.handed-whole.result c.handed-whole.ensures c.operand_of-a.result c.operand_of-b.result c.operand_of-a.ensures c.operand_of-b.ensures)

pub returns-in-Equal : goal.returns-in-Equal
returns-in-Equal c =
    let shapes = shapes_of (design_view c.args.design.now) in
    subst (λ (op : Op). IsStepOf shapes c.args.target (Binary op (Name c.args.first) (Name c.args.second)) (Same c.operand_of.result c.operand_of-in-Equal.result)) (sym c.in-Equal.is)
    (same_step shapes c.requires.fitting c.args.target c.args.first c.args.second c.handed-own.result c.operand_of.result c.operand_of-in-Equal.result c.handed-own.ensures c.operand_of.ensures c.operand_of-in-Equal.ensures)
