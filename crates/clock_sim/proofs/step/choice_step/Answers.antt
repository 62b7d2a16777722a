use Rattle.verilog_tree.specs.Names.{shapes_of}
use Rattle.verilog_tree.specs.View.{design_view}
use Rattle.clock_sim.proofs.StepKinds.{choice_step}
use Rattle.clock_sim.proofs.step.choice_step.Goals as goal

pub returns : goal.returns
returns c =
    choice_step (shapes_of (design_view c.args.design.now)) c.requires.fitting c.args.target c.width_in-width.result c.width_in-width.ensures.value c.mask_of.result c.mask_of.ensures
    c.args.first c.args.second c.handed-whole.result c.handed-whole.ensures c.operand_of.result c.operand_of-2.result c.operand_of.ensures c.operand_of-2.ensures c.args.condition
