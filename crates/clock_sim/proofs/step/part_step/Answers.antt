use Rattle.std.proofs.Common.{◌≡◌, ◌+◌, ◌-◌, min, arith}
use Rattle.verilog_tree.specs.Names.{shapes_of}
use Rattle.verilog_tree.specs.View.{design_view}
use Rattle.clock_sim.proofs.StepKinds.{part_step}
use Rattle.clock_sim.proofs.step.part_step.Goals as goal

pub returns : goal.returns
returns c =
    let shapes = shapes_of (design_view c.args.design.now) in
    let taken : c.min-taken.result ≡ min (c.args.high - c.args.low + 1) (shapes.width c.args.target) =
    omega (arith, c.min-taken.ensures, c.saturating_add.ensures, c.saturating_sub.ensures, c.width_in-width.ensures.value, c.width_in-width.ensures.most) in
    part_step shapes c.requires.fitting c.args.target c.args.name c.args.high c.args.low c.width_in.result c.min-taken.result c.mask_of.result c.operand_of.result
    c.width_in.ensures.value c.operand_of.ensures taken c.mask_of.ensures (omega (arith, c.if-low-gt127.false))
