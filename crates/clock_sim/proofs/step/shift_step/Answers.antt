use Rattle.std.proofs.Common.{◌-◌, ◌<◌, ◌∙◌, ℕ, ap, arith, inl, inr, sym, subst}
use Rattle.verilog_tree.specs.declared.tree.ShiftOp.{ShiftOp}
use Rattle.verilog_tree.specs.Tree.{Name, Shift}
use Rattle.verilog_tree.specs.Names.{shapes_of}
use Rattle.verilog_tree.specs.View.{design_view}
use Rattle.clock_sim.specs.declared.step.Step.TheVariants.{Left, Right}
use Rattle.clock_sim.specs.Steps.{IsStepOf}
use Rattle.clock_sim.proofs.StepKinds.{left_step, arith_left_step, right_step, arith_right_step}
use Rattle.clock_sim.proofs.step.shift_step.Goals as goal

pub returns-in-Left : goal.returns-in-Left
returns-in-Left c =
    let shapes = shapes_of (design_view c.args.design.now) in
    let near : c.args.amount < 128 = omega (arith, c.if-amount-gt127.false) in
    let flat = Left c.operand_of-from.result c.args.amount c.mask_of-mask.result in
    elim c.in-Left.is [
      | inl is ↦
          subst (λ (op : ShiftOp). IsStepOf shapes c.args.target (Shift op (Name c.args.name) c.args.amount) flat) (sym is)
          (left_step shapes c.requires.fitting c.args.target c.width_in-width.result c.width_in-width.ensures.value c.mask_of-mask.result c.mask_of-mask.ensures
          c.args.name c.handed-whole.result c.handed-whole.ensures c.operand_of-from.result c.operand_of-from.ensures c.args.amount near)
      | inr is ↦
          subst (λ (op : ShiftOp). IsStepOf shapes c.args.target (Shift op (Name c.args.name) c.args.amount) flat) (sym is)
          (arith_left_step shapes c.requires.fitting c.args.target c.width_in-width.result c.width_in-width.ensures.value c.mask_of-mask.result c.mask_of-mask.ensures
          c.args.name c.handed-whole.result c.handed-whole.ensures c.operand_of-from.result c.operand_of-from.ensures c.args.amount near)
    ]

pub returns-in-Right : goal.returns-in-Right
returns-in-Right c =
    let shapes = shapes_of (design_view c.args.design.now) in
    let near : c.args.amount < 128 = omega (arith, c.if-amount-gt127.false) in
    subst (λ (op : ShiftOp). IsStepOf shapes c.args.target (Shift op (Name c.args.name) c.args.amount) (Right c.operand_of-from.result c.args.amount c.half_of-half.result 0 c.mask_of-mask.result)) (sym c.in-Right.is)
    (right_step shapes c.requires.fitting c.args.target c.width_in-width.result c.width_in-width.ensures.value c.mask_of-mask.result c.mask_of-mask.ensures
    c.args.name c.handed-whole.result c.handed-whole.ensures c.operand_of-from.result c.operand_of-from.ensures c.args.amount near c.half_of-half.result)

pub returns-in-ArithRight : goal.returns-in-ArithRight
returns-in-ArithRight c =
    let shapes = shapes_of (design_view c.args.design.now) in
    let near : c.args.amount < 128 = omega (arith, c.if-amount-gt127.false) in
    let flat = Right c.operand_of-from.result c.args.amount c.half_of-half.result c.fill_of.result c.mask_of-mask.result in
    subst (λ (op : ShiftOp). IsStepOf shapes c.args.target (Shift op (Name c.args.name) c.args.amount) flat) (sym c.in-ArithRight.is)
    (arith_right_step shapes c.requires.fitting c.args.target c.width_in-width.result c.width_in-width.ensures.value c.mask_of-mask.result c.mask_of-mask.ensures
    c.args.name c.handed-whole.result c.handed-whole.ensures c.operand_of-from.result c.operand_of-from.ensures c.args.amount near
    c.half_of-half.result c.fill_of.result c.saturating_sub-kept.result c.half_of-half.ensures
    (c.saturating_sub-kept.ensures ∙ ap (λ (n : ℕ). c.handed-whole.result.length - n) c.from.ensures) c.fill_of.ensures)
