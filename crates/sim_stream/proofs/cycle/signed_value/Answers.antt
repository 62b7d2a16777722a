use Rattle.std.proofs.Common.{◌≡◌, ◌∙◌, ◌-◌, pos, to_z, arith}
use Rattle.std.specs.Int.{w128}
use Rattle.std.proofs.lemmas.Int.{to_z-of_z}
use Rattle.std.proofs.lemmas.Nat.{one_shl}
use Rattle.sim_stream.proofs.SignSteps.{number-fits, value-unsigned, value-low}
use Rattle.sim_stream.proofs.cycle.signed_value.Goals as goal
use Rattle.sim_stream.proofs.cycle.signed_value.Goals.{then-not-shape-via-then-not-shape, then-not-shape-via-else-not-shape+then-bits-shape}

pub overflow_cast-result : goal.overflow_cast-result
overflow_cast-result c = number-fits c.args.shape.width c.args.bits c.requires.width.most c.requires.small

pub returns-then-not-shape : goal.returns-then-not-shape
returns-then-not-shape c =
    let number : to_z w128 c.args.bits ≡ pos c.args.bits = to_z-of_z w128 (pos c.args.bits) (number-fits c.args.shape.width c.args.bits c.requires.width.most c.requires.small) in
    number ∙ elim c.then-not-shape.branch [
      | then-not-shape-via-then-not-shape w ↦ value-unsigned c.args.shape.signed c.args.shape.width c.args.bits w.if-not-shape.true
      | then-not-shape-via-else-not-shape+then-bits-shape w ↦
          value-low c.args.shape.signed c.args.shape.width c.args.bits (omega (arith, w.if-bits-shape.true, one_shl (c.args.shape.width - 1) 128 (omega (arith, c.requires.width.most))))
    ]
