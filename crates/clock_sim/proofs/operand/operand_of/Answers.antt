use Rattle.std.proofs.Common.{◌-◌, ◌^◌, ◌∙◌, ℕ, ap, arith, refl}
use Rattle.std.specs.Prelude.{if◌then◌else◌}
use Rattle.clock_sim.proofs.operand.operand_of.Goals as goal

pub fill_of-requires-clause-order : goal.fill_of-requires-clause-order
fill_of-requires-clause-order c = omega (arith, c.requires.wide, c.width_in-width.ensures.value)

pub returns : goal.returns
returns c = record {
  name = refl;
  half = c.half_of.ensures ∙ ap (λ (m : ℕ). 2 ^ (m - 1)) c.width_in-width.ensures.value;
  fill = c.fill_of.ensures ∙ ap (λ (m : ℕ). if c.args.context.signed then 2 ^ c.args.context.length - 2 ^ m else 0) c.width_in-width.ensures.value;
}
