use Rattle.std.proofs.Common.{arith, ◌+◌}
use Rattle.mr_values.proofs.WidthLemmas.{FitsWidth-more}
use Rattle.rounding_stage.proofs.half_even.wide_for.Goals as goal

pub returns-then-least-shift-clause-low : goal.returns-then-least-shift-clause-low
returns-then-least-shift-clause-low c = FitsWidth-more c.width_of-least.result (c.args.shift + 1) c.args.range.lo (omega arith) c.width_of-least.ensures.holds_low

pub returns-then-least-shift-clause-high : goal.returns-then-least-shift-clause-high
returns-then-least-shift-clause-high c = FitsWidth-more c.width_of-least.result (c.args.shift + 1) c.args.range.hi (omega arith) c.width_of-least.ensures.holds_high
