-- The limits of an accepted plan's numbers.
use Rattle.std.proofs.Common.{◌≤◌, arith}
use Rattle.mr_values.specs.declared.plan.Plan.{Plan}
use Rattle.mr_values.specs.Value.{size}
use Rattle.plan_check.specs.Accepted.{IsAccepted}
use Rattle.plan_laws.proofs.Passes.{passes_of}
use Rattle.chain_build.proofs.SoFar.{size_least, size_most}

pub wide_plan : (plan : Plan) → IsAccepted plan → 1 ≤ size plan.width
wide_plan plan accepted = let h = size_least plan.width 2 (passes_of plan accepted).limits.width_low in omega arith

pub narrow_plan : (plan : Plan) → IsAccepted plan → size plan.width ≤ 127
narrow_plan plan accepted = let h = size_most plan.width 64 (passes_of plan accepted).limits.width_high in omega arith

pub some_ticks : (plan : Plan) → IsAccepted plan → 1 ≤ size plan.ticks
some_ticks plan accepted = size_least plan.ticks 1 (passes_of plan accepted).limits.ticks_low
