use Rattle.mr_values.specs.Sequence.{ones}
use Rattle.impulse_phase.specs.Response.{through_filters}
use Rattle.impulse_phase.specs.Reading.{Passes}
use Rattle.impulse_phase.proofs.table.Response.through_sums.Given as goal

abbrev pub invariant-loop-stage : goal.invariant-loop-stage
invariant-loop-stage l = Passes (through_filters l.stage (ones l.fn.width)) (λ cycle. cycle) l.fn.self l.response
