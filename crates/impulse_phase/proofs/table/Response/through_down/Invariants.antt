use Rattle.std.proofs.Common.{map}
use Rattle.impulse_phase.specs.Response.{through_down}
use Rattle.impulse_phase.specs.Reading.{as_response, responses_of}
use Rattle.impulse_phase.proofs.Tables.{AreRows}
use Rattle.impulse_phase.proofs.table.Response.through_down.Given as goal

abbrev pub invariant-loop-index : goal.invariant-loop-index
invariant-loop-index l = AreRows (through_down l.factor (responses_of l.self)) l.index (map as_response l.rows.items)
