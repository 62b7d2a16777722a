use Rattle.std.proofs.Common.{map}
use Rattle.impulse_phase.specs.Response.{through_filter}
use Rattle.impulse_phase.specs.Reading.{as_response, responses_of}
use Rattle.impulse_phase.proofs.Tables.{AreRows}
use Rattle.impulse_phase.proofs.table.Response.through_filter.Given as goal

abbrev pub invariant-loop-index : goal.invariant-loop-index
invariant-loop-index l = AreRows (through_filter l.taps (responses_of l.self)) l.index (map as_response l.rows.items)
