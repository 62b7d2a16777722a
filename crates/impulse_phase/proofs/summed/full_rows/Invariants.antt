use Rattle.std.proofs.Common.{map}
use Rattle.running_sums.specs.Rows.{full}
use Rattle.impulse_phase.specs.Reading.{as_response, responses_of}
use Rattle.impulse_phase.proofs.Tables.{AreRows}
use Rattle.impulse_phase.proofs.summed.full_rows.Given as goal

abbrev pub invariant-loop-index : goal.invariant-loop-index
invariant-loop-index l = AreRows (full (responses_of l.table)) l.index (map as_response l.rows.items)
