use Rattle.std.proofs.Common.{◌≡◌, ◌≤◌, map, pos, ◌-ℤ◌}
use Rattle.mr_values.specs.Sequence.{ones}
use Rattle.running_sums.specs.Rows.{full, summed_row}
use Rattle.impulse_phase.specs.Response.{through_filter}
use Rattle.impulse_phase.specs.Reading.{as_response, responses_of}
use Rattle.impulse_phase.proofs.Tables.{AreRows}
use Rattle.impulse_phase.proofs.summed.through_sum.Given as goal

abbrev pub invariant-loop-index : goal.invariant-loop-index
invariant-loop-index l = record {
  rows : AreRows (through_filter (ones l.width) (responses_of l.table)) l.index (map as_response l.rows.items);
  cover : l.cover.items ≡ (summed_row l.width (full (responses_of l.table)) (pos l.index -ℤ pos 1)).weights;
  later : 1 ≤ l.index;
}
