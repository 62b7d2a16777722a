use Rattle.std.proofs.Common.{◌≡◌, ◌+◌, ◌≤◌, ◌-ℤ◌, pos, length, drop}
use Rattle.impulse_phase.specs.Response.{combined}
use Rattle.impulse_phase.specs.Reading.{responses_of}
use Rattle.impulse_phase.proofs.filtered.filter_row.Given as goal

abbrev pub invariant-loop-left : goal.invariant-loop-left
invariant-loop-left l = record {
  sum : l.weights.items ≡ combined (responses_of l.table (pos l.index)).newest (drop l.left l.taps) (λ i. responses_of l.table (pos l.index -ℤ pos (l.left + i)));
  within : l.left ≤ length l.taps;
}

abbrev pub decreases-loop-left : goal.decreases-loop-left
decreases-loop-left l = l.left
