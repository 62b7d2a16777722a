use Rattle.std.proofs.Common.{◌≡◌, ◌+◌, ◌-◌, ◌≤◌}
use Rattle.impulse_phase.specs.Summed.{with_part}
use Rattle.impulse_phase.proofs.summed.add_part.Given as goal

abbrev pub invariant-loop-left : goal.invariant-loop-left
invariant-loop-left l = record {
  sum : l.all.items ≡ with_part l.table (l.part.back + l.left) l.part.rounds (l.part.count - l.left) l.fn.sums.items;
  within : l.left ≤ l.part.count;
}

abbrev pub decreases-loop-left : goal.decreases-loop-left
decreases-loop-left l = l.left
