use Rattle.std.proofs.Common.{◌≡◌, ◌+◌, ◌*◌, ◌≤◌, length}
use Rattle.std.specs.Prelude.{All}
use Rattle.mr_values.specs.Value.{IsWithinLimits}
use Rattle.mr_values.specs.Timing.{groups}
use Rattle.plan_check.specs.Amounts.{shifts_of}
use Rattle.plan_check.proofs.amounts.total_shift.Given as goal

abbrev pub invariant-walk : goal.invariant-walk
invariant-walk l = record {
  so_far : l.total + shifts_of (groups l.rest) ≡ shifts_of (groups l.elements);
  limits : All IsWithinLimits l.rest;
  small : l.total + 64 * length l.rest ≤ 2048;
}

abbrev pub decreases-walk : goal.decreases-walk
decreases-walk l = length l.rest
