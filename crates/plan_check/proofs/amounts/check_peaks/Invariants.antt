use Rattle.std.proofs.Common.{◌≡◌, ◌+◌, ◌^◌, ◌≤◌, length}
use Rattle.std.specs.Prelude.{All}
use Rattle.mr_values.specs.Value.{IsWithinLimits}
use Rattle.mr_values.specs.Timing.{groups}
use Rattle.plan_check.specs.Groups.{first_failing}
use Rattle.plan_check.specs.Amounts.{peak_test, peak_after}
use Rattle.plan_check.specs.Accepted.{peaks_test}
use Rattle.plan_check.proofs.amounts.check_peaks.Given as goal

abbrev pub invariant-walk : goal.invariant-walk
invariant-walk l = record {
  so_far : first_failing peak_test peak_after l.first l.peak (groups l.rest) ≡ peaks_test l.width (groups l.elements);
  limits : All IsWithinLimits l.rest;
  count : l.first + length l.rest ≡ 1 + length l.elements;
  small : l.peak ≤ 2 ^ 125;
}

abbrev pub decreases-walk : goal.decreases-walk
decreases-walk l = length l.rest
