use Rattle.std.proofs.Common.{◌≡◌, ◌+◌, ◌-◌, ◌^◌, ◌≤◌, length}
use Rattle.std.specs.Prelude.{All}
use Rattle.mr_values.specs.Value.{IsWithinLimits}
use Rattle.mr_values.specs.Timing.{groups, period_after}
use Rattle.plan_check.specs.Groups.{first_failing}
use Rattle.plan_check.specs.Amounts.{rate_test}
use Rattle.plan_check.specs.Accepted.{rates_test}
use Rattle.plan_check.proofs.rates.check_rates.Given as goal

abbrev pub invariant-walk : goal.invariant-walk
invariant-walk l = record {
  so_far : first_failing rate_test period_after l.first l.period (groups l.rest) ≡ rates_test l.ticks (groups l.elements);
  limits : All IsWithinLimits l.rest;
  count : l.first + length l.rest ≡ 1 + length l.elements;
  low : 1 ≤ l.first;
  long : l.period ≤ 2 ^ 31 - 1;
}

abbrev pub decreases-walk : goal.decreases-walk
decreases-walk l = length l.rest
