use Rattle.std.proofs.Common.{◌≡◌, ◌+◌, ◌^◌, ◌≤◌, length}
use Rattle.std.specs.Prelude.{All}
use Rattle.mr_values.specs.Value.{IsWithinLimits}
use Rattle.mr_values.specs.Timing.{groups}
use Rattle.plan_check.specs.Groups.{first_failing}
use Rattle.plan_check.specs.Amounts.{bound_test, error_after, error_after_all, no_error}
use Rattle.plan_check.specs.Views.{as_error}
use Rattle.plan_check.specs.Accepted.{errors_test}
use Rattle.plan_check.proofs.amounts.check_errors.Given as goal

abbrev pub invariant-walk : goal.invariant-walk
invariant-walk l = record {
  so_far : first_failing bound_test error_after l.first (as_error l.error) (groups l.rest) ≡ errors_test (groups l.elements);
  all : error_after_all (groups l.rest) (as_error l.error) ≡ error_after_all (groups l.elements) no_error;
  limits : All IsWithinLimits l.rest;
  count : l.first + length l.rest ≡ 1 + length l.elements;
  small : l.error.bound ≤ 2 ^ 125;
  shift : l.error.shift ≤ 126;
}

abbrev pub decreases-walk : goal.decreases-walk
decreases-walk l = length l.rest
