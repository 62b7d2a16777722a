use Rattle.std.proofs.Common.{◌≡◌, ◌+◌, length}
use Rattle.std.specs.Prelude.{All}
use Rattle.mr_values.specs.Value.{IsWithinLimits}
use Rattle.mr_values.specs.Timing.{groups}
use Rattle.plan_check.specs.Groups.{first_failing}
use Rattle.plan_check.specs.Forms.{fit_test, flow_after}
use Rattle.plan_check.specs.Views.{as_flow}
use Rattle.plan_check.specs.Accepted.{fits_test}
use Rattle.plan_check.proofs.Narrow.{IsNarrow, RatesFit}
use Rattle.plan_check.proofs.forms.check_fits.Given as goal

abbrev pub invariant-walk : goal.invariant-walk
invariant-walk l = record {
  so_far : first_failing fit_test flow_after l.first (as_flow l.flow) (groups l.rest) ≡ fits_test l.width l.ticks (groups l.elements);
  limits : All IsWithinLimits l.rest;
  count : l.first + length l.rest ≡ 1 + length l.elements;
  rates : RatesFit l.flow.period (groups l.rest);
  narrow : IsNarrow (groups l.rest) l.flow.low l.flow.high;
}

abbrev pub decreases-walk : goal.decreases-walk
decreases-walk l = length l.rest
