-- What it says of a plan that it is accepted: each test passes.
use Rattle.std.proofs.Common.{◌≡◌, None}
use Rattle.mr_values.specs.declared.plan.Plan.{Plan}
use Rattle.mr_values.specs.Value.{size}
use Rattle.mr_values.specs.Timing.{groups}
use Rattle.plan_check.specs.Limits.{HasLimits}
use Rattle.plan_check.specs.Accepted.{rates_test, peaks_test, bounds_test, fits_test, costs_test, IsAccepted}
use Rattle.plan_check.proofs.Options.{none_of}
use Rattle.plan_check.proofs.LimitFacts.{has_limits}

pub record Passes (plan : Plan) : Type 0 where
  pub limits : HasLimits plan
  pub rates : rates_test (size plan.ticks) (groups plan.elements) ≡ None
  pub peaks : peaks_test (size plan.width) (groups plan.elements) ≡ None
  pub bounds : bounds_test plan.elements ≡ None
  pub fits : fits_test (size plan.width) (size plan.ticks) (groups plan.elements) ≡ None
  pub costs : costs_test (size plan.width) (size plan.ticks) (groups plan.elements) ≡ None

pub passes_of : (plan : Plan) → IsAccepted plan → Passes plan
passes_of plan accepted =
    let first = none_of _ _ accepted.passes in
    let second = none_of _ _ first.1 in
    let third = none_of _ _ second.1 in
    let fourth = none_of _ _ third.1 in
    let last = none_of _ _ fourth.1 in
    record { limits = has_limits plan first.0; rates = second.0; peaks = third.0; bounds = fourth.0; fits = last.0; costs = last.1 }
