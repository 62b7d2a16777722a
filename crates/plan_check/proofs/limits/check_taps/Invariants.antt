use Rattle.std.proofs.Common.{◌≡◌, drop}
use Rattle.plan_check.specs.Limits.{taps_test}
use Rattle.plan_check.proofs.limits.check_taps.Given as goal

abbrev pub invariant-loop-tap : goal.invariant-loop-tap
invariant-loop-tap l = taps_test l.number (drop l.tap-index l.taps) ≡ taps_test l.number l.taps
