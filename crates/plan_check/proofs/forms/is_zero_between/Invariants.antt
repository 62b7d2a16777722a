use Rattle.std.proofs.Common.{◌≡◌, drop}
use Rattle.plan_check.specs.Forms.{is_zero_between}
use Rattle.plan_check.proofs.forms.is_zero_between.Given as goal

abbrev pub invariant-loop-index : goal.invariant-loop-index
invariant-loop-index l = is_zero_between l.centre l.index (drop l.index l.taps) ≡ is_zero_between l.centre 0 l.taps
