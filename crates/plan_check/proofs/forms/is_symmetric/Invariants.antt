use Rattle.std.proofs.Common.{◌≡◌}
use Rattle.plan_check.specs.Forms.{is_symmetric}
use Rattle.plan_check.proofs.Mirrors.{SymmetricFrom}
use Rattle.plan_check.proofs.forms.is_symmetric.Given as goal

abbrev pub invariant-loop-index : goal.invariant-loop-index
invariant-loop-index l = SymmetricFrom l.taps l.index ≡ is_symmetric l.taps
