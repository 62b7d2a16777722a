use Rattle.std.proofs.Common.{◌≡◌}
use Rattle.plan_check.specs.Forms.{is_antisymmetric}
use Rattle.plan_check.proofs.Mirrors.{AntisymmetricFrom}
use Rattle.plan_check.proofs.forms.is_antisymmetric.Given as goal

abbrev pub invariant-loop-index : goal.invariant-loop-index
invariant-loop-index l = AntisymmetricFrom l.taps l.index ≡ is_antisymmetric l.taps
