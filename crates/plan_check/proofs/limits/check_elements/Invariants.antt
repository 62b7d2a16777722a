use Rattle.std.proofs.Common.{◌≡◌, ◌+◌, drop}
use Rattle.plan_check.specs.Limits.{elements_test}
use Rattle.plan_check.proofs.limits.check_elements.Given as goal

abbrev pub invariant-loop-index : goal.invariant-loop-index
invariant-loop-index l = elements_test (l.index + 1) (drop l.index l.elements) ≡ elements_test 1 l.elements
