use Rattle.std.proofs.Common.{◌≡◌, ◌≤◌}
use Rattle.plan_check.specs.Costs.{gcd}
use Rattle.plan_check.proofs.euclid.gcd.Given as goal

abbrev pub invariant-divide : goal.invariant-divide
invariant-divide l = record {
  so_far : gcd l.greater l.less ≡ gcd l.a l.b;
  some : 1 ≤ l.a → 1 ≤ l.greater;
}

abbrev pub decreases-divide : goal.decreases-divide
decreases-divide l = l.less
