use Rattle.std.proofs.Common.{◌≡◌, ℕ, sym, subst}
use Rattle.std.specs.Int.{IsGcd}
use Rattle.plan_check.specs.Costs.{gcd}
use Rattle.plan_check.proofs.Divisors.{gcd_end, IsGcd-gcd}
use Rattle.plan_check.proofs.euclid.gcd.Goals as goal

pub returns-clause-greatest : goal.returns-clause-greatest
returns-clause-greatest c =
    let a = c.args.a in
    let b = c.args.b in
    let is : c.divide.greater ≡ gcd a b = gcd_end c.divide.greater c.divide.less (gcd a b) c.divide-test.false c.divide.invariant.so_far in
    subst (λ (g : ℕ). IsGcd a b g) (sym is) (IsGcd-gcd a b)
