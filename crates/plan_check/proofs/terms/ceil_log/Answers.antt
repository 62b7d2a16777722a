use Rattle.std.proofs.Common.{◌≡◌, ℕ, sym, subst, arith}
use Rattle.mr_values.specs.Timing.{ceil_log}
use Rattle.mr_values.specs.TimingLaws.{IsLeastLog}
use Rattle.mr_values.proofs.Logarithm.{ceil_log_more, ceil_log_end, ceil_log_least}
use Rattle.plan_check.proofs.terms.ceil_log.Goals as goal

pub halve-preserved : goal.halve-preserved
halve-preserved c = record {
  so_far = ceil_log_more _ _ _ c.halve-test.true c.halve.invariant.so_far;
  small = omega arith;
}

pub returns-clause-least : goal.returns-clause-least
returns-clause-least c =
    let is : c.halve.level ≡ ceil_log c.args.n = ceil_log_end c.halve.level c.halve.left (ceil_log c.args.n) (omega (arith, c.halve-test.false)) c.halve.invariant.so_far in
    subst (λ (k : ℕ). IsLeastLog c.args.n k) (sym is) (ceil_log_least c.args.n)
