use Rattle.std.proofs.Common.{ℕ, ◌+◌, ◌≤◌, ap, subst}
use Rattle.folded_fir.proofs.OperandLemmas.{IsScaled-shl}
use Rattle.folded_fir.proofs.operands.scaled.Goals as goal

pub returns-clause-ok : goal.returns-clause-ok
returns-clause-ok c = IsScaled-shl c.requires.data_group c.requires.within (subst (λ (n : ℕ). 1 ≤ n) c.width.ensures.width c.width.ensures.wide.0) (ap (λ (n : ℕ). n + c.args.by) c.width.ensures.width) c.in_ok-to.ensures.ok

pub returns-clause-extends : goal.returns-clause-extends
returns-clause-extends c = (returns-clause-ok c).grows.extends
