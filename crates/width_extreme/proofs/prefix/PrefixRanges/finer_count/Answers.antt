use Rattle.std.proofs.Common.{◌/◌, ◌<◌, ℕ, ap, arith}
use Rattle.impulse_phase.proofs.Prefix.{common-positive}
use Rattle.width_extreme.proofs.Lawful.{rows-some}
use Rattle.width_extreme.proofs.prefix.PrefixRanges.finer_count.Goals as goal

pub returns-clause-some : goal.returns-clause-some
returns-clause-some c =
    let classes = c.classes-classes.result in
    let some : 0 < classes = omega (arith, c.classes-classes.ensures, rows-some c.args.self.now.table) in
    omega (arith, common-positive classes c.from.result some, ap (λ (n : ℕ). classes / n) c.gcd.ensures.value)
