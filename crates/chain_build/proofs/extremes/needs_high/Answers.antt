use Rattle.std.proofs.Common.{ℕ, ℤ, FitsSigned, ap, subst, nat_eq, rules}
use Rattle.std.proofs.lemmas.Int.{to_z-of_z}
use mir.Syntax.{w128}
use Rattle.mr_values.specs.Width.{IsLeastWidth}
use Rattle.fir_pieces.proofs.PeakLemmas.{high_bits}
use Rattle.chain_build.proofs.extremes.needs_high.Goals as goal

pub returns : goal.returns
returns c =
    let fits : FitsSigned w128 c.args.range.hi = search rules in
    let own = subst (λ (z : ℤ). IsLeastWidth z z c.least_width.result) (to_z-of_z w128 c.args.range.hi fits) c.least_width.ensures in
    ap (λ (n : ℕ). nat_eq n c.args.width) (high_bits c.args.range.hi c.least_width.result own)
