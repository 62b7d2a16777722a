use Rattle.std.proofs.Common.{rules, ◌≡◌, ℕ, ◌/◌, ◌^◌, ◌<◌, length, sym, subst}
use Rattle.impulse_phase.specs.Reading.{rows_of}
use Rattle.width_extreme.proofs.Indices.{rounds-few}
use Rattle.width_extreme.proofs.prefix.PrefixRanges.rounds_to.Goals as goal

pub returns-clause-few : goal.returns-clause-few
returns-clause-few c =
    let table = c.args.self.now.table in
    let same : c.from.result ≡ length (rows_of table) = search rules in
    subst (λ (n : ℕ). c.args.index / n < 2 ^ 67) (sym same) (rounds-few table c.args.index c.requires.near)
