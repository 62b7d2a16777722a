use Rattle.std.proofs.Common.{rules, ◌≡◌, ℕ, ◌+◌, ◌*◌, ◌^◌, ◌<◌, ◌≤◌, length, sym, subst, arith}
use Rattle.std.proofs.Math.Nat.{mul-le-mul_left}
use Rattle.impulse_phase.specs.Reading.{rows_of}
use Rattle.width_extreme.proofs.prefix.PrefixRanges.needed.Goals as goal

pub returns-clause-near : goal.returns-clause-near
returns-clause-near c =
    let classes = length (rows_of c.args.self.now.table) in
    let rounds = c.from-rounds.result + 1 in
    let same : c.from.result ≡ classes = search rules in
    let few : c.from-rounds.result < 2 ^ 64 = search rules in
    let product : c.from.result * rounds ≤ classes * 2 ^ 64 = subst (λ (n : ℕ). n * rounds ≤ classes * 2 ^ 64) (sym same) (mul-le-mul_left classes (omega (arith, few))) in
    omega (arith, product, c.requires)
