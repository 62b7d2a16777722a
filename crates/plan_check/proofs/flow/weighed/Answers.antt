use Rattle.std.proofs.Common.{◌≡◌, ◌∙◌, ap, arith, ℤ, pos, ◌*ℤ◌}
use Rattle.std.specs.Int.{w128}
use Rattle.std.proofs.lemmas.Int.{ints, to_z-of_z}
use Rattle.plan_check.proofs.flow.weighed.Goals as goal

pub returns : goal.returns
returns c =
    let first : c.scaled.result ≡ pos c.args.rises *ℤ c.args.end =
    c.scaled.ensures.value ∙ ap (λ (z : ℤ). pos c.args.rises *ℤ z) (to_z-of_z w128 _ c.ranges.end) in
    let second : c.scaled-2.result ≡ pos c.args.falls *ℤ c.args.other =
    c.scaled-2.ensures.value ∙ ap (λ (z : ℤ). pos c.args.falls *ℤ z) (to_z-of_z w128 _ c.ranges.other) in
    omega (arith, ints, first, second, c.scaled.ensures.small, c.scaled-2.ensures.small)
