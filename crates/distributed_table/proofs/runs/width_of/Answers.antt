use Rattle.std.proofs.Common.{rules, ◌≡◌, subst, ℤ}
use Rattle.std.proofs.lemmas.Int.{to_z-of_z}
use mir.Syntax.{w128}
use mir.Val.{SFits}
use Rattle.mr_values.specs.Timing.{low_end}
use Rattle.mr_values.specs.Width.{IsLeastWidth}
use Rattle.distributed_table.proofs.EndLemmas.{width_small}
use Rattle.distributed_table.proofs.runs.width_of.Goals as goal

pub returns-clause-least : goal.returns-clause-least
returns-clause-least c =
    let lo : SFits w128 c.args.values.lo = search rules in
    let hi : SFits w128 c.args.values.hi = search rules in
    let a : SFits w128 c.least_sum.result = search rules in
    let b : SFits w128 c.least_sum-2.result = search rules in
    let low : c.least_sum.result ≡ low_end c.args.taps.now c.args.values.lo c.args.values.hi = simp to_z-of_z at c.least_sum.ensures in
    let high : c.least_sum-2.result ≡ low_end c.args.taps.now c.args.values.hi c.args.values.lo = simp to_z-of_z at c.least_sum-2.ensures in
    let least : IsLeastWidth c.least_sum.result c.least_sum-2.result c.least_width.result = simp to_z-of_z at c.least_width.ensures in
    subst (λ (z : ℤ). IsLeastWidth (low_end c.args.taps.now c.args.values.lo c.args.values.hi) z c.least_width.result) high (subst (λ (z : ℤ). IsLeastWidth z c.least_sum-2.result c.least_width.result) low least)

pub returns-clause-most : goal.returns-clause-most
returns-clause-most c = width_small c.args.taps.now c.args.values.lo c.args.values.hi c.least_width.result c.requires.small (returns-clause-least c)
