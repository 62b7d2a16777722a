use Rattle.std.proofs.Common.{ℤ, ◌^◌, subst}
use Rattle.mr_values.specs.Width.{IsLeastWidth, floor_quotient}
use Rattle.net_graph.proofs.NetLemmas.{Extends-adds}
use Rattle.rounding_stage.proofs.MapLemmas.{IsMap-floor}
use Rattle.rounding_stage.proofs.rounding.floor_node.Goals as goal

pub returns-clause-ok : goal.returns-clause-ok
returns-clause-ok c =
    let range = c.floor_range-rounded.result in
    let low : IsLeastWidth (floor_quotient c.args.range.lo (2 ^ c.args.shift)) range.hi c.width_of-width.result = subst (λ (n : ℤ). IsLeastWidth n range.hi c.width_of-width.result) c.floor_range-rounded.ensures.lo c.width_of-width.ensures in
    IsMap-floor c.requires.data_group c.in_ok-to.ensures.ok
    (subst (λ (n : ℤ). IsLeastWidth (floor_quotient c.args.range.lo (2 ^ c.args.shift)) n c.width_of-width.result) c.floor_range-rounded.ensures.hi low)

pub returns-clause-extends : goal.returns-clause-extends
returns-clause-extends c = Extends-adds c.in_ok-to.ensures.ok
