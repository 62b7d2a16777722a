use Rattle.std.proofs.Common.{◌∙◌, rules, FitsSigned}
use Rattle.std.specs.Int.{w128}
use Rattle.std.proofs.lemmas.Int.{to_z-of_z}
use Rattle.mr_values.specs.Width.{IsLeastWidth}
use Rattle.mr_values.proofs.LeastBits.{wide_least}
use Rattle.plan_check.proofs.forms.width_of.Goals as goal

pub returns-clause-value : goal.returns-clause-value
returns-clause-value c =
    let low : FitsSigned w128 c.args.flow.low = search rules in
    let high : FitsSigned w128 c.args.flow.high = search rules in
    let least : IsLeastWidth c.args.flow.low c.args.flow.high c.least_width.result = simp to_z-of_z at c.least_width.ensures in
    c.from.ensures ∙ wide_least _ _ _ low high least
