use Rattle.std.proofs.Common.{◌≡◌, rules, FitsSigned}
use Rattle.std.specs.Int.{w64, w128}
use Rattle.std.proofs.lemmas.Int.{to_z-of_z}
use Rattle.mr_values.specs.Rounding.{clip_value}
use Rattle.chain_values.proofs.RoundSteps.{clip_fits}
use Rattle.chain_values.proofs.rounding.nearest.Goals as goal

pub overflow_cast-result : goal.overflow_cast-result
overflow_cast-result c =
    let value_fits : FitsSigned w128 c.from.result = search rules in
    let wide : FitsSigned w128 c.clipped.result = search rules in
    let is : c.clipped.result ≡ clip_value c.args.bits c.from.result = simp to_z-of_z at c.clipped.ensures in
    let same : c.from.result ≡ c.args.value = search rules in
    rw (to_z-of_z w128 c.clipped.result wide, is, same) (clip_fits c.args.bits c.args.value c.ranges.value)

pub returns : goal.returns
returns c =
    let value_fits : FitsSigned w128 c.from.result = search rules in
    let wide : FitsSigned w128 c.clipped.result = search rules in
    let is : c.clipped.result ≡ clip_value c.args.bits c.from.result = simp to_z-of_z at c.clipped.ensures in
    let same : c.from.result ≡ c.args.value = search rules in
    rw (to_z-of_z w128 c.clipped.result wide, is, same) (to_z-of_z w64 (clip_value c.args.bits c.args.value) (clip_fits c.args.bits c.args.value c.ranges.value))
