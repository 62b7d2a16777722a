use Rattle.std.proofs.Common.{◌≡◌, rules, FitsSigned}
use Rattle.std.specs.Int.{w64, w128}
use Rattle.std.proofs.lemmas.Int.{to_z-of_z}
use Rattle.mr_values.specs.Rounding.{half_even}
use Rattle.chain_values.proofs.RoundSteps.{half_even_fits}
use Rattle.chain_values.proofs.rounding.to_even.Goals as goal

pub overflow_cast-result : goal.overflow_cast-result
overflow_cast-result c =
    let value_fits : FitsSigned w128 c.from.result = search rules in
    let wide : FitsSigned w128 c.rounded_to_even.result = search rules in
    let is : c.rounded_to_even.result ≡ half_even c.args.shift c.from.result = simp to_z-of_z at c.rounded_to_even.ensures in
    let same : c.from.result ≡ c.args.value = search rules in
    rw (to_z-of_z w128 c.rounded_to_even.result wide, is, same) (half_even_fits c.args.shift c.args.value c.requires.some c.requires.few c.ranges.value)

pub returns : goal.returns
returns c =
    let value_fits : FitsSigned w128 c.from.result = search rules in
    let wide : FitsSigned w128 c.rounded_to_even.result = search rules in
    let is : c.rounded_to_even.result ≡ half_even c.args.shift c.from.result = simp to_z-of_z at c.rounded_to_even.ensures in
    let same : c.from.result ≡ c.args.value = search rules in
    rw (to_z-of_z w128 c.rounded_to_even.result wide, is, same) (to_z-of_z w64 (half_even c.args.shift c.args.value) (half_even_fits c.args.shift c.args.value c.requires.some c.requires.few c.ranges.value))
