use Rattle.std.proofs.Common.{◌≡◌, ◌∙◌, length, ap, to_z, of_z, ℤ}
use Rattle.std.specs.Int.{w64}
use Rattle.std.proofs.lemmas.Int.{to_z-of_z}
use Rattle.mr_values.specs.Digit.{digit_count}
use Rattle.mr_values.proofs.NonAdjacent.{length-non_adjacent}
use Rattle.mr_values.proofs.digit.weight.Goals as goal

pub returns-clause-value : goal.returns-clause-value
returns-clause-value c =
    let passed : ℤ = to_z w64 (of_z w64 c.args.c) in
    let argument : passed ≡ c.args.c = to_z-of_z w64 c.args.c c.ranges.c in
    ap length (c.as_slice.ensures.value ∙ c.digits-digits.ensures.value) ∙ length-non_adjacent passed ∙ ap digit_count argument
