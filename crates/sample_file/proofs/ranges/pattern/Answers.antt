use Rattle.std.proofs.Common.{◌∙◌, ap, FitsSigned}
use Rattle.std.specs.Prelude.{unsigned_abs}
use Rattle.std.specs.Int.{w128}
use Rattle.std.proofs.lemmas.Int.{to_z-of_z}
use Rattle.sample_file.proofs.RangeSteps.{below-zero, above-zero}
use Rattle.sample_file.proofs.ranges.pattern.Goals as goal

pub returns-then-number-lt0-clause-value : goal.returns-then-number-lt0-clause-value
returns-then-number-lt0-clause-value c =
    let fits : FitsSigned w128 c.args.number = c.ranges.number in
    below-zero c.args.width c.args.number _ _ (simp to_z-of_z at c.if-number-lt0.true) c.requires.small c.span.ensures (c.unsigned_abs.ensures.value ∙ ap unsigned_abs (to_z-of_z w128 _ fits))

pub returns-else-number-lt0-clause-value : goal.returns-else-number-lt0-clause-value
returns-else-number-lt0-clause-value c =
    let fits : FitsSigned w128 c.args.number = c.ranges.number in
    above-zero c.args.width c.args.number _ (simp to_z-of_z at c.if-number-lt0.false) c.requires.small (c.unsigned_abs-else-number-lt0.ensures.value ∙ ap unsigned_abs (to_z-of_z w128 _ fits))
