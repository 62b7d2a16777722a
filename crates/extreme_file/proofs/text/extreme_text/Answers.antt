use Rattle.std.proofs.Common.{◌≡◌, ℤ, FitsSigned, subst, arith, sym}
use Rattle.std.specs.Int.{w128}
use Rattle.std.proofs.lemmas.Grind.{common_steps}
use Rattle.std.proofs.lemmas.Int.{ints}
use Rattle.mr_values.specs.Width.{FitsWidth}
use Rattle.extreme_file.specs.Reading.{ReadsAs}
use Rattle.extreme_file.specs.Text.{extreme_lines}
use Rattle.extreme_file.proofs.Lines.{reads_as}
use Rattle.extreme_file.proofs.text.extreme_text.Goals as goal

fits_of : (z : ℤ) → FitsSigned w128 z → FitsWidth 128 z
fits_of z h = record { low = omega (arith, ints, h.sfits); high = omega (arith, ints, h.sfits) }

pub returns-clause-reads : goal.returns-clause-reads
returns-clause-reads c = λ width narrow fit.
    let lines : c.loop-sample.text.items ≡ extreme_lines c.args.register.now c.args.tick c.args.value c.args.samples.now = grind (arith, common_steps) in
    subst (ReadsAs width c.args.samples.now) (sym lines)
    (reads_as c.args.register.now c.args.tick c.args.value c.args.samples.now width c.requires.room c.ranges.tick.fits (fits_of c.args.value c.ranges.value) narrow fit)
