use Rattle.std.proofs.Common.{◌≡◌, ◌∙◌, sym, Bool, true, false}
use Rattle.std.specs.Prelude.{◌||◌}
use Rattle.plan_check.specs.Forms.{is_symmetric, is_antisymmetric}
use Rattle.symmetric_fir.proofs.MirroredLemmas.{symmetric_mirrored, antisymmetric_mirrored}
use Rattle.chain_build.proofs.mirrored.add_mirrored.Goals as goal

second : (a b : Bool) → (a || b) ≡ true → a ≡ false → b ≡ true
second true b e f = absurd (cc)
second false b e f = e

pub add_mirror-requires-clause-mirrored : goal.add_mirror-requires-clause-mirrored
add_mirror-requires-clause-mirrored g c = symmetric_mirrored c.args.taps.now (sym c.is_symmetric.ensures ∙ c.if-is_symmetric.true)

pub add_mirror-requires-else-is_symmetric-clause-mirrored : goal.add_mirror-requires-else-is_symmetric-clause-mirrored
add_mirror-requires-else-is_symmetric-clause-mirrored g c =
    antisymmetric_mirrored c.args.taps.now (second (is_symmetric c.args.taps.now) (is_antisymmetric c.args.taps.now) c.requires.mirrored (sym c.is_symmetric.ensures ∙ c.if-is_symmetric.false))
