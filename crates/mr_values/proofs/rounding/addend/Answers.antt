use Rattle.std.proofs.Common.{arith}
use Rattle.std.proofs.lemmas.Int.{ints, to_z-of_z}
use Rattle.std.proofs.lemmas.Nat.{pow_pos}
use Rattle.mr_values.proofs.HalfEvenLemmas.{half_small}
use Rattle.mr_values.proofs.rounding.addend.Goals as goal

pub returns : goal.returns
returns c = let half = half_small c.args.shift c.requires.greatest in grind (arith, ints, to_z-of_z, pow_pos)
