use Rattle.std.proofs.Common.{arith}
use Rattle.std.proofs.lemmas.Int.{ints, to_z-of_z}
use Rattle.mr_values.proofs.HalfEvenLemmas.{floor_law}
use Rattle.mr_values.proofs.rounding.rounded_to_even.Goals as goal

pub returns : goal.returns
returns c = grind (arith, ints, to_z-of_z, floor_law)
