-- The weights of a sum over a stream.
use Rattle.std.specs.Prelude.{List, ℤ}
use Rattle.stage_law.specs.Rising.{factors_from}
use Rattle.stage_law.specs.declared.weights.WeightedSum.{WeightedSum}

-- the weight of the value itself, of the one before it and so on: 0 at the values that the sum stands behind
abbrev pub weights_of : WeightedSum → List ℤ
weights_of sum = factors_from 0 sum.weights.items
