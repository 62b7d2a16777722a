use Rattle.std.proofs.Common.{◌≡◌}
use Rattle.fir_pieces.specs.Reading.{ages}
use Rattle.fir_pieces.proofs.reading.ages.Given as goal

-- what is done
abbrev pub invariant-loop-age : goal.invariant-loop-age
invariant-loop-age l = l.all.items ≡ ages l.age
