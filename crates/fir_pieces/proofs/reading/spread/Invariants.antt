use Rattle.std.proofs.Common.{◌≡◌, ◌++◌, drop}
use Rattle.fir_pieces.specs.Reading.{spread}
use Rattle.fir_pieces.proofs.reading.spread.Given as goal

-- what is done, with what remains, is the whole
abbrev pub invariant-loop-term : goal.invariant-loop-term
invariant-loop-term l = l.all.items ++ spread l.readings (drop l.term-index l.terms) ≡ spread l.readings l.terms
