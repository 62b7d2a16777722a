use Rattle.std.proofs.Common.{◌≡◌, drop}
use Rattle.fir_pieces.specs.Placed.{all_minus}
use Rattle.fir_pieces.proofs.forms.all_minus.Given as goal

-- the terms that remain decide
abbrev pub invariant-loop-term : goal.invariant-loop-term
invariant-loop-term l = all_minus (drop l.term-index l.terms) ≡ all_minus l.terms
