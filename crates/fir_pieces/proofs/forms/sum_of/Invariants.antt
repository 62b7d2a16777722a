use Rattle.std.proofs.Common.{◌≡◌, ◌+◌, ◌≤◌, ◌++◌, drop, length, replicate, pos}
use Rattle.stage_law.specs.Streams.{magnitudes}
use Rattle.fir_pieces.specs.Placed.{powers}
use Rattle.fir_pieces.specs.Form.{reach_of, weights_by, with_terms}
use Rattle.fir_pieces.proofs.forms.sum_of.Given as goal

-- what is done, with the terms that remain, is the whole
abbrev pub invariant-loop-term : goal.invariant-loop-term
invariant-loop-term l = record {
  whole : with_terms l.negated (replicate l.behind (pos 0) ++ l.weights.items) (drop l.term-index l.terms) ≡ weights_by l.negated l.terms;
  long : l.behind + length l.weights.items ≡ reach_of l.terms;
  small : magnitudes l.weights.items + powers (drop l.term-index l.terms) ≤ powers l.terms;
}
