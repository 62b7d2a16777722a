use Rattle.std.proofs.Common.{◌≡◌, ◌≤◌, ◌^◌, max, drop}
use Rattle.fir_pieces.specs.Form.{reach_of}
use Rattle.fir_pieces.proofs.forms.reach_of.Given as goal

-- the terms that remain may reach farther
abbrev pub invariant-loop-term : goal.invariant-loop-term
invariant-loop-term l = record {
  whole : max l.reach (reach_of (drop l.term-index l.terms)) ≡ reach_of l.terms;
  small : l.reach ≤ 2 ^ 32;
}
