use Rattle.std.proofs.Common.{ℕ, ◌≤◌, ◌<◌, get_or, length}
use Rattle.signed_digit.specs.declared.term_list.Term.{Term}
use Rattle.fir_pieces.proofs.forms.first_place.Given as goal

-- no term so far weighs a place before
abbrev pub invariant-loop-term : goal.invariant-loop-term
invariant-loop-term l = record {
  least : (k : ℕ) (t : Term) → k < l.term-index → k < length l.terms → l.least ≤ (get_or l.terms k t).index;
  most : l.least ≤ l.most;
}
