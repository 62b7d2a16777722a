use Rattle.std.proofs.Common.{◌≡◌, map, take}
use Rattle.polyphase_fir.specs.Placed.{at_place}
use Rattle.polyphase_fir.proofs.places.placed_terms.Given as goal

abbrev pub invariant-loop-term : goal.invariant-loop-term
invariant-loop-term l = l.placed.items ≡ map (at_place l.up) (take l.term-index l.term-items)
