use Rattle.std.proofs.Common.{◌≡◌, map, take}
use Rattle.fir_pieces.specs.Placed.{leaf_of}
use Rattle.fir_pieces.proofs.leaves.leaves_of.Given as goal

abbrev pub invariant-loop-term : goal.invariant-loop-term
invariant-loop-term l = l.leaves.items ≡ map (leaf_of l.nodes) (take l.term-index l.terms)
