use Rattle.std.proofs.Common.{◌≡◌, map, take}
use Rattle.folded_fir.specs.Slots.{distance_of}
use Rattle.folded_fir.proofs.control.distances_of.Given as goal

abbrev pub invariant-loop-slot : goal.invariant-loop-slot
invariant-loop-slot l = l.distances.items ≡ map (distance_of l.period) (take l.slot-index l.slots)
