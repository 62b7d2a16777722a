use Rattle.std.proofs.Common.{◌≡◌, ◌++◌, map, drop}
use Rattle.wire_levels.specs.declared.order.Levelled.{Levelled}
use Rattle.wire_levels.proofs.order.places_of.Given as goal

abbrev pub invariant-loop-assign : goal.invariant-loop-assign
invariant-loop-assign l = l.places.items ++ map (λ (x : Levelled). x.place) (drop l.assign-index l.sorted) ≡ map (λ (x : Levelled). x.place) l.sorted
