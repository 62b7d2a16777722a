use Rattle.std.proofs.Common.{◌≡◌, [], length, map}
use Rattle.symmetric_fir.specs.Pairs.{tap, places_below, pair_at}
use Rattle.symmetric_fir.proofs.pairs.pairs_of.Given as goal

-- the pairs so far
abbrev pub invariant-loop-place : goal.invariant-loop-place
invariant-loop-place l = record {
  pairs : l.found.pairs.items ≡ map (pair_at l.anti (length l.taps)) (places_below l.taps l.place);
  firsts : l.found.firsts.items ≡ map (tap l.taps) (places_below l.taps l.place);
  centres : l.found.centres.items ≡ [];
}
