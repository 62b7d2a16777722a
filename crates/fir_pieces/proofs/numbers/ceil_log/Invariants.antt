use Rattle.std.proofs.Common.{◌≡◌, ◌+◌, ◌<◌, ◌^◌}
use Rattle.mr_values.specs.Timing.{ceil_log}
use Rattle.fir_pieces.proofs.numbers.ceil_log.Given as goal

abbrev pub invariant-halve : goal.invariant-halve
invariant-halve l = record {
  so_far : l.level + ceil_log l.left ≡ ceil_log l.n;
  small : l.left < 2 ^ 31;
}

abbrev pub decreases-halve : goal.decreases-halve
decreases-halve l = l.left
