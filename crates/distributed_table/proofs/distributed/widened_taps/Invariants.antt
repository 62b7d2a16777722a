use Rattle.std.proofs.Common.{◌≡◌, take}
use Rattle.distributed_table.proofs.distributed.widened_taps.Given as goal

abbrev pub invariant-loop-place : goal.invariant-loop-place
invariant-loop-place l = record {
  so_far : l.wide.items ≡ take l.place l.taps;
}
