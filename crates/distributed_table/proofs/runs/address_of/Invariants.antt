use Rattle.std.proofs.Common.{◌≡◌, ℕ, ◌+◌, ◌<◌, ◌≤◌, length}
use Rattle.distributed_table.specs.Copies.{node_at}
use Rattle.distributed_table.proofs.runs.address_of.Given as goal

abbrev pub invariant-loop-k : goal.invariant-loop-k
invariant-loop-k g l = record {
  long : length l.address ≡ g.row.G;
  each : (j : ℕ) → j < l.k → node_at l.address j ≡ node_at l.highs (l.first + j);
  rest : (j : ℕ) → l.k ≤ j → j < g.row.G → node_at l.address j ≡ node_at l.highs l.first;
}
