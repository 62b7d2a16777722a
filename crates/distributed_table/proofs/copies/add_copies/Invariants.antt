use Rattle.std.proofs.Common.{◌≡◌, ℕ, length}
use Rattle.net_graph.specs.Grow.{Extends}
use Rattle.pipeline_balance.specs.Gate.{IsTickOf, IsBitOf}
use Rattle.distributed_table.specs.Copies.{AddsCopies}
use Rattle.distributed_table.proofs.copies.add_copies.Given as goal

abbrev pub invariant-loop-age : goal.invariant-loop-age
invariant-loop-age l = record {
  many : length l.highs.items ≡ l.age;
  extends : Extends l.fn.net.cells l.net.cells;
  group : l.net.group ≡ l.fn.net.group;
  copies : (period first : ℕ) → IsBitOf l.fn.net.cells (IsTickOf period first) l.fn.load → AddsCopies l.fn.net l.net period first l.fn.width l.fn.window l.highs.items;
}
