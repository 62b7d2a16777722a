use Rattle.std.proofs.Common.{◌≡◌, length}
use Rattle.net_graph.specs.Grow.{Extends}
use Rattle.pipeline_balance.specs.Ticks.{AddsBits, IsTickAfter}
use Rattle.pipeline_balance.proofs.ticks.count_bits.Given as goal

abbrev pub invariant-loop-k : goal.invariant-loop-k
invariant-loop-k l =
    (length l.bits.items ≡ l.k) × Extends l.initial.net.cells l.net.cells × AddsBits l.fn.net l.net (IsTickAfter l.fn.period l.fn.first l.fn.distances) l.bits.items
