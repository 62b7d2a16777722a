use Rattle.std.proofs.Common.{◌≡◌, length}
use Rattle.net_graph.specs.Grow.{Extends}
use Rattle.folded_fir.specs.Copies.{AddsCopies}
use Rattle.folded_fir.proofs.copies.add_copies.Given as goal

abbrev pub invariant-loop-age : goal.invariant-loop-age
invariant-loop-age l = record {
  many : length l.copies.items ≡ l.age;
  extends : Extends l.fn.net.cells l.net.cells;
  group : l.net.group ≡ l.fn.net.group;
  copies : AddsCopies l.fn.net l.net l.fn.ticks.period l.fn.ticks.first l.fn.window l.fn.widths l.copies.items;
}
