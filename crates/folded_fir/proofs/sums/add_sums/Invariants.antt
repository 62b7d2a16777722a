use Rattle.std.proofs.Common.{◌≡◌, length}
use Rattle.net_graph.specs.Grow.{Extends}
use Rattle.folded_fir.specs.Sums.{AddsSums}
use Rattle.folded_fir.proofs.sums.add_sums.Given as goal

abbrev pub invariant-loop-adder : goal.invariant-loop-adder
invariant-loop-adder l = record {
  many : length l.sums.items ≡ l.adder;
  extends : Extends l.fn.net.cells l.net.cells;
  group : l.net.group ≡ l.fn.net.group;
  sums : AddsSums l.fn.net l.net (record { fold = l.fn.plan.schedule; up = l.fn.plan.rates.up; down = l.fn.plan.rates.down; slots = l.fn.plan.slots.items })
      (record { clear = l.fn.control.clear; bits = l.fn.control.bits.items; copies = l.fn.copies }) l.fn.widths l.sums.items;
}
