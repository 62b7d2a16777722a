use Rattle.std.proofs.Common.{◌≡◌, take}
use Rattle.net_graph.specs.Grow.{Extends}
use Rattle.fir_pieces.specs.Readers.{AddsRegisters}
use Rattle.fir_pieces.proofs.readers.add_registers.Given as goal

-- the registers so far
abbrev pub invariant-loop-index : goal.invariant-loop-index
invariant-loop-index l = record {
  group : l.net.group ≡ l.fn.net.group;
  extends : Extends l.fn.net.cells l.net.cells;
  added : AddsRegisters l.fn.net l.net l.window l.kind (take l.index l.readings) l.widths l.nodes.items;
}
