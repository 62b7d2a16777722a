use Rattle.std.proofs.Common.{◌≡◌, ◌≤◌, length}
use Rattle.net_graph.specs.declared.cell.Stream.{Stream}
use Rattle.net_graph.specs.Grow.{Extends}
use Rattle.fir_pieces.specs.Cutting.{IsCutWindow}
use Rattle.fir_pieces.specs.Held.{AreHeld}
use Rattle.polyphase_fir.specs.Facts.{depth_of, phase_sums}
use Rattle.polyphase_fir.specs.Roots.{AddsRegisters, AddsRoots, SumsWindow}
use Rattle.polyphase_fir.proofs.roots.phase_trees.Given as goal

-- the trees so far
abbrev pub invariant-loop-phase : goal.invariant-loop-phase
invariant-loop-phase g l = record {
  many : length l.trees.roots.items ≡ l.phase;
  group : l.net.group ≡ l.fn.net.group;
  extends : Extends l.fn.net.cells l.net.cells;
  trees : (from : Stream) → 1 ≤ from.period → IsCutWindow (g.R.Ranges.streams l.ranges) l.fn.net.cells from l.window.nodes.items
      → AddsRoots (g.R.Ranges.streams l.ranges) l.fn.net l.net from l.filter.levels l.filter.taps.items l.filter.rates.up l.trees.roots.items;
  registers : (from : Stream) → 1 ≤ from.period → IsCutWindow (g.R.Ranges.streams l.ranges) l.fn.net.cells from l.window.nodes.items
      → AddsRegisters (g.R.Ranges.streams l.ranges) l.fn.net l.net from (depth_of l.filter.taps.items l.filter.rates.up) l.filter.levels (phase_sums l.filter.rates.up l.filter.taps.items l.filter.levels l.phase) l.trees.registers.items;
  held : AreHeld (g.R.Ranges.streams l.ranges) (phase_sums l.filter.rates.up l.filter.taps.items l.filter.levels l.phase) l.trees.held.items;
  shallow : SumsWindow l.fn.net l.net l.window.nodes.items;
}
