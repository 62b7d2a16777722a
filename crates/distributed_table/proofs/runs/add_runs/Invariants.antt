use Rattle.std.proofs.Common.{◌≡◌, ℕ, List, length}
use Rattle.net_graph.specs.declared.cell.Node.{Node}
use Rattle.net_graph.specs.Grow.{Extends}
use Rattle.pipeline_balance.specs.Numbered.{LeavesFree}
use Rattle.distributed_table.specs.Runs.{Pace, IsRunReady, IsBelow, serial_of, AddsRuns}
use Rattle.distributed_table.proofs.runs.add_runs.Given as goal

abbrev pub invariant-loop-number : goal.invariant-loop-number
invariant-loop-number g l = record {
  many : length l.leaves.items ≡ l.number;
  extends : Extends l.fn.net.cells l.net.cells;
  group : l.net.group ≡ l.fn.net.group;
  names : LeavesFree l.fn.net.cells l.net.cells (IsBelow l.fn.net.group l.number);
  runs : (pace : Pace) (window : List Node) (bits : ℕ) → IsRunReady l.fn.net.cells pace bits window l.fn.highs l.fn.begin → AddsRuns l.fn.net l.net (serial_of l.fn.taps g.row.G bits l.fn.values) pace window l.fn.highs l.number l.leaves.items;
}
