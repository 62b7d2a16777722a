-- The sum of all runs over a stream.
use Rattle.std.specs.Prelude.{◌≡◌, ℕ, ◌+◌, ◌*◌, List, ℤ}
use Rattle.net_graph.specs.declared.cell.Node.{Node}
use Rattle.net_graph.specs.declared.cell.Stream.{Stream}
use Rattle.net_graph.specs.Cells.{NetView}
use Rattle.stage_law.specs.Realises.{Realises}
use Rattle.stage_law.specs.Streams.{Streams}
use Rattle.stage_law.specs.declared.stage.Emitted.{Emitted}
use Rattle.distributed_table.specs.Facts.{distributed_facts}

-- the new net has a node that gives the filter's values when its bits have passed and the levels of the tree after them
pub record AddsRoot (streams : Streams) (old new : NetView) (from : Stream) (size : ℕ) (taps : List ℤ) (down bits levels : ℕ) (root : Node) : Type 0 where
  pub realises : (emitted : Emitted) → emitted.stream ≡ record { node = root; period = from.period * down; offset = from.offset + (2 + bits + levels) } → Realises (distributed_facts size taps down bits) streams old new from emitted
