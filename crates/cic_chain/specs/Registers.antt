-- What a cascade in a net does.
use Rattle.std.specs.Prelude.{◌≡◌}
use Rattle.net_graph.specs.declared.cell.Stream.{Stream}
use Rattle.net_graph.specs.Cells.{NetView}
use Rattle.stage_law.specs.Facts.{StageFacts}
use Rattle.stage_law.specs.Realises.{Realises}
use Rattle.stage_law.specs.Streams.{Streams}
use Rattle.stage_law.specs.declared.stage.Emitted.{Emitted}

-- the stream realises the stage, whatever peaks are told with it
pub record IsCascadeOf (facts : StageFacts) (streams : Streams) (old new : NetView) (from to : Stream) : Type 0 where
  pub realises : (emitted : Emitted) → emitted.stream ≡ to → Realises facts streams old new from emitted
