-- A register that holds a stream.
use Rattle.net_graph.specs.declared.cell.Node.{Node}
use Rattle.net_graph.specs.declared.cell.Stream.{Stream}
use Rattle.net_graph.specs.declared.name.NameKind.TheVariants.{Register}
use Rattle.net_graph.specs.Cells.{NetView}
use Rattle.net_graph.specs.Grow.{Grows}
use Rattle.pipeline_balance.specs.Costs.{SameAdders, SameNamed}
use Rattle.pipeline_balance.specs.Gate.{Holds}
use Rattle.pipeline_balance.specs.Numbered.{LeavesFree, IsTouched}

-- the new net has a register of its group with the last value of the stream, and no adder more
pub record IsHeld (old new : NetView) (from : Stream) (to : Node) : Type 0 where
  pub grows : Grows old new
  pub holds : Holds new.cells from 0 to
  pub same_adders : SameAdders old.cells new.cells
  pub same_named : SameNamed old.cells new.cells
  pub names : LeavesFree old.cells new.cells (IsTouched old.group Register)
