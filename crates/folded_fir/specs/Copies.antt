-- Copies of a window, each of a width of its own.
use Rattle.std.specs.Prelude.{◌≡◌, ℕ, suc, ◌+◌, ◌<◌, ℤ, List, length, get_or, Some, slice_get}
use Rattle.mr_values.specs.Width.{FitsWidth}
use Rattle.net_graph.specs.declared.cell.Cell.{Cell}
use Rattle.net_graph.specs.declared.cell.Node.{Node}
use Rattle.net_graph.specs.declared.cell.Stream.{Stream}
use Rattle.net_graph.specs.declared.name.Name.{Name}
use Rattle.net_graph.specs.declared.name.NameKind.TheVariants.{Copy}
use Rattle.net_graph.specs.Cells.{NetView}
use Rattle.net_graph.specs.Cut.{Cut, IsCut}
use Rattle.net_graph.specs.Grow.{Grows}
use Rattle.net_graph.specs.Run.{Values, IsRun}
use Rattle.pipeline_balance.specs.Costs.{SameAdders, SameNamed}
use Rattle.pipeline_balance.specs.Gate.{Holds}
use Rattle.pipeline_balance.specs.Numbered.{IsRegister, IsCounted, IsTouched, LeavesFree, name_of}
use Rattle.pipeline_balance.specs.Shapes.{KeepsShapes}

-- The node `to` is a register of this name and width. In every run, however it is cut, it takes at the stream's ticks the value of a node that
-- has that of the stream's node wherever this fits the width.
pub record IsCopy (cells : List Cell) (group : ℕ) (name : Name) (from : Stream) (width : ℕ) (to : Node) : Type 0 where
  pub register : IsRegister cells to.place group name width
  pub narrow : Node
  pub keeps : (cut : Cut) → IsCut cut → (inputs : ℕ → ℤ) (values : Values) → IsRun cut cells inputs values → (t : ℕ) → FitsWidth width (values t from.node.place) → values t narrow.place ≡ values t from.node.place
  pub holds : Holds cells (record { node = narrow; period = from.period; offset = from.offset }) 0 to

-- the new net has one copy more, with the next free number
pub record AddsCopy (old new : NetView) (from : Stream) (width : ℕ) (to : Node) : Type 0 where
  pub grows : Grows old new
  pub adders : SameAdders old.cells new.cells
  pub named : SameNamed old.cells new.cells
  pub copy : (count : ℕ) → IsCounted old.cells old.group Copy count → IsCopy new.cells old.group (name_of old.group Copy count) from width to
  pub within : to.place < length new.cells
  pub counted : (count : ℕ) → IsCounted old.cells old.group Copy count → IsCounted new.cells old.group Copy (suc count)
  pub names : LeavesFree old.cells new.cells (IsTouched old.group Copy)
  pub linear : KeepsShapes old.cells new.cells

-- the node's values, taken at these ticks
abbrev pub taken_from : Node → ℕ → ℕ → Stream
taken_from node period first = record { node = node; period = period; offset = first }

-- the new net has a copy of each of these nodes, from the first on, of its width in the list
pub record AddsCopies (old new : NetView) (period first : ℕ) (window : List Node) (widths : List ℕ) (copies : List Node) : Type 0 where
  pub grows : Grows old new
  pub adders : SameAdders old.cells new.cells
  pub named : SameNamed old.cells new.cells
  pub each : (count age : ℕ) (from to : Node) → IsCounted old.cells old.group Copy count → slice_get window age ≡ Some from → slice_get copies age ≡ Some to
      → IsCopy new.cells old.group (name_of old.group Copy (count + age)) (taken_from from period first) (get_or widths age 0) to
  pub within : (age : ℕ) (to : Node) → slice_get copies age ≡ Some to → to.place < length new.cells
  pub counted : (count : ℕ) → IsCounted old.cells old.group Copy count → IsCounted new.cells old.group Copy (count + length copies)
  pub names : LeavesFree old.cells new.cells (IsTouched old.group Copy)
  pub linear : KeepsShapes old.cells new.cells
