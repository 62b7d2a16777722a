-- A window over a stream that is cut to the width of its values.
use Rattle.std.specs.Prelude.{◌≡◌, ℕ, ◌+◌, ◌<◌, ◌≤◌, ℤ, pos, List, [], ◌∷◌, length, Some, slice_get}
use Rattle.mr_values.specs.Sequence.{Sequence}
use Rattle.mr_values.specs.Width.{FitsWidth}
use Rattle.net_graph.specs.declared.cell.Cell.{Cell}
use Rattle.net_graph.specs.declared.cell.Node.{Node}
use Rattle.net_graph.specs.declared.cell.Stream.{Stream}
use Rattle.net_graph.specs.declared.name.NameKind.TheVariants.{Window}
use Rattle.net_graph.specs.Cells.{NetView, cell_at}
use Rattle.net_graph.specs.Count.{windows_in, tables_in}
use Rattle.net_graph.specs.Cut.{Cut, IsCut}
use Rattle.net_graph.specs.Run.{Values, IsRun}
use Rattle.net_graph.specs.Grow.{Grows}
use Rattle.pipeline_balance.specs.Costs.{SameAdders, SameNamed}
use Rattle.pipeline_balance.specs.Gate.{Carries, Holds}
use Rattle.pipeline_balance.specs.Numbered.{IsRegister, IsCounted, LeavesFree, IsTouched, name_of}
use Rattle.pipeline_balance.specs.Shallow.{ArePlain}
use Rattle.pipeline_balance.specs.Shapes.{KeepsShapes}
use Rattle.stage_law.specs.Streams.{Streams}
use Rattle.stage_law.specs.declared.ranges.Class.{Class}
use Rattle.fir_pieces.specs.Held.{IsClassWidth, IsFormWidth}

-- the node `to` of the new net has this width, and the value of the node `from` wherever that fits
pub record IsNarrowed (old new : NetView) (from : Node) (width : ℕ) (to : Node) : Type 0 where
  pub grows : Grows old new
  pub within : to.place < length new.cells
  pub wide : (cell_at new.cells to.place).width ≡ width
  pub keeps : (cut : Cut) → IsCut cut → (inputs : ℕ → ℤ) (values : Values) → IsRun cut new.cells inputs values → (t : ℕ) → FitsWidth width (values t from.place) → values t to.place ≡ values t from.place
  pub adders : SameAdders old.cells new.cells
  pub named : SameNamed old.cells new.cells
  pub names : LeavesFree old.cells new.cells (λ name. ⊥)
  pub linear : KeepsShapes old.cells new.cells

-- The new net has a window of a stream that carries what this one carries, wherever a value of the class fits. It has so many window
-- registers more, numbered on, of the least width for the values of the class, before which no adder stands.
pub record AddsClassWindow (streams : Streams) (old new : NetView) (taken : Stream) (class : Class) (nodes : List Node) : Type 0 where
  pub grows : Grows old new
  pub node : Node
  pub width : ℕ
  pub least : IsClassWidth streams class (pos 1 ∷ []) width
  pub keeps : (cut : Cut) → IsCut cut → (inputs : ℕ → ℤ) (values : Values) → IsRun cut new.cells inputs values → (t : ℕ) → FitsWidth width (values t taken.node.place) → values t node.place ≡ values t taken.node.place
  pub holds : (age : ℕ) (found : Node) → slice_get nodes age ≡ Some found → Holds new.cells (record { node = node; period = taken.period; offset = taken.offset }) age found
  pub plain : (count : ℕ) → IsCounted old.cells old.group Window count → ArePlain new.cells old.group nodes
  pub adders : SameAdders old.cells new.cells
  pub windows : windows_in old.group new.cells ≡ windows_in old.group old.cells + length nodes
  pub tables : tables_in old.group new.cells ≡ tables_in old.group old.cells
  pub registers : (count : ℕ) → IsCounted old.cells old.group Window count → (age : ℕ) (found : Node) → slice_get nodes age ≡ Some found → IsRegister new.cells found.place old.group (name_of old.group Window (count + age)) width
  pub counted : (count : ℕ) → IsCounted old.cells old.group Window count → IsCounted new.cells old.group Window (count + length nodes)
  pub names : LeavesFree old.cells new.cells (IsTouched old.group Window)
  pub linear : KeepsShapes old.cells new.cells

-- each node stands in the net and is at most as wide as the values of the streams need
pub record IsWideWindow (streams : Streams) (cells : List Cell) (nodes : List Node) : Type 0 where
  pub width : ℕ
  pub least : IsFormWidth streams (pos 1 ∷ []) width
  pub narrow : (age : ℕ) (node : Node) → slice_get nodes age ≡ Some node → (node.place < length cells) × (1 ≤ (cell_at cells node.place).width) × ((cell_at cells node.place).width ≤ width)

-- the nodes are a window of a stream that carries, at the ticks of this one, whichever of the streams this one carries
pub record IsCutWindow (streams : Streams) (cells : List Cell) (from : Stream) (nodes : List Node) : Type 0 where
  pub taken : Stream
  pub period : taken.period ≡ from.period
  pub offset : taken.offset ≡ from.offset
  pub carries : (cut : Cut) → IsCut cut → (inputs : ℕ → ℤ) (values : Values) (v : Sequence) → streams v → IsRun cut cells inputs values → Carries values from v → Carries values taken v
  pub holds : (age : ℕ) (node : Node) → slice_get nodes age ≡ Some node → Holds cells taken age node

-- the new net has such a window, and so many window registers more, numbered from 0, of the width that its values need, before which no
-- adder stands
pub record AddsWindow (streams : Streams) (old new : NetView) (from : Stream) (nodes : List Node) : Type 0 where
  pub grows : Grows old new
  pub window : IsCutWindow streams new.cells from nodes
  pub wide : IsWideWindow streams new.cells nodes
  pub plain : ArePlain new.cells old.group nodes
  pub adders : SameAdders old.cells new.cells
  pub windows : windows_in old.group new.cells ≡ windows_in old.group old.cells + length nodes
  pub tables : tables_in old.group new.cells ≡ tables_in old.group old.cells
  pub registers : (age : ℕ) (node : Node) → slice_get nodes age ≡ Some node → IsRegister new.cells node.place old.group (name_of old.group Window age) wide.width
  pub counted : IsCounted new.cells old.group Window (length nodes)
  pub names : LeavesFree old.cells new.cells (IsTouched old.group Window)
  pub linear : KeepsShapes old.cells new.cells
