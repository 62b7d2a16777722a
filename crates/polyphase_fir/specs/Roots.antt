-- The trees of the phases, and the one that is shown.
use Rattle.std.specs.Prelude.{◌≡◌, ℕ, suc, ◌+◌, ◌*◌, ◌%◌, ◌<◌, ◌≤◌, ℤ, pos, ◌-ℤ◌, List, length, Some, slice_get}
use Rattle.mr_values.specs.Sequence.{Sequence, weighted_sum, phase}
use Rattle.net_graph.specs.declared.cell.Cell.{Cell}
use Rattle.net_graph.specs.declared.cell.Node.{Node}
use Rattle.net_graph.specs.declared.cell.Stream.{Stream}
use Rattle.net_graph.specs.declared.name.NameKind.TheVariants.{Control, Register}
use Rattle.net_graph.specs.Cells.{NetView}
use Rattle.net_graph.specs.Count.{adders_in}
use Rattle.net_graph.specs.Cut.{Cut, IsCut}
use Rattle.net_graph.specs.Run.{Values, IsRun}
use Rattle.net_graph.specs.Grow.{Grows}
use Rattle.pipeline_balance.specs.Costs.{SameAdders, SameNamed}
use Rattle.pipeline_balance.specs.Gate.{Carries, HasTaken}
use Rattle.pipeline_balance.specs.Numbered.{LeavesFree, IsTouched}
use Rattle.pipeline_balance.specs.Shapes.{KeepsShapes}
use Rattle.stage_law.specs.Streams.{Streams}
use Rattle.net_graph.specs.Depth.{IsShallow}
use Rattle.pipeline_balance.specs.Numbered.{IsCounted, name_of}
use Rattle.pipeline_balance.specs.Shallow.{ArePlain}
use Rattle.stage_law.specs.Registers.{HeldSum}
use Rattle.fir_pieces.specs.Peaks.{IsDue}
use Rattle.polyphase_fir.specs.Facts.{adders_below}

-- so many ticks after a tick before which the values up to number k were taken, the node has what phase r of the filter makes of them
pub record IsRoot (streams : Streams) (cells : List Cell) (from : Stream) (levels : ℕ) (taps : List ℤ) (up r : ℕ) (root : Node) : Type 0 where
  pub within : root.place < length cells
  pub shows : (cut : Cut) → IsCut cut → (inputs : ℕ → ℤ) (values : Values) → IsRun cut cells inputs values → (v : Sequence) → streams v → Carries values from v
      → (s k : ℕ) → HasTaken from.period from.offset (suc k) s → values (s + levels) root.place ≡ weighted_sum (phase up r taps) (λ i. v (pos k -ℤ pos i))

-- the new net has the trees of the first phases
pub record AddsRoots (streams : Streams) (old new : NetView) (from : Stream) (levels : ℕ) (taps : List ℤ) (up : ℕ) (roots : List Node) : Type 0 where
  pub grows : Grows old new
  pub each : (r : ℕ) (root : Node) → slice_get roots r ≡ Some root → IsRoot streams new.cells from levels taps up r root
  pub adders : adders_in old.group new.cells ≡ adders_in old.group old.cells + adders_below up taps (length roots)
  pub named : SameNamed old.cells new.cells
  pub names : LeavesFree old.cells new.cells (IsTouched old.group Register)
  pub linear : KeepsShapes old.cells new.cells

-- the new net has these registers more, numbered on, and they hold these sums
pub record AddsRegisters (streams : Streams) (old new : NetView) (from : Stream) (depth levels : ℕ) (sums : List HeldSum) (registers : List Node) : Type 0 where
  pub many : length registers ≡ length sums
  pub counted : (count : ℕ) → IsCounted old.cells old.group Register count → IsCounted new.cells old.group Register (count + length sums)
  pub each : (count k : ℕ) (s : HeldSum) (node : Node) → IsCounted old.cells old.group Register count → slice_get sums k ≡ Some s → slice_get registers k ≡ Some node
      → IsDue streams new.cells from depth levels old.group (name_of old.group Register (count + k)) s node

-- the new net is shallow where the old was and no adder stood before the window's nodes
pub record SumsWindow (old new : NetView) (window : List Node) : Type 0 where
  pub shallow : IsShallow old.cells old.group → ArePlain old.cells old.group window → IsShallow new.cells old.group

-- the node `to` of the new net has, at tick first + n * period, the value of the root of phase n * down modulo up
pub record AddsShown (old new : NetView) (roots : List Node) (up down period first : ℕ) (to : Node) : Type 0 where
  pub grows : Grows old new
  pub within : to.place < length new.cells
  pub shows : (cut : Cut) → IsCut cut → (inputs : ℕ → ℤ) (values : Values) → IsRun cut new.cells inputs values
      → (n : ℕ) (root : Node) → slice_get roots (n * down % up) ≡ Some root → values (first + n * period) to.place ≡ values (first + n * period) root.place
  pub adders : SameAdders old.cells new.cells
  pub named : SameNamed old.cells new.cells
  pub names : LeavesFree old.cells new.cells (λ name. name.kind ≡ Control)
  pub linear : KeepsShapes old.cells new.cells

-- the least count, at least 1, of outputs after which the phases come again
pub record IsRound (up down count : ℕ) : Type 0 where
  pub some : 1 ≤ count
  pub most : count ≤ up
  pub whole : count * down % up ≡ 0
  pub least : (fewer : ℕ) → 1 ≤ fewer → fewer * down % up ≡ 0 → count ≤ fewer

-- the stream shows the roots of the phases in turn, as it is due after so many levels
pub record IsShown (old new : NetView) (roots : List Node) (up down : ℕ) (from : Stream) (levels : ℕ) (stream : Stream) : Type 0 where
  pub period : stream.period * up ≡ from.period * down
  pub offset : stream.offset ≡ from.offset + 1 + levels
  pub shown : AddsShown old new roots up down stream.period stream.offset stream.node
