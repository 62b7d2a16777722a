-- The control bits of a folded filter.
use Rattle.std.specs.Prelude.{◌≡◌, ℕ, ◌+◌, ◌≤◌, List}
use Rattle.net_graph.specs.declared.cell.Node.{Node}
use Rattle.net_graph.specs.declared.cell.Stream.{Stream}
use Rattle.net_graph.specs.declared.name.NameKind.TheVariants.{Control}
use Rattle.net_graph.specs.Cells.{NetView}
use Rattle.net_graph.specs.Depth.{IsPlain}
use Rattle.net_graph.specs.Grow.{Grows}
use Rattle.pipeline_balance.specs.Costs.{SameAdders, SameNamed}
use Rattle.pipeline_balance.specs.Gate.{IsTickOf, IsBitOf}
use Rattle.pipeline_balance.specs.Numbered.{LeavesFree}
use Rattle.pipeline_balance.specs.Shapes.{KeepsShapes}
use Rattle.folded_fir.specs.declared.cells.Slot.{Slot}
use Rattle.folded_fir.specs.Rounds.{Rounds}
use Rattle.folded_fir.specs.Slots.{AreSlotBits}

-- The new net has a bit that tells where the window is copied, one that tells where an output's first slot is, and one for each slot of the
-- list. Of names only some of control are taken.
pub record AddsControl (old new : NetView) (from : Stream) (o : Rounds) (slots : List Slot) (load clear : Node) (bits : List Node) : Type 0 where
  pub grows : Grows old new
  pub loads : IsBitOf new.cells (IsTickOf o.period (from.offset + 1)) load
  pub clears : IsBitOf new.cells (IsTickOf o.period (from.offset + 2)) clear
  pub slot_bits : AreSlotBits new.cells from o slots bits
  pub plain : (group : ℕ) → 1 ≤ group → IsPlain new.cells group clear.place
  pub adders : SameAdders old.cells new.cells
  pub named : SameNamed old.cells new.cells
  pub names : LeavesFree old.cells new.cells (λ name. name.kind ≡ Control)
  pub linear : KeepsShapes old.cells new.cells
