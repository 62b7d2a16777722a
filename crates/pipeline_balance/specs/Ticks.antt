-- Bits that tell ticks of several kinds.
use Rattle.std.specs.Prelude.{◌≡◌, ℕ, ◌+◌, List, Some, slice_get, get_or, true}
use Rattle.net_graph.specs.declared.cell.Node.{Node}
use Rattle.net_graph.specs.declared.name.NameKind.TheVariants.{Control}
use Rattle.net_graph.specs.Cells.{NetView}
use Rattle.net_graph.specs.Run.{HasShape}
use Rattle.net_graph.specs.Grow.{Grows}
use Rattle.pipeline_balance.specs.Costs.{SameAdders, SameNamed}
use Rattle.pipeline_balance.specs.Gate.{IsTickOf, IsBitOf}
use Rattle.pipeline_balance.specs.Numbered.{LeavesFree}
use Rattle.pipeline_balance.specs.Shapes.{KeepsShapes}

-- the tick lies distance number k after one of first, first + period, first + 2 * period, ..
abbrev pub IsTickAfter : ℕ → ℕ → List ℕ → ℕ → ℕ → Type 0
IsTickAfter period first distances k = IsTickOf period (first + get_or distances k 0)

-- The new net has control bits, of which bit k is set exactly at the ticks of kind k. All nodes that it has more are control, and of
-- names only some of control are taken.
pub record AddsBits (old new : NetView) (ticks : ℕ → ℕ → Type 0) (bits : List Node) : Type 0 where
  pub grows : Grows old new
  pub shapes : (k : ℕ) (bit : Node) → slice_get bits k ≡ Some bit → HasShape new.cells bit.place true 1
  pub each : (k : ℕ) (bit : Node) → slice_get bits k ≡ Some bit → IsBitOf new.cells (ticks k) bit
  pub names : LeavesFree old.cells new.cells (λ name. name.kind ≡ Control)
  pub adders : SameAdders old.cells new.cells
  pub named : SameNamed old.cells new.cells
  pub linear : KeepsShapes old.cells new.cells
