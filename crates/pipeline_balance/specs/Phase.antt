-- Bits that tell phases, and one of several nodes chosen by them.
use Rattle.std.specs.Prelude.{◌≡◌, ℕ, ◌+◌, ◌*◌, ◌%◌, ◌<◌, ◌≤◌, ℤ, pos, List, length, Some, slice_get, true}
use Rattle.mr_values.specs.Width.{set_bit, wrap}
use Rattle.net_graph.specs.declared.cell.Cell.{Cell}
use Rattle.net_graph.specs.declared.cell.Node.{Node}
use Rattle.net_graph.specs.declared.name.NameKind.TheVariants.{Control, Register}
use Rattle.net_graph.specs.Cells.{NetView, cell_at}
use Rattle.net_graph.specs.Cut.{Cut, IsCut}
use Rattle.net_graph.specs.Run.{Values, IsRun, HasShape}
use Rattle.net_graph.specs.Control.{IsOfControl}
use Rattle.net_graph.specs.Grow.{Grows}
use Rattle.pipeline_balance.specs.Numbered.{IsCounted, IsTouched, LeavesFree}
use Rattle.pipeline_balance.specs.Costs.{SameAdders, SameNamed}
use Rattle.pipeline_balance.specs.Gate.{HasTaken, IsBitOf}
use Rattle.pipeline_balance.specs.Leaves.{delayed}
use Rattle.pipeline_balance.specs.Shapes.{KeepsShapes}

-- the tick is first + n * period for an n that is `phase` modulo `count`
abbrev pub IsTickOfPhase : ℕ → ℕ → ℕ → ℕ → ℕ → Type 0
IsTickOfPhase period first count phase t = (n : ℕ) × (t ≡ first + n * period) × (n % count ≡ phase)

-- the new net has control bits, and bit j is set exactly at the ticks of phase j
pub record IsPhases (old new : NetView) (period first count : ℕ) (bits : List Node) : Type 0 where
  pub grows : Grows old new
  pub shapes : (phase : ℕ) (bit : Node) → slice_get bits phase ≡ Some bit → HasShape new.cells bit.place true 1
  pub each : (phase : ℕ) (bit : Node) → slice_get bits phase ≡ Some bit → IsBitOf new.cells (IsTickOfPhase period first count phase) bit
  pub names : LeavesFree old.cells new.cells (λ name. name.kind ≡ Control)
  pub adders : SameAdders old.cells new.cells
  pub named : SameNamed old.cells new.cells
  pub linear : KeepsShapes old.cells new.cells

-- in every run, however it is cut, the control node has at every tick the number of values taken before, modulo `count`, in this width
pub record IsIndexOf (cells : List Cell) (period first count width : ℕ) (index : Node) : Type 0 where
  pub within : index.place < length cells
  pub control : IsOfControl cells index.place
  pub holds : (cut : Cut) → IsCut cut → (inputs : ℕ → ℤ) (values : Values) → IsRun cut cells inputs values → (t taken : ℕ) → HasTaken period first taken t → values t index.place ≡ wrap width (pos (taken % count))

-- the new net has such a register
pub record IsIndex (old new : NetView) (period first count width : ℕ) (index : Node) : Type 0 where
  pub grows : Grows old new
  pub index_of : IsIndexOf new.cells period first count width index
  pub names : LeavesFree old.cells new.cells (λ name. name.kind ≡ Control)
  pub adders : SameAdders old.cells new.cells
  pub named : SameNamed old.cells new.cells
  pub linear : KeepsShapes old.cells new.cells

-- at this tick bit `phase` is set and all others are clear
pub record IsOnlySet (values : Values) (bits : List Node) (t phase : ℕ) : Type 0 where
  pub sets : (bit : Node) → slice_get bits phase ≡ Some bit → values t bit.place ≡ set_bit
  pub clears : (other : ℕ) (bit : Node) → (other ≡ phase → ⊥) → slice_get bits other ≡ Some bit → values t bit.place ≡ pos 0

-- the node has at most this width
pub record IsNarrow (cells : List Cell) (width : ℕ) (node : Node) : Type 0 where
  pub within : node.place < length cells
  pub some : 1 ≤ (cell_at cells node.place).width
  pub most : (cell_at cells node.place).width ≤ width

-- The node `to` of the new net has, in every run, however it is cut, the value of node `phase` of the first `count`, at each tick
-- where bit `phase` alone is set. Where the bits are control, what is added may stand in a linear group.
pub record IsSelection (old new : NetView) (bits nodes : List Node) (count width : ℕ) (to : Node) : Type 0 where
  pub grows : Grows old new
  pub narrow : IsNarrow new.cells width to
  pub selects : (cut : Cut) → IsCut cut → (inputs : ℕ → ℤ) (values : Values) → IsRun cut new.cells inputs values → (t phase : ℕ) → phase < count → IsOnlySet values bits t phase → (node : Node) → slice_get nodes phase ≡ Some node → values t to.place ≡ values t node.place
  pub names : LeavesFree old.cells new.cells (λ name. ⊥)
  pub adders : SameAdders old.cells new.cells
  pub named : SameNamed old.cells new.cells
  pub linear : ((phase : ℕ) (bit : Node) → slice_get bits phase ≡ Some bit → IsOfControl old.cells bit.place) → KeepsShapes old.cells new.cells

-- such a selection, with the value 0 at each tick where none of the first `count` bits is set
pub record IsSelectionOrZero (old new : NetView) (bits nodes : List Node) (count width : ℕ) (to : Node) : Type 0 where
  pub selection : IsSelection old new bits nodes count width to
  pub rests : (cut : Cut) → IsCut cut → (inputs : ℕ → ℤ) (values : Values) → IsRun cut new.cells inputs values → (t : ℕ)
      → ((phase : ℕ) (bit : Node) → phase < count → slice_get bits phase ≡ Some bit → values t bit.place ≡ pos 0) → values t to.place ≡ pos 0

-- The node `to` of the new net, as wide as `from`, has in every run, however it is cut, the value of `from` so many ticks before, by
-- as many registers with the next free numbers.
pub record IsDelay (old new : NetView) (from : Node) (ticks : ℕ) (to : Node) : Type 0 where
  pub grows : Grows old new
  pub within : to.place < length new.cells
  pub wide : (cell_at new.cells to.place).width ≡ (cell_at old.cells from.place).width
  pub delays : (cut : Cut) → IsCut cut → (inputs : ℕ → ℤ) (values : Values) → IsRun cut new.cells inputs values → (t : ℕ) → values t to.place ≡ delayed ticks t (λ s. values s from.place)
  pub counted : (count : ℕ) → IsCounted old.cells old.group Register count → IsCounted new.cells old.group Register (count + ticks)
  pub names : LeavesFree old.cells new.cells (IsTouched old.group Register)
  pub adders : SameAdders old.cells new.cells
  pub named : SameNamed old.cells new.cells
  pub linear : KeepsShapes old.cells new.cells
