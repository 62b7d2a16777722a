-- A node that is a function of another.
use Rattle.std.specs.Prelude.{◌≡◌, ℕ, ◌+◌, ◌<◌, ℤ, ◌≤ℤ◌, length}
use Rattle.net_graph.specs.declared.cell.Node.{Node}
use Rattle.net_graph.specs.Cells.{NetView}
use Rattle.net_graph.specs.Count.{adders_in}
use Rattle.net_graph.specs.Cut.{cut_all}
use Rattle.net_graph.specs.Grow.{Grows}
use Rattle.net_graph.specs.Run.{Values, IsRun}
use Rattle.pipeline_balance.specs.Costs.{SameNamed}
use Rattle.pipeline_balance.specs.Numbered.{LeavesFree}
use Rattle.pipeline_balance.specs.Shallow.{KeepsShallow}
use Rattle.stage_law.specs.declared.ranges.Range.{Range}

-- The new net has so many adders more, none of which takes another if no adder stood before `from`, and where the value of `from` lies in
-- the range, that of `to` is the function of it at the same tick.
pub record IsMap (old new : NetView) (from : Node) (range : Range) (of : ℤ → ℤ) (adders : ℕ) (to : Node) : Type 0 where
  pub grows : Grows old new
  pub counts : adders_in old.group new.cells ≡ adders_in old.group old.cells + adders
  pub same_named : SameNamed old.cells new.cells
  pub names : LeavesFree old.cells new.cells (λ name. ⊥)
  pub shallow : KeepsShallow old new from
  pub within : to.place < length new.cells
  pub maps : (inputs : ℕ → ℤ) (values : Values) → IsRun cut_all new.cells inputs values → (t : ℕ) → range.lo ≤ℤ values t from.place → values t from.place ≤ℤ range.hi → values t to.place ≡ of (values t from.place)
