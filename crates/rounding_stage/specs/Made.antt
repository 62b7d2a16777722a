-- Nodes that are functions of one node at the same tick.
use Rattle.std.specs.Prelude.{◌≡◌, ℕ, ◌<◌, ◌≤◌, ℤ, List, length}
use Rattle.net_graph.specs.declared.cell.Cell.{Cell}
use Rattle.net_graph.specs.declared.cell.Node.{Node}
use Rattle.net_graph.specs.Cells.{NetView}
use Rattle.net_graph.specs.Count.{adders_in}
use Rattle.net_graph.specs.Cut.{cut_all}
use Rattle.net_graph.specs.Depth.{IsPlain}
use Rattle.net_graph.specs.Grow.{Grows}
use Rattle.net_graph.specs.Run.{Values, IsRun}
use Rattle.net_graph.specs.WellFormed.{IsBound}
use Rattle.pipeline_balance.specs.Costs.{SameNamed}
use Rattle.pipeline_balance.specs.Numbered.{LeavesFree}

-- the new net has more nodes of its group, without names and without an adder
pub record IsMade (old new : NetView) : Type 0 where
  pub grows : Grows old new
  pub counts : adders_in old.group new.cells ≡ adders_in old.group old.cells
  pub same_named : SameNamed old.cells new.cells
  pub names : LeavesFree old.cells new.cells (λ name. ⊥)

-- In each run `to` has at every tick this function of what `from` has there. No adder stands before `to` if none stood before `from`.
pub record IsOf (old : NetView) (cells : List Cell) (from to : Node) (of : ℤ → ℤ) : Type 0 where
  pub within : to.place < length cells
  pub plain : IsBound old.cells → IsPlain old.cells old.group from.place → IsPlain cells old.group to.place
  pub is : (inputs : ℕ → ℤ) (values : Values) → IsRun cut_all cells inputs values → (t : ℕ) → values t to.place ≡ of (values t from.place)

-- The node `to` is a function of another node, and so of each node of which that is one.
pub record Makes (old new : NetView) (node to : Node) (f : ℤ → ℤ) : Type 0 where
  pub within : to.place < length new.cells
  pub made : (start : NetView) → 1 ≤ start.group → IsMade start old → IsMade start new
  pub of : (start : NetView) (from : Node) (g : ℤ → ℤ) → 1 ≤ start.group → IsMade start old → IsOf start old.cells from node g → IsOf start new.cells from to (λ v. f (g v))
  pub keeps : (start : NetView) (from : Node) (g : ℤ → ℤ) (other : Node) → 1 ≤ start.group → IsMade start old → IsOf start old.cells from other g → IsOf start new.cells from other g
