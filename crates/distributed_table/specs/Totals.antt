-- The sum of the registers of all runs.
use Rattle.std.specs.Prelude.{◌≡◌, ℕ, ◌<◌, List, length, get_or}
use Rattle.net_graph.specs.declared.cell.Leaf.{Leaf}
use Rattle.net_graph.specs.declared.cell.Node.{Node}
use Rattle.net_graph.specs.Cells.{NetView}
use Rattle.pipeline_balance.specs.Tree.{IsTree, count_to}

-- the new net has a tree over these leaves whose registers are all of one width
pub record AddsTotal (old new : NetView) (leaves : List Leaf) (levels width : ℕ) (root : Node) : Type 0 where
  pub widths : List ℕ
  pub registers : List Node
  pub many : length widths ≡ count_to (length leaves) levels
  pub alike : (k : ℕ) → k < length widths → get_or widths k 0 ≡ width
  pub tree : IsTree old new leaves widths levels registers root
