-- The order in which phases are shown.
use Rattle.std.specs.Prelude.{◌≡◌, ℕ, ◌*◌, ◌%◌, List, length, Some, slice_get}
use Rattle.net_graph.specs.declared.cell.Node.{Node}

-- the node number j is the root of phase j * down modulo up
pub record IsOrder (roots : List Node) (up down count : ℕ) (shown : List Node) : Type 0 where
  pub many : length shown ≡ count
  pub each : (j : ℕ) (node : Node) → slice_get shown j ≡ Some node → slice_get roots (j * down % up) ≡ Some node
