-- Nodes that cost no adder, no window register and no table.
use Rattle.std.specs.Prelude.{◌≡◌, ℕ, ◌≤◌, List}
use Rattle.net_graph.specs.declared.cell.Cell.{Cell}
use Rattle.net_graph.specs.Count.{adders_in, windows_in, tables_in}

-- no stage's group has more adders in the new net
pub record SameAdders (old new : List Cell) : Type 0 where
  pub each : (group : ℕ) → 1 ≤ group → adders_in group new ≡ adders_in group old

-- no group has more window registers or tables in the new net
pub record SameNamed (old new : List Cell) : Type 0 where
  pub windows : (group : ℕ) → windows_in group new ≡ windows_in group old
  pub tables : (group : ℕ) → tables_in group new ≡ tables_in group old
