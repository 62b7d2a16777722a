-- Nodes with the names of tables.
use Rattle.std.specs.Prelude.{◌≡◌, ℕ, true, false, List, Some, slice_get}
use Rattle.net_graph.specs.declared.cell.Cell.{Cell}
use Rattle.net_graph.specs.declared.name.Name.{Name}
use Rattle.net_graph.specs.Count.{is_adder, is_table}
use Rattle.net_graph.specs.Name.{is_input}

-- no node with the name of a table is an adder or the input
pub record HasPlainTables (cells : List Cell) : Type 0 where
  pub no_adder : (place : ℕ) (cell : Cell) (name : Name) → slice_get cells place ≡ Some cell → cell.name ≡ Some name → is_table name.kind ≡ true → is_adder cell.item ≡ false
  pub no_input : (place : ℕ) (cell : Cell) (name : Name) → slice_get cells place ≡ Some cell → cell.name ≡ Some name → is_table name.kind ≡ true → is_input cell.item ≡ false

-- each node with the name of a table is of the group of that name
pub record HasOwnTables (cells : List Cell) : Type 0 where
  pub own : (place : ℕ) (cell : Cell) (name : Name) → slice_get cells place ≡ Some cell → cell.name ≡ Some name → is_table name.kind ≡ true → name.group ≡ cell.group

-- each table is of the group of its name, and no adder or input
pub record HasTables (cells : List Cell) : Type 0 where
  pub plain : HasPlainTables cells
  pub own : HasOwnTables cells
