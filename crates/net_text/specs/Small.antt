-- Nets whose numbers are those of a machine.
use Rattle.std.specs.Prelude.{◌≡◌, ℕ, ◌<◌, ◌^◌, List, length, Some, slice_get}
use Rattle.net_graph.specs.declared.cell.Cell.{Cell}
use Rattle.net_graph.specs.declared.name.Name.{Name}

-- the places, the groups and the numbers of names have at most 64 bits
pub record AreSmall (cells : List Cell) : Type 0 where
  pub places : length cells < 2 ^ 64
  pub groups : (place : ℕ) (cell : Cell) → slice_get cells place ≡ Some cell → cell.group < 2 ^ 64
  pub names : (place : ℕ) (cell : Cell) (name : Name) → slice_get cells place ≡ Some cell → cell.name ≡ Some name → (name.group < 2 ^ 64) × (name.number < 2 ^ 64)
