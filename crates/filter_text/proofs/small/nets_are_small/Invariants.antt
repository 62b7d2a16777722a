use Rattle.std.proofs.Common.{◌≡◌, ℕ, ◌<◌, ◌^◌, Some, slice_get}
use Rattle.net_graph.specs.declared.cell.Cell.{Cell}
use Rattle.net_graph.specs.declared.name.Name.{Name}
use Rattle.filter_text.proofs.small.nets_are_small.Given as goal

-- the nodes so far have small groups and small names
abbrev pub invariant-loop-place : goal.invariant-loop-place
invariant-loop-place l =
    ((place : ℕ) (cell : Cell) → place < l.place → slice_get l.net place ≡ Some cell → cell.group < 2 ^ 64)
    × ((place : ℕ) (cell : Cell) (name : Name) → place < l.place → slice_get l.net place ≡ Some cell → cell.name ≡ Some name → (name.group < 2 ^ 64) × (name.number < 2 ^ 64))
