-- How many nodes have a name from a number on.
use Rattle.std.specs.Prelude.{ℕ, ◌+◌, List, [], ◌∷◌, Option, Some, None, nat_le, if◌then◌else◌}
use Rattle.net_graph.specs.declared.cell.Cell.{Cell}
use Rattle.net_graph.specs.declared.name.Name.{Name}

-- 1 for a name whose number is not below k
abbrev pub from_number : ℕ → Option Name → ℕ
from_number k None = 0
from_number k (Some name) = if nat_le k name.number then 1 else 0

-- how many cells have a name whose number is not below k
abbrev pub numbered_from : ℕ → List Cell → ℕ
numbered_from k [] = 0
numbered_from k (cell ∷ cells) = from_number k cell.name + numbered_from k cells
