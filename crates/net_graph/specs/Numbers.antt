-- Which numbers the names of a group and kind have.
use Rattle.std.specs.Prelude.{ℕ, ◌<◌, ◌≤◌, List, Option, Some, None}
use Rattle.net_graph.specs.declared.cell.Cell.{Cell}
use Rattle.net_graph.specs.declared.name.NameKind.{NameKind}
use Rattle.net_graph.specs.declared.counting.Counted.{Counted}
use Rattle.net_graph.specs.WellFormed.{IsFree, IsWellFormed}

-- the names of this group and kind have the numbers below this one
pub record AreCounted (cells : List Cell) (group : ℕ) (kind : NameKind) (count : ℕ) : Type 0 where
  pub used : (number : ℕ) → number < count → IsFree cells (record { group = group; kind = kind; number = number }) → ⊥
  pub free : (number : ℕ) → count ≤ number → IsFree cells (record { group = group; kind = kind; number = number })

-- so do those of the group and kind that are kept, if any are
abbrev pub IsCountedBy : List Cell → Option Counted → Type 0
IsCountedBy cells None = Unit {0}
IsCountedBy cells (Some counted) = AreCounted cells counted.group counted.kind counted.count

-- a list of nodes that is a net, and what is kept of it
pub record IsSound (cells : List Cell) (counted : Option Counted) : Type 0 where
  pub well_formed : IsWellFormed cells
  pub numbers : IsCountedBy cells counted
