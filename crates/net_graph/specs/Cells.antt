-- The cells of a net.
use Rattle.std.specs.Prelude.{ℕ, List, None, slice_index_or}
use Rattle.net_graph.specs.declared.cell.Cell.{Cell}

-- the nodes of a net, and the group of those to come
pub record NetView : Type 0 where
  pub cells : List Cell
  pub group : ℕ

-- what stands past the end of a net
abbrev pub blank : Cell
blank = record { group = 0; name = None; width = 0; item = None }

-- the cell at a place
abbrev pub cell_at : List Cell → ℕ → Cell
cell_at cells place = slice_index_or cells place blank
