-- The cell at a place.
use Rattle.std.proofs.Common.{◌≡◌, ℕ, ◌<◌, List, length, refl, sym, ◌∙◌, Option, Some, slice_get, get_or}
use Rattle.std.proofs.lemmas.Option.{slice_get_within, slice_get-get_or, slice_get_read}
use Rattle.net_graph.specs.declared.cell.Cell.{Cell}
use Rattle.net_graph.specs.Cells.{blank, cell_at}

pub cell_at-there : (cells : List Cell) (place : ℕ) → place < length cells → slice_get cells place ≡ Some (cell_at cells place)
cell_at-there cells place inside = slice_get-get_or cells place blank inside

-- two cells at one place are one
pub same_cell : (a b : Cell) (o : Option Cell) → o ≡ Some a → o ≡ Some b → a ≡ b
same_cell a b o p q = let same : Some a ≡ Some b = sym p ∙ q in cc

pub cell_at-is : (cells : List Cell) (place : ℕ) (cell : Cell) → slice_get cells place ≡ Some cell → cell_at cells place ≡ cell
cell_at-is cells place cell e = same_cell (cell_at cells place) cell (slice_get cells place) (cell_at-there cells place (slice_get_within cells place cell e)) e

-- a cell that was read
pub there_read : (cells : List Cell) (place : ℕ) (cell : Cell) → place < length cells → cell ≡ get_or cells place cell → slice_get cells place ≡ Some cell
there_read cells place cell inside e = slice_get_read cells (length cells) place cell refl inside e

pub cell_read : (cells : List Cell) (place : ℕ) (cell : Cell) → place < length cells → cell ≡ get_or cells place cell → cell_at cells place ≡ cell
cell_read cells place cell inside e = cell_at-is cells place cell (there_read cells place cell inside e)
