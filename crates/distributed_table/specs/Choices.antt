-- Tables as trees of choices.
use Rattle.std.specs.Prelude.{◌≡◌, ℕ, ◌<◌, ◌≤◌, List, length, Some, None, slice_get, false, ℤ, pos, ◌+ℤ◌}
use Rattle.mr_values.specs.Timing.{low_end, high_end}
use Rattle.mr_values.specs.Width.{FitsWidth}
use Rattle.net_graph.specs.declared.cell.Cell.{Cell}
use Rattle.net_graph.specs.declared.cell.Node.{Node}
use Rattle.net_graph.specs.declared.name.NameKind.TheVariants.{Table}
use Rattle.net_graph.specs.Cells.{NetView}
use Rattle.net_graph.specs.Count.{is_adder}
use Rattle.net_graph.specs.Cut.{Cut, IsCut}
use Rattle.net_graph.specs.Depth.{IsPlain}
use Rattle.net_graph.specs.Run.{Values, IsRun}
use Rattle.net_graph.specs.Tables.{HasTables}
use Rattle.net_graph.specs.WellFormed.{IsBound}
use Rattle.pipeline_balance.specs.Numbered.{name_of}
use Rattle.bit_serial.specs.Tables.{chosen_sum}
use Rattle.distributed_table.specs.Parts.{AddsPart}

-- the sum so far and that of any subset of these taps has so many bits
pub record SumsFit (width : ℕ) (taps : List ℤ) (so_far : ℤ) : Type 0 where
  pub low : FitsWidth width (so_far +ℤ low_end taps (pos 0) (pos 1))
  pub high : FitsWidth width (so_far +ℤ high_end taps (pos 0) (pos 1))

-- where no adder stands before the nodes that choose, none stands before this one
pub record ChoosesPlain (old new : NetView) (count : ℕ) (on : ℕ → Node) (root : Node) : Type 0 where
  pub plain : IsBound old.cells → ((k : ℕ) → k < count → IsPlain old.cells old.group (on k).place) → IsPlain new.cells old.group root.place

-- In every run, cut or uncut, the node has the sum so far and that of the taps at whose places a node that chooses isn't 0.
pub record IsChosen (cells : List Cell) (taps : List ℤ) (on : ℕ → Node) (so_far : ℤ) (root : Node) : Type 0 where
  pub chosen : (cut : Cut) → IsCut cut → (inputs : ℕ → ℤ) (values : Values) → IsRun cut cells inputs values → (t : ℕ) → values t root.place ≡ chosen_sum taps so_far (λ k. values t (on k).place)

-- the new net has such a node, of this width and without a name, that the old one hadn't; it is no adder
pub record AddsChoices (old new : NetView) (taps : List ℤ) (on : ℕ → Node) (so_far : ℤ) (width : ℕ) (root : Node) : Type 0 where
  pub part : AddsPart old new (λ name. ⊥) 0 0
  pub cell : Cell
  pub there : slice_get new.cells root.place ≡ Some cell
  pub later : length old.cells ≤ root.place
  pub of_group : cell.group ≡ old.group
  pub nameless : cell.name ≡ None
  pub no_adder : is_adder cell.item ≡ false
  pub wide : cell.width ≡ width
  pub plain : ChoosesPlain old new (length taps) on root
  pub sums : IsChosen new.cells taps on so_far root

-- the new net has the table of these taps, under this number, and its tables are no adders where those of the old net were none
pub record AddsTable (old new : NetView) (number : ℕ) (taps : List ℤ) (on : ℕ → Node) (root : Node) : Type 0 where
  pub part : AddsPart old new (λ name. name ≡ name_of old.group Table number) 0 1
  pub tables : IsBound old.cells → HasTables old.cells → HasTables new.cells
  pub within : root.place < length new.cells
  pub plain : ChoosesPlain old new (length taps) on root
  pub sums : IsChosen new.cells taps on (pos 0) root
