-- The accumulators of a folded filter.
use Rattle.std.specs.Prelude.{◌≡◌, ℕ, ◌+◌, ◌/◌, ◌<◌, ◌≤◌, List, length, Option, Some, slice_get, get_or}
use Rattle.net_graph.specs.declared.cell.Cell.{Cell}
use Rattle.net_graph.specs.declared.cell.Node.{Node}
use Rattle.net_graph.specs.declared.name.NameKind.TheVariants.{Register}
use Rattle.net_graph.specs.Cells.{NetView, cell_at}
use Rattle.net_graph.specs.Control.{IsOfControl}
use Rattle.net_graph.specs.Count.{adders_in}
use Rattle.net_graph.specs.Depth.{IsPlain, IsShallow}
use Rattle.net_graph.specs.Grow.{Extends, Grows}
use Rattle.pipeline_balance.specs.Costs.{SameNamed}
use Rattle.pipeline_balance.specs.Numbered.{IsCounted, IsTouched, LeavesFree, name_of}
use Rattle.pipeline_balance.specs.Shallow.{ArePlain}
use Rattle.pipeline_balance.specs.Shapes.{KeepsShapes}
use Rattle.signed_digit.specs.declared.term_list.Term.{Term}
use Rattle.fold_schedule.specs.Fold.{Fold}
use Rattle.folded_fir.specs.declared.cells.Slot.{Slot}
use Rattle.folded_fir.specs.Cells.{cells_of}
use Rattle.folded_fir.specs.Slots.{AreCellsAt}
use Rattle.folded_fir.specs.Accumulators.{IsAccumulator}
use Rattle.folded_fir.specs.Operands.{node_at, AddsOperand}

-- what the accumulators of a filter are made of: its terms, the factors around it, and the slots in which they are taken
pub record Folding : Type 0 where
  pub fold : Fold
  pub up : ℕ
  pub down : ℕ
  pub slots : List Slot

-- the nodes that they read: the bit that clears them, those of the slots, and the copies of the window
pub record Sources : Type 0 where
  pub clear : Node
  pub bits : List Node
  pub copies : List Node

-- each term weighs one of the copies, and with its power of two that has at most 128 bits
pub record HasWidths (cells : List Cell) (copies : List Node) (f : Folding) : Type 0 where
  pub reads : (phase adder slot : ℕ) (t : Term) → cells_of f.fold phase adder slot ≡ Some t → t.index / f.up < length copies
  pub narrow : (phase adder slot : ℕ) (t : Term) → cells_of f.fold phase adder slot ≡ Some t → (cell_at cells (node_at copies (t.index / f.up)).place).width + t.place ≤ 128

-- The node is this accumulator: in a net between the old one and this one an operand was added, over its terms in the slots, that it adds up.
pub record IsSum (old : NetView) (cells : List Cell) (f : Folding) (s : Sources) (adder number width : ℕ) (sum : Node) : Type 0 where
  pub before : NetView
  pub after : NetView
  pub terms : List (Option Term)
  pub operand_width : ℕ
  pub operand : Node
  pub earlier : Extends old.cells before.cells
  pub later : Extends after.cells cells
  pub are : AreCellsAt f.fold f.up f.down adder f.slots terms
  pub added : AddsOperand before after s.bits s.copies f.up terms (length terms) operand_width operand
  pub accumulator : IsAccumulator cells old.group (name_of old.group Register number) s.clear operand width sum

-- the new net has the first accumulators, one adder each, numbered on, of these widths
pub record AddsSums (old new : NetView) (f : Folding) (s : Sources) (widths : List ℕ) (sums : List Node) : Type 0 where
  pub grows : Grows old new
  pub adders : adders_in old.group new.cells ≡ adders_in old.group old.cells + length sums
  pub named : SameNamed old.cells new.cells
  pub each : (count adder : ℕ) (sum : Node) → IsCounted old.cells old.group Register count → slice_get sums adder ≡ Some sum → IsSum old new.cells f s adder (count + adder) (get_or widths adder 0) sum
  pub within : (adder : ℕ) (sum : Node) → slice_get sums adder ≡ Some sum → sum.place < length new.cells
  pub counted : (count : ℕ) → IsCounted old.cells old.group Register count → IsCounted new.cells old.group Register (count + length sums)
  pub names : LeavesFree old.cells new.cells (IsTouched old.group Register)
  pub linear : IsOfControl old.cells s.clear.place → ((k : ℕ) (bit : Node) → slice_get s.bits k ≡ Some bit → IsOfControl old.cells bit.place) → KeepsShapes old.cells new.cells
  pub shallow : IsShallow old.cells old.group → IsPlain old.cells old.group s.clear.place → ArePlain old.cells old.group s.bits → ArePlain old.cells old.group s.copies → IsShallow new.cells old.group
