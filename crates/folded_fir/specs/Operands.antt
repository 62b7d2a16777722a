-- What an accumulator adds: in each slot the copy that its term weighs, shifted up, and else 0.
use Rattle.std.specs.Prelude.{◌≡◌, ℕ, ◌+◌, ◌/◌, ◌^◌, ◌<◌, ◌≤◌, ℤ, pos, ◌*ℤ◌, List, length, Option, None, Some, slice_get, get_or}
use Rattle.net_graph.specs.declared.cell.Cell.{Cell}
use Rattle.net_graph.specs.declared.cell.Node.{Node}
use Rattle.net_graph.specs.Cells.{NetView, cell_at}
use Rattle.net_graph.specs.Control.{IsOfControl}
use Rattle.net_graph.specs.Cut.{Cut, IsCut}
use Rattle.net_graph.specs.Depth.{IsPlain}
use Rattle.net_graph.specs.Grow.{Grows}
use Rattle.net_graph.specs.Run.{Values, IsRun}
use Rattle.net_graph.specs.WellFormed.{IsBound}
use Rattle.pipeline_balance.specs.Costs.{SameAdders, SameNamed}
use Rattle.pipeline_balance.specs.Numbered.{LeavesFree}
use Rattle.pipeline_balance.specs.Phase.{IsNarrow, IsOnlySet}
use Rattle.pipeline_balance.specs.Shallow.{ArePlain}
use Rattle.pipeline_balance.specs.Shapes.{KeepsShapes}
use Rattle.signed_digit.specs.declared.term_list.Term.{Term}
use Rattle.fold_schedule.specs.Sums.{taken}

-- a node of a list by its place, the node at place 0 behind the last
abbrev pub node_at : List Node → ℕ → Node
node_at nodes place = get_or nodes place (record { place = 0 })

-- the copies stand in the net
pub record AreCopies (cells : List Cell) (copies : List Node) : Type 0 where
  pub within : (age : ℕ) → age < length copies → (node_at copies age).place < length cells
  pub some : (age : ℕ) → age < length copies → 1 ≤ (cell_at cells (node_at copies age).place).width

-- each term weighs one of the copies, and with its power of two it has at most 128 bits
pub record HaveRoom (cells : List Cell) (copies : List Node) (up : ℕ) (terms : List (Option Term)) : Type 0 where
  pub reads : (k : ℕ) (t : Term) → slice_get terms k ≡ Some (Some t) → t.index / up < length copies
  pub narrow : (k : ℕ) (t : Term) → slice_get terms k ≡ Some (Some t) → (cell_at cells (node_at copies (t.index / up)).place).width + t.place ≤ 128

-- with their powers of two the terms' copies have at most this width
pub record AreBelow (cells : List Cell) (copies : List Node) (up : ℕ) (terms : List (Option Term)) (width : ℕ) : Type 0 where
  pub each : (k : ℕ) (t : Term) → slice_get terms k ≡ Some (Some t) → (cell_at cells (node_at copies (t.index / up)).place).width + t.place ≤ width

-- the node `to` of the new net has the value of the node `from` times a power of two, and so many bits more
pub record IsScaled (old new : NetView) (from : Node) (by : ℕ) (to : Node) : Type 0 where
  pub grows : Grows old new
  pub within : to.place < length new.cells
  pub wide : (cell_at new.cells to.place).width ≡ (cell_at old.cells from.place).width + by
  pub scales : (cut : Cut) → IsCut cut → (inputs : ℕ → ℤ) (values : Values) → IsRun cut new.cells inputs values → (t : ℕ) → values t to.place ≡ pos (2 ^ by) *ℤ values t from.place
  pub adders : SameAdders old.cells new.cells
  pub named : SameNamed old.cells new.cells
  pub names : LeavesFree old.cells new.cells (λ name. ⊥)
  pub linear : KeepsShapes old.cells new.cells
  pub plain : IsBound old.cells → IsPlain old.cells old.group from.place → IsPlain new.cells old.group to.place

-- The node `to` of the new net has, in every run, however it is cut, at each tick where one of the bits alone is set, what is taken of that
-- bit's term, where it is among the first `count`, and 0 where none of their bits is set. No adder stands before it.
pub record AddsOperand (old new : NetView) (bits copies : List Node) (up : ℕ) (terms : List (Option Term)) (count width : ℕ) (to : Node) : Type 0 where
  pub grows : Grows old new
  pub narrow : IsNarrow new.cells width to
  pub alone : (cut : Cut) → IsCut cut → (inputs : ℕ → ℤ) (values : Values) → IsRun cut new.cells inputs values → (t k : ℕ) → k < count → k < length bits → IsOnlySet values bits t k
      → values t to.place ≡ taken (λ i. values t (node_at copies (i / up)).place) (get_or terms k None)
  pub rests : (cut : Cut) → IsCut cut → (inputs : ℕ → ℤ) (values : Values) → IsRun cut new.cells inputs values → (t : ℕ)
      → ((k : ℕ) (bit : Node) → k < count → slice_get bits k ≡ Some bit → values t bit.place ≡ pos 0) → values t to.place ≡ pos 0
  pub adders : SameAdders old.cells new.cells
  pub named : SameNamed old.cells new.cells
  pub names : LeavesFree old.cells new.cells (λ name. ⊥)
  pub linear : ((k : ℕ) (bit : Node) → slice_get bits k ≡ Some bit → IsOfControl old.cells bit.place) → KeepsShapes old.cells new.cells
  pub plain : IsBound old.cells → ArePlain old.cells old.group bits → ArePlain old.cells old.group copies → IsPlain new.cells old.group to.place
