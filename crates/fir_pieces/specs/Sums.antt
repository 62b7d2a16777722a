-- A tree over nodes that show sums of a stream's values.
use Rattle.std.specs.Prelude.{◌≡◌, ℕ, ◌^◌, ◌≤◌, List, length, map, All, true, Some, slice_get}
use Rattle.net_graph.specs.declared.cell.Cell.{Cell}
use Rattle.net_graph.specs.declared.cell.Node.{Node}
use Rattle.net_graph.specs.declared.cell.Stream.{Stream}
use Rattle.net_graph.specs.Cells.{NetView}
use Rattle.signed_digit.specs.declared.term_list.Term.{Term}
use Rattle.pipeline_balance.specs.Leaves.{IsLeaf, IsNegatable}
use Rattle.pipeline_balance.specs.Tree.{IsTree}
use Rattle.stage_law.specs.Streams.{Streams}
use Rattle.fir_pieces.specs.Placed.{leaf_of, all_minus}
use Rattle.fir_pieces.specs.declared.held.Held.{Held}
use Rattle.fir_pieces.specs.declared.reading.Reading.{Reading}
use Rattle.fir_pieces.specs.Reading.{reading_at}
use Rattle.fir_pieces.specs.Listed.{tree_sums}
use Rattle.fir_pieces.specs.Held.{AreHeld, AreTreeWidths, AreSmall, IsFormWidth}
use Rattle.fir_pieces.specs.Form.{form_of, reading_form}
use Rattle.fir_pieces.specs.Peaks.{HoldsForm}

-- in each run in which the stream carries one of these streams, the nodes show these, so many ticks after the values were taken
pub record AreShown (streams : Streams) (cells : List Cell) (from : Stream) (readings : List Reading) (ticks : ℕ) (nodes : List Node) : Type 0 where
  pub many : length nodes ≡ length readings
  pub each : (k : ℕ) (node : Node) → slice_get nodes k ≡ Some node → HoldsForm streams cells from (reading_form (reading_at readings k)) ticks node

-- the new net has the tree of these terms over the nodes, whose registers have the least widths for what they hold over the streams
pub record AddsTree (streams : Streams) (old new : NetView) (nodes : List Node) (readings : List Reading) (ticks : ℕ) (terms : List Term) (levels : ℕ) (held : List Held) (registers : List Node) (root : Node) : Type 0 where
  pub sums : AreHeld streams (tree_sums readings ticks terms levels) held
  pub widths : List ℕ
  pub wide : widths ≡ map (λ (own : Held). own.width) held
  pub least : AreTreeWidths streams readings terms levels widths
  pub tree : IsTree old new (map (leaf_of nodes) terms) widths levels registers root

-- the tree of these terms over the nodes may be built with so many levels
pub record IsReady (streams : Streams) (cells : List Cell) (nodes : List Node) (readings : List Reading) (terms : List Term) (levels : ℕ) : Type 0 where
  pub many : length nodes ≡ length readings
  pub leaves : All (λ t. IsLeaf cells (leaf_of nodes t)) terms
  pub negatable : all_minus terms ≡ true → levels ≡ 0 → All (λ t. IsNegatable cells (leaf_of nodes t)) terms
  pub fits : AreSmall streams readings terms
  pub deep : length terms ≤ 2 ^ levels
  pub low : levels ≤ 31
  pub root : all_minus terms ≡ true → (width : ℕ) → IsFormWidth streams (form_of readings terms) width → width ≤ 127
