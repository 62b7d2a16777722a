-- The sums that a register holds, one for each phase, and their least width.
use Rattle.std.specs.Prelude.{◌≡◌, ℕ, zero, suc, ◌+◌, ◌<◌, ◌≤◌, List, [], ◌∷◌, length, map, get_or, Some, slice_get, pos}
use Rattle.mr_values.specs.Sequence.{Sequence, filter}
use Rattle.mr_values.specs.Width.{FitsWidth}
use Rattle.net_graph.specs.declared.cell.Cell.{Cell}
use Rattle.net_graph.specs.declared.cell.Node.{Node}
use Rattle.net_graph.specs.declared.cell.Stream.{Stream}
use Rattle.net_graph.specs.declared.name.Name.{Name}
use Rattle.pipeline_balance.specs.Numbered.{IsRegister}
use Rattle.pipeline_balance.specs.Tree.{level_count, count_to}
use Rattle.signed_digit.specs.declared.term_list.Term.{Term}
use Rattle.stage_law.specs.Range.{InClass}
use Rattle.stage_law.specs.Registers.{HeldSum}
use Rattle.stage_law.specs.Streams.{Streams}
use Rattle.fir_pieces.specs.Moment.{Pace, Forms, HoldsForms}
use Rattle.fir_pieces.specs.FormSums.{held_forms}
use Rattle.fir_pieces.specs.Placed.{term_segment}

-- ---- the sums

-- of one phase
abbrev pub sum_in_phase : Pace → Forms → ℕ → ℕ → HeldSum
sum_in_phase pace forms ticks φ = record { form = forms φ; class = pace.class φ; lag = pace.lag φ + ticks }

-- of phases in some order
abbrev pub sums_in_phases : Pace → Forms → ℕ → List ℕ → List HeldSum
sums_in_phases pace forms ticks order = map (sum_in_phase pace forms ticks) order

-- the list has each phase below a number, and no other
pub record ListsPhases (phases : ℕ) (order : List ℕ) : Type 0 where
  pub below : (j φ : ℕ) → slice_get order j ≡ Some φ → φ < phases
  pub all : (φ : ℕ) → φ < phases → (j : ℕ) × (slice_get order j ≡ Some φ)

-- the last phase first
abbrev pub last_first : ℕ → List ℕ
last_first zero = []
last_first (suc n) = n ∷ last_first n

-- ---- their width

-- each value of the sum over the streams fits so many bits
pub record FitsSum (streams : Streams) (width : ℕ) (s : HeldSum) : Type 0 where
  pub each : (v : Sequence) → streams v → (k : ℕ) → InClass s.class k → FitsWidth width (filter s.form v (pos k))

-- the width is the least, at least 1, that holds all of these sums
pub record IsSumsWidth (streams : Streams) (sums : List HeldSum) (width : ℕ) : Type 0 where
  pub positive : 1 ≤ width
  pub most : width ≤ 128
  pub holds : (j : ℕ) (s : HeldSum) → slice_get sums j ≡ Some s → FitsSum streams width s
  pub least : (w : ℕ) → 1 ≤ w → ((j : ℕ) (s : HeldSum) → slice_get sums j ≡ Some s → FitsSum streams w s) → width ≤ w

-- the width is the least for the forms' sums in all phases
pub record IsFormsWidth (streams : Streams) (pace : Pace) (forms : Forms) (ticks : ℕ) (order : List ℕ) (width : ℕ) : Type 0 where
  pub in_order : ListsPhases pace.phases order
  pub wide : IsSumsWidth streams (sums_in_phases pace forms ticks order) width

-- the widths of the registers of a tree over these terms, level by level
pub record ArePhasesTreeWidths (streams : Streams) (pace : Pace) (shown : ℕ → Forms) (ticks : ℕ) (order : List ℕ) (terms : List Term) (levels : ℕ) (widths : List ℕ) : Type 0 where
  pub count : length widths ≡ count_to (length terms) levels
  pub each : (level j : ℕ) → level < levels → j < level_count (length terms) (suc level)
      → IsFormsWidth streams pace (held_forms shown (term_segment (suc level) j terms)) (ticks + suc level) order (get_or widths (count_to (length terms) level + j) 0)

-- ---- registers

-- The node is a register of this name. It holds these sums, one for each phase of a pace, of at most so many values and at most so many
-- ticks after they begin to stand, and has the least width for all of them.
pub record IsPhasesDue (streams : Streams) (cells : List Cell) (from : Stream) (pace : Pace) (depth levels group : ℕ) (name : Name) (sums : List HeldSum) (node : Node) : Type 0 where
  pub width : ℕ
  pub register : IsRegister cells node.place group name width
  pub forms : Forms
  pub ticks : ℕ
  pub order : List ℕ
  pub are_sums : sums ≡ sums_in_phases pace forms ticks order
  pub short : (φ : ℕ) → φ < pace.phases → length (forms φ) ≤ depth
  pub soon : ticks ≤ levels
  pub holds : HoldsForms streams cells from pace forms ticks node
  pub least : IsFormsWidth streams pace forms ticks order width
