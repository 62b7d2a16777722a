-- Bits that tell ticks, and registers that take a node's value at these ticks.
use Rattle.std.specs.Prelude.{◌≡◌, ℕ, zero, suc, ◌+◌, ◌*◌, ◌<◌, ◌≤◌, ℤ, pos, ◌-ℤ◌, List, length, Option, Some, None, slice_get, true}
use Rattle.mr_values.specs.Width.{set_bit, wrap}
use Rattle.mr_values.specs.Sequence.{Sequence}
use Rattle.net_graph.specs.declared.cell.Cell.{Cell}
use Rattle.net_graph.specs.declared.cell.Node.{Node}
use Rattle.net_graph.specs.declared.cell.Stream.{Stream}
use Rattle.net_graph.specs.declared.name.Name.{Name}
use Rattle.net_graph.specs.declared.name.NameKind.TheVariants.{Control, Window}
use Rattle.net_graph.specs.Cells.{NetView, cell_at}
use Rattle.net_graph.specs.Cut.{Cut, IsCut}
use Rattle.net_graph.specs.Run.{Values, IsRun, HasShape}
use Rattle.net_graph.specs.Grow.{Lengthens, Grows}
use Rattle.net_graph.specs.Control.{IsOfControl}
use Rattle.net_graph.specs.Count.{one_if, is_window, is_table, has_kind, windows_in, tables_in}
use Rattle.pipeline_balance.specs.Numbered.{IsRegister, IsCounted, IsTouched, LeavesFree, name_of}
use Rattle.pipeline_balance.specs.Bits.{IsBitsFor}
use Rattle.pipeline_balance.specs.Costs.{SameAdders, SameNamed}
use Rattle.pipeline_balance.specs.Shapes.{KeepsShapes}

-- the tick is one of first, first + period, first + 2 * period, ..
abbrev pub IsTickOf : ℕ → ℕ → ℕ → Type 0
IsTickOf period first t = (k : ℕ) × (t ≡ first + k * period)

-- the bit is control, and in every run, however it is cut, set exactly at the ticks of a kind
pub record IsBitOf (cells : List Cell) (ticks : ℕ → Type 0) (bit : Node) : Type 0 where
  pub within : bit.place < length cells
  pub control : IsOfControl cells bit.place
  pub sets : (cut : Cut) → IsCut cut → (inputs : ℕ → ℤ) (values : Values) → IsRun cut cells inputs values → (t : ℕ) → ticks t → values t bit.place ≡ set_bit
  pub clears : (cut : Cut) → IsCut cut → (inputs : ℕ → ℤ) (values : Values) → IsRun cut cells inputs values → (t : ℕ) → (ticks t → ⊥) → values t bit.place ≡ pos 0

-- The new net has a control bit without a name that is set exactly at the ticks of a kind. All nodes that it has more are control, and of names
-- only some of control are taken.
pub record IsCounter (old new : NetView) (ticks : ℕ → Type 0) (bit : Node) : Type 0 where
  pub grows : Grows old new
  pub shape : HasShape new.cells bit.place true 1
  pub nameless : shape.cell.name ≡ None
  pub bit_of : IsBitOf new.cells ticks bit
  pub names : LeavesFree old.cells new.cells (λ name. name.kind ≡ Control)
  pub adders : SameAdders old.cells new.cells
  pub named : SameNamed old.cells new.cells
  pub linear : KeepsShapes old.cells new.cells

-- In every run, however it is cut, the control node has at each tick to `first` the number of the tick, and i ticks after
-- first + k * period, with i from 1 to the period, the number first + i - period, in this width.
pub record IsCountOf (cells : List Cell) (period first width : ℕ) (count : Node) : Type 0 where
  pub within : count.place < length cells
  pub control : IsOfControl cells count.place
  pub early : (cut : Cut) → IsCut cut → (inputs : ℕ → ℤ) (values : Values) → IsRun cut cells inputs values → (t : ℕ) → t ≤ first → values t count.place ≡ wrap width (pos t)
  pub again : (cut : Cut) → IsCut cut → (inputs : ℕ → ℤ) (values : Values) → IsRun cut cells inputs values → (k i : ℕ) → 1 ≤ i → i ≤ period
      → values (first + k * period + i) count.place ≡ wrap width (pos (first + i) -ℤ pos period)

-- the new net has a register of control with the least number of bits, at least 1, that number 0 to `last`
pub record AddsCount (old new : List Cell) (last : ℕ) : Type 0 where
  pub place : ℕ
  pub added : length old ≤ place
  pub number : ℕ
  pub width : ℕ
  pub register : IsRegister new place 0 (name_of 0 Control number) width
  pub least : IsBitsFor last width

-- a gate of a stream: a bit that is set exactly at the stream's ticks, or none where every tick is one of the stream
abbrev pub IsGate : List Cell → ℕ → ℕ → Option Node → Type 0
IsGate cells period offset None = (period ≡ 1) × (offset ≡ 0)
IsGate cells period offset (Some bit) = IsBitOf cells (IsTickOf period offset) bit

-- the new net has such a gate
pub record AddsGate (old new : NetView) (period offset : ℕ) (gate : Option Node) : Type 0 where
  pub grows : Grows old new
  pub is_gate : IsGate new.cells period offset gate
  pub names : LeavesFree old.cells new.cells (λ name. name.kind ≡ Control)
  pub adders : SameAdders old.cells new.cells
  pub named : SameNamed old.cells new.cells
  pub linear : KeepsShapes old.cells new.cells

-- so many of the ticks first, first + period, .. lie before this one
abbrev pub HasTaken : ℕ → ℕ → ℕ → ℕ → Type 0
HasTaken period first zero t = t ≤ first
HasTaken period first (suc k) t = (first + k * period < t) × (t ≤ first + suc k * period)

-- of the first `taken` values the one that came `age` values before the last, and 0 where there is none
abbrev pub taken_value : (ℕ → ℤ) → ℕ → ℕ → ℤ
taken_value v zero age = pos 0
taken_value v (suc k) zero = v k
taken_value v (suc k) (suc age) = taken_value v k age

-- the values that a stream's node has at the stream's ticks
abbrev pub shown : Values → Stream → ℕ → ℤ
shown values stream k = values (stream.offset + k * stream.period) stream.node.place

-- the stream shows v[k] at the tick offset + k * period
abbrev pub Carries : Values → Stream → Sequence → Type 0
Carries values stream v = (k : ℕ) → shown values stream k ≡ v (pos k)

-- at every tick of every run, however it is cut, the register has the stream's value that was taken `age` values before the last,
-- and 0 before there was one
pub record Holds (cells : List Cell) (from : Stream) (age : ℕ) (to : Node) : Type 0 where
  pub within : to.place < length cells
  pub holds : (cut : Cut) → IsCut cut → (inputs : ℕ → ℤ) (values : Values) → IsRun cut cells inputs values → (t taken : ℕ) → HasTaken from.period from.offset taken t → values t to.place ≡ taken_value (shown values from) taken age

-- The new net has such a register, as wide as the stream's node, of the net's group and of this name. It grows as by a stage where the name is
-- of that group too.
pub record IsTaken (old new : NetView) (from : Stream) (name : Name) (to : Node) : Type 0 where
  pub lengthens : Lengthens old new
  pub grows : name.group ≡ old.group → Grows old new
  pub register : IsRegister new.cells to.place old.group name (cell_at old.cells from.node.place).width
  pub holds : Holds new.cells from 0 to
  pub names : LeavesFree old.cells new.cells (λ other. other ≡ name)
  pub adders : SameAdders old.cells new.cells
  pub windows : (group : ℕ) → windows_in group new.cells ≡ windows_in group old.cells + one_if (has_kind is_window group (Some name))
  pub tables : (group : ℕ) → tables_in group new.cells ≡ tables_in group old.cells + one_if (has_kind is_table group (Some name))
  pub linear : KeepsShapes old.cells new.cells

-- the new net has registers with the last values of the stream, newest first; where the net's window registers have the numbers
-- below one, these are numbered on from it; they are so many window registers more of the group
pub record IsWindow (old new : NetView) (from : Stream) (nodes : List Node) : Type 0 where
  pub grows : Grows old new
  pub holds : (age : ℕ) (node : Node) → slice_get nodes age ≡ Some node → Holds new.cells from age node
  pub registers : (number : ℕ) → IsCounted old.cells old.group Window number → (age : ℕ) (node : Node) → slice_get nodes age ≡ Some node → IsRegister new.cells node.place old.group (name_of old.group Window (number + age)) (cell_at old.cells from.node.place).width
  pub counted : (number : ℕ) → IsCounted old.cells old.group Window number → IsCounted new.cells old.group Window (number + length nodes)
  pub names : LeavesFree old.cells new.cells (IsTouched old.group Window)
  pub adders : SameAdders old.cells new.cells
  pub windows : windows_in old.group new.cells ≡ windows_in old.group old.cells + length nodes
  pub tables : tables_in old.group new.cells ≡ tables_in old.group old.cells
  pub linear : KeepsShapes old.cells new.cells
