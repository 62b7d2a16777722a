-- Accumulators that take one term in each slot of an output.
use Rattle.std.specs.Prelude.{◌≡◌, ℕ, suc, ◌+◌, ◌*◌, ◌/◌, ◌%◌, ◌<◌, ℤ, pos, ◌+ℤ◌, ◌-ℤ◌, List, length}
use Rattle.mr_values.specs.Sequence.{Sequence}
use Rattle.mr_values.specs.Width.{FitsWidth, chosen}
use Rattle.net_graph.specs.declared.cell.Cell.{Cell}
use Rattle.net_graph.specs.declared.cell.Node.{Node}
use Rattle.net_graph.specs.declared.cell.Stream.{Stream}
use Rattle.net_graph.specs.declared.name.Name.{Name}
use Rattle.net_graph.specs.declared.name.NameKind.TheVariants.{Register}
use Rattle.net_graph.specs.Cells.{NetView}
use Rattle.net_graph.specs.Control.{IsOfControl}
use Rattle.net_graph.specs.Count.{adders_in}
use Rattle.net_graph.specs.Cut.{Cut, IsCut}
use Rattle.net_graph.specs.Depth.{IsPlain, IsShallow}
use Rattle.net_graph.specs.Grow.{Grows}
use Rattle.net_graph.specs.Run.{Values, IsRun}
use Rattle.pipeline_balance.specs.Costs.{SameNamed}
use Rattle.pipeline_balance.specs.Gate.{Carries}
use Rattle.pipeline_balance.specs.Numbered.{IsRegister, IsCounted, IsTouched, LeavesFree, name_of}
use Rattle.pipeline_balance.specs.Shapes.{KeepsShapes}
use Rattle.stage_law.specs.Streams.{Streams}
use Rattle.fold_schedule.specs.Sums.{taken}
use Rattle.folded_fir.specs.Rounds.{Rounds, newest_of}
use Rattle.folded_fir.specs.Cells.{Table}

-- In each run, however it is cut, in which the stream carries one of these streams, the node is 0 before the first output's first slot. In each
-- slot it is the term that the accumulator takes there, of the values that the output takes, and 0 where it takes none.
pub record GivesCells (streams : Streams) (cells : List Cell) (from : Stream) (o : Rounds) (table : Table) (adder : ℕ) (node : Node) : Type 0 where
  pub early : (cut : Cut) → IsCut cut → (inputs : ℕ → ℤ) (values : Values) (v : Sequence) → streams v → IsRun cut cells inputs values → Carries values from v
      → (t : ℕ) → t < from.offset + 2 → values t node.place ≡ pos 0
  pub slots : (cut : Cut) → IsCut cut → (inputs : ℕ → ℤ) (values : Values) (v : Sequence) → streams v → IsRun cut cells inputs values → Carries values from v
      → (n s t : ℕ) → s < o.period → t ≡ from.offset + 2 + n * o.period + s → values t node.place ≡ taken (λ i. v (pos (newest_of o n) -ℤ pos (i / o.up))) (table (n % o.round) adder s)

-- what the accumulator goes on from: its own value, or 0 where it is cleared
abbrev pub kept_sum : Values → ℕ → Node → Node → ℤ
kept_sum values t clear sum = chosen (values t clear.place) (pos 0) (values t sum.place)

-- The node is a register of this name and width. In every run, however it is cut, it begins with 0 and then takes the sum of what it goes on from
-- and the operand, wherever this fits.
pub record IsAccumulator (cells : List Cell) (group : ℕ) (name : Name) (clear operand : Node) (width : ℕ) (sum : Node) : Type 0 where
  pub register : IsRegister cells sum.place group name width
  pub starts : (cut : Cut) → IsCut cut → (inputs : ℕ → ℤ) (values : Values) → IsRun cut cells inputs values → values 0 sum.place ≡ pos 0
  pub takes : (cut : Cut) → IsCut cut → (inputs : ℕ → ℤ) (values : Values) → IsRun cut cells inputs values → (t : ℕ) → FitsWidth width (kept_sum values t clear sum +ℤ values t operand.place)
      → values (suc t) sum.place ≡ kept_sum values t clear sum +ℤ values t operand.place

-- The new net has one such register more, with the next free number, and one adder more of its group.
pub record AddsAccumulator (old new : NetView) (clear operand : Node) (width : ℕ) (sum : Node) : Type 0 where
  pub grows : Grows old new
  pub adders : adders_in old.group new.cells ≡ adders_in old.group old.cells + 1
  pub named : SameNamed old.cells new.cells
  pub accumulator : (count : ℕ) → IsCounted old.cells old.group Register count → IsAccumulator new.cells old.group (name_of old.group Register count) clear operand width sum
  pub within : sum.place < length new.cells
  pub counted : (count : ℕ) → IsCounted old.cells old.group Register count → IsCounted new.cells old.group Register (suc count)
  pub names : LeavesFree old.cells new.cells (IsTouched old.group Register)
  pub linear : IsOfControl old.cells clear.place → KeepsShapes old.cells new.cells
  pub shallow : IsShallow old.cells old.group → IsPlain old.cells old.group clear.place → IsPlain old.cells old.group operand.place → IsShallow new.cells old.group
