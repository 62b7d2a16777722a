-- The registers of a linear stage in its net: each holds its sums, in the run as uncut, and has the least width for them.
use Rattle.std.specs.Prelude.{◌≡◌, ℕ, ◌+◌, ◌*◌, ◌<◌, ◌≤◌, max, ℤ, pos, List, length, map, Some, slice_get}
use Rattle.std.specs.Int.{IsGcd}
use Rattle.mr_values.specs.Sequence.{Sequence, filter}
use Rattle.net_graph.specs.declared.cell.Cell.{Cell}
use Rattle.net_graph.specs.declared.cell.Node.{Node}
use Rattle.net_graph.specs.declared.cell.Stream.{Stream}
use Rattle.net_graph.specs.declared.name.NameKind.{NameKind}
use Rattle.net_graph.specs.declared.name.NameKind.TheVariants.{Control}
use Rattle.net_graph.specs.Cells.{cell_at}
use Rattle.net_graph.specs.Cut.{Cut, IsCut, cut_all, cut_control}
use Rattle.net_graph.specs.Run.{Values, IsRun}
use Rattle.net_graph.specs.WellFormed.{IsFree}
use Rattle.pipeline_balance.specs.Gate.{Carries}
use Rattle.pipeline_balance.specs.Numbered.{IsRegister, name_of}
use Rattle.stage_law.specs.Facts.{StageFacts}
use Rattle.stage_law.specs.Range.{InClass}
use Rattle.stage_law.specs.Registers.{HeldSum, StageRegister, Telling, TellsRanges, NamedPeak, bits_of, peaks_of}
use Rattle.stage_law.specs.Streams.{Streams, magnitudes}
use Rattle.stage_law.specs.Weights.{weights_of}
use Rattle.stage_law.specs.declared.stage.Peak.{Peak}

-- ---- one register

-- the node has the same value in the run and in the uncut run, where the stream carries one of these in both
pub record IsKeptWhole (streams : Streams) (cells : List Cell) (from : Stream) (node : Node) : Type 0 where
  pub same : (inputs : ℕ → ℤ) (values whole : Values) (v : Sequence) → streams v → IsRun cut_all cells inputs values → IsRun cut_control cells inputs whole
      → Carries values from v → Carries whole from v → (t : ℕ) → values t node.place ≡ whole t node.place

-- in every run, however it is cut, where the stream carries one of these, the node holds the sum so many ticks after each value of the class
pub record HoldsSum (streams : Streams) (cells : List Cell) (from : Stream) (node : Node) (s : HeldSum) : Type 0 where
  pub at : (cut : Cut) → IsCut cut → (inputs : ℕ → ℤ) (values : Values) (v : Sequence) → streams v → IsRun cut cells inputs values → Carries values from v
      → (k : ℕ) → InClass s.class k → values (from.offset + k * from.period + s.lag) node.place ≡ filter s.form v (pos k)

-- The net has this register of its group. It holds its sums, in the run as uncut, and is as wide as these need, whatever tells their ranges.
pub record HasStageRegister (streams : Streams) (cells : List Cell) (group : ℕ) (from : Stream) (r : StageRegister) : Type 0 where
  pub node : Node
  pub width : ℕ
  pub register : IsRegister cells node.place group (name_of group r.kind r.number) width
  pub least : (range : Telling) → TellsRanges streams range → width ≡ bits_of range r.sums
  pub holds : (i : ℕ) (s : HeldSum) → slice_get r.sums i ≡ Some s → HoldsSum streams cells from node s
  pub kept_whole : IsKeptWhole streams cells from node

-- ---- all registers

-- the list has a register of this kind and number
pub record IsListed (registers : List StageRegister) (kind : NameKind) (number : ℕ) : Type 0 where
  pub index : ℕ
  pub r : StageRegister
  pub there : slice_get registers index ≡ Some r
  pub is_kind : r.kind ≡ kind
  pub is_number : r.number ≡ number

-- A sum is due soon after its value, of few values, no greater than twice what the stage gives, or a single value. The modulus of its class
-- divides `down` over the greatest common divisor of `up` and `down`: so many values of the stream pass in a round of the stage's phases.
-- Crochiere and Rabiner, Multirate Digital Signal Processing, 3.3.
pub record IsTimely (facts : StageFacts) (period : ℕ) (s : HeldSum) : Type 0 where
  pub class : s.class.residue < s.class.modulus
  pub soon : s.lag ≤ period + facts.delay period
  pub short : length s.form ≤ facts.longest
  pub small : magnitudes s.form ≤ max 1 (2 * facts.gain)
  pub shared : ℕ
  pub greatest : IsGcd facts.up facts.down shared
  pub times : ℕ
  pub divides : facts.down ≡ shared * (times * s.class.modulus)

-- a peak with the name of its register
abbrev pub named_peak : List Cell → Peak → NamedPeak
named_peak cells peak = record {
  name = (cell_at cells peak.register.place).name;
  sum = record { form = weights_of peak.sum; class = peak.class; lag = peak.lag };
  high = peak.high;
}

-- The names of the group, but for control, are those of the list's registers, and each has its register. The peaks are those of the list,
-- in its order.
pub record HasRegisters (facts : StageFacts) (streams : Streams) (cells : List Cell) (group : ℕ) (from : Stream) (peaks : List Peak) : Type 0 where
  pub some : (i : ℕ) (r : StageRegister) → slice_get (facts.registers from.period) i ≡ Some r → 1 ≤ length r.sums
  pub timely : (i j : ℕ) (r : StageRegister) (s : HeldSum) → slice_get (facts.registers from.period) i ≡ Some r → slice_get r.sums j ≡ Some s → IsTimely facts from.period s
  pub each : (i : ℕ) (r : StageRegister) → slice_get (facts.registers from.period) i ≡ Some r → HasStageRegister streams cells group from r
  pub only : (kind : NameKind) (number : ℕ) → (kind ≡ Control → ⊥) → (IsFree cells (name_of group kind number) → ⊥) → IsListed (facts.registers from.period) kind number
  pub told : (range : Telling) → TellsRanges streams range → map (named_peak cells) peaks ≡ peaks_of range group (facts.registers from.period)
