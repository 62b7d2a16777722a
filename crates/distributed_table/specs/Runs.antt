-- The registers of the runs of a filter.
use Rattle.std.specs.Prelude.{◌≡◌, ℕ, ◌+◌, ◌*◌, ◌<◌, ◌≤◌, false, ℤ, List, length, Some, slice_get}
use Rattle.mr_values.specs.Sequence.{weighted_sum}
use Rattle.net_graph.specs.declared.cell.Cell.{Cell}
use Rattle.net_graph.specs.declared.cell.Leaf.{Leaf}
use Rattle.net_graph.specs.declared.cell.Node.{Node}
use Rattle.net_graph.specs.declared.name.Name.{Name}
use Rattle.net_graph.specs.declared.name.NameKind.TheVariants.{Register}
use Rattle.net_graph.specs.Cells.{NetView}
use Rattle.net_graph.specs.Cut.{Cut, IsCut}
use Rattle.net_graph.specs.Depth.{IsShallow}
use Rattle.net_graph.specs.Run.{Values, IsRun}
use Rattle.net_graph.specs.Tables.{HasTables}
use Rattle.net_graph.specs.WellFormed.{IsBound}
use Rattle.stage_law.specs.declared.ranges.Range.{Range}
use Rattle.pipeline_balance.specs.Gate.{IsTickOf, IsBitOf}
use Rattle.pipeline_balance.specs.Numbered.{IsRegister, name_of}
use Rattle.bit_serial.specs.Ends.{AllWithin}
use Rattle.bit_serial.specs.Serial.{AllFit}
use Rattle.bit_serial.specs.Tables.{run}
use Rattle.distributed_table.specs.Parts.{AddsPart, KeepsTheBits}
use Rattle.distributed_table.specs.Copies.{SelectsRegister, ShowsBits, node_at}

-- how a filter is cut into runs and into bits: the taps, so many to a run; the values in so many bits, from low to high
pub record Serial : Type 0 where
  pub taps : List ℤ
  pub size : ℕ
  pub bits : ℕ
  pub low : ℤ
  pub high : ℤ

-- when it begins: the window stands at the ticks start + n * period
pub record Pace : Type 0 where
  pub period : ℕ
  pub start : ℕ

-- the numbers of a window at the tick start + n * period
abbrev pub window_at : Values → List Node → Pace → ℕ → ℕ → ℤ
window_at values window pace n k = values (pace.start + n * pace.period) (node_at window k).place

abbrev pub serial_of : List ℤ → ℕ → ℕ → Range → Serial
serial_of taps size bits values = record { taps = taps; size = size; bits = bits; low = values.lo; high = values.hi }

-- each of these nodes shows the bits of one of the window
pub record AreCopied (cells : List Cell) (pace : Pace) (bits : ℕ) (window highs : List Node) : Type 0 where
  pub each : (age : ℕ) → age < length highs → ShowsBits cells pace.period pace.start bits (node_at window age) (node_at highs age)

-- the bits are shown, all within a period, and another bit tells where they begin
pub record IsRunReady (cells : List Cell) (pace : Pace) (bits : ℕ) (window highs : List Node) (begin : Node) : Type 0 where
  pub some : 1 ≤ bits
  pub enough : bits ≤ pace.period
  pub copies : AreCopied cells pace bits window highs
  pub begins : IsBitOf cells (IsTickOf pace.period (pace.start + 1)) begin

-- The leaf is a register of the group with the number of a run. In every run of the net, cut or uncut, it has, one tick and so many as there
-- are bits after each tick of the window, the sum of products over what the window had at that tick.
pub record SumsRun (cells : List Cell) (group : ℕ) (serial : Serial) (pace : Pace) (window : List Node) (number : ℕ) (leaf : Leaf) : Type 0 where
  pub width : ℕ
  pub some : 1 ≤ width
  pub most : width ≤ 127
  pub register : IsRegister cells leaf.node.place group (name_of group Register number) width
  pub whole : leaf.place ≡ 0
  pub added : leaf.negative ≡ false
  pub sums : (cut : Cut) → IsCut cut → KeepsTheBits cut → (inputs : ℕ → ℤ) (values : Values) → IsRun cut cells inputs values → (n : ℕ)
      → AllFit serial.bits serial.taps (window_at values window pace n) → AllWithin serial.taps serial.low serial.high (window_at values window pace n)
      → values (pace.start + n * pace.period + (serial.bits + 1)) leaf.node.place ≡ weighted_sum (run serial.size serial.taps number) (λ k. window_at values window pace n (number * serial.size + k))

-- a name of the group with this number
abbrev pub IsNumbered : ℕ → ℕ → Name → Type 0
IsNumbered group number name = (name.group ≡ group) × (name.number ≡ number)

-- a name of the group with a number below this one
abbrev pub IsBelow : ℕ → ℕ → Name → Type 0
IsBelow group count name = (name.group ≡ group) × (name.number < count)

-- no adder stands before these nodes: each selects bits of a register
pub record AreSelected (cells : List Cell) (highs : List Node) : Type 0 where
  pub each : (k : ℕ) → k < length highs → SelectsRegister cells (node_at highs k).place

-- the new net has the table and the register of a run
pub record AddsRun (old new : NetView) (serial : Serial) (pace : Pace) (window highs : List Node) (number : ℕ) (leaf : Leaf) : Type 0 where
  pub part : AddsPart old new (IsNumbered old.group number) 2 1
  pub tables : IsBound old.cells → HasTables old.cells → HasTables new.cells
  pub shallow : IsShallow old.cells old.group → AreSelected old.cells highs → IsShallow new.cells old.group
  pub sums : SumsRun new.cells old.group serial pace window number leaf

-- the new net has those of the first so many runs
pub record AddsRuns (old new : NetView) (serial : Serial) (pace : Pace) (window highs : List Node) (count : ℕ) (leaves : List Leaf) : Type 0 where
  pub part : AddsPart old new (IsBelow old.group count) (count * 2) count
  pub tables : IsBound old.cells → HasTables old.cells → HasTables new.cells
  pub shallow : IsShallow old.cells old.group → AreSelected old.cells highs → IsShallow new.cells old.group
  pub many : length leaves ≡ count
  pub each : (k : ℕ) (leaf : Leaf) → slice_get leaves k ≡ Some leaf → SumsRun new.cells old.group serial pace window k leaf
