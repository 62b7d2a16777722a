-- Copies that are shifted up.
use Rattle.std.specs.Prelude.{◌≡◌, ℕ, suc, ◌+◌, ◌-◌, ◌*◌, ◌<◌, false, ℤ, List, length, get_or, Some, slice_get}
use Rattle.net_graph.specs.declared.cell.Cell.{Cell}
use Rattle.net_graph.specs.declared.cell.Node.{Node}
use Rattle.net_graph.specs.declared.cell.Item.TheVariants.{Bits, Register}
use Rattle.net_graph.specs.declared.name.NameKind.TheVariants.{Copy}
use Rattle.net_graph.specs.Cells.{NetView}
use Rattle.net_graph.specs.Cut.{Cut, IsCut}
use Rattle.net_graph.specs.Run.{Values, IsRun}
use Rattle.pipeline_balance.specs.Numbered.{IsTouched}
use Rattle.bit_serial.specs.Bits.{bit_of, shifted}
use Rattle.bit_serial.specs.Tables.{Shows}
use Rattle.distributed_table.specs.Parts.{AddsPart, KeepsTheBits}

-- the node at this place selects bits of a register
pub record SelectsRegister (cells : List Cell) (place : ℕ) : Type 0 where
  pub cell : Cell
  pub there : slice_get cells place ≡ Some cell
  pub of : Node
  pub high : ℕ
  pub low : ℕ
  pub selects : cell.item ≡ Some (Bits of high low)
  pub register : Cell
  pub register_there : slice_get cells of.place ≡ Some register
  pub next : Node
  pub registered : register.item ≡ Some (Register next)

-- In every run, cut or uncut, the node shows from the tick after first + n * period on, one at each tick of the period, the bits of what
-- `from` had at that tick, cut and shifted up: of the copy's bits always the highest.
pub record ShowsBits (cells : List Cell) (period first width : ℕ) (from high : Node) : Type 0 where
  pub within : high.place < length cells
  pub selects : SelectsRegister cells high.place
  pub shows : (cut : Cut) → IsCut cut → KeepsTheBits cut → (inputs : ℕ → ℤ) (values : Values) → IsRun cut cells inputs values → (n j : ℕ) → j < period
      → Shows (values (first + n * period + suc j) high.place) (bit_of (width - 1) (shifted (cut false width) j (values (first + n * period) from.place)))

-- the new net has one more copy
pub record AddsCopy (old new : NetView) (period first width : ℕ) (from high : Node) : Type 0 where
  pub part : AddsPart old new (IsTouched old.group Copy) 0 0
  pub shows : ShowsBits new.cells period first width from high

-- a node of a list by its place, the node at place 0 behind the last
abbrev pub node_at : List Node → ℕ → Node
node_at nodes place = get_or nodes place (record { place = 0 })

-- the new net has a copy for each of these nodes, from the first on
pub record AddsCopies (old new : NetView) (period first width : ℕ) (window highs : List Node) : Type 0 where
  pub part : AddsPart old new (IsTouched old.group Copy) 0 0
  pub each : (age : ℕ) → age < length highs → ShowsBits new.cells period first width (node_at window age) (node_at highs age)
