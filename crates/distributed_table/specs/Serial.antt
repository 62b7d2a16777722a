-- Accumulators that take a sum bit by bit.
use Rattle.std.specs.Prelude.{◌≡◌, ℕ, zero, suc, ◌+◌, ◌*◌, ◌<◌, ◌≤◌, false, ℤ, pos, ◌+ℤ◌, ◌-ℤ◌, ◌*ℤ◌, List, length}
use Rattle.net_graph.specs.declared.cell.Cell.{Cell}
use Rattle.net_graph.specs.declared.cell.Node.{Node}
use Rattle.net_graph.specs.declared.name.NameKind.TheVariants.{Register}
use Rattle.net_graph.specs.Cells.{NetView}
use Rattle.net_graph.specs.Cut.{Cut, IsCut}
use Rattle.net_graph.specs.Depth.{IsPlain, IsShallow}
use Rattle.net_graph.specs.Run.{Values, IsRun}
use Rattle.pipeline_balance.specs.Numbered.{IsRegister, name_of}
use Rattle.distributed_table.specs.Parts.{AddsPart}

-- the first number subtracted, and then at each step twice the sum so far and the next number
abbrev pub accumulated : (ℕ → ℤ) → ℕ → ℤ
accumulated f zero = pos 0 -ℤ f zero
accumulated f (suc j) = accumulated f j *ℤ pos 2 +ℤ f (suc j)

-- In every run, cut or uncut, the node has in the period after first + n * period, one tick later, what is accumulated of the other node's
-- values from that tick on, as long as the cut to its width keeps each sum.
pub record IsSerial (cells : List Cell) (period first : ℕ) (table : Node) (width : ℕ) (sum : Node) : Type 0 where
  pub within : sum.place < length cells
  pub held : (cut : Cut) → IsCut cut → (inputs : ℕ → ℤ) (values : Values) → IsRun cut cells inputs values → (n j : ℕ) → j < period
      → ((i : ℕ) → i ≤ j → cut false width (accumulated (λ k. values (first + n * period + k) table.place) i) ≡ accumulated (λ k. values (first + n * period + k) table.place) i)
      → values (first + n * period + suc j) sum.place ≡ accumulated (λ k. values (first + n * period + k) table.place) j

-- the new net has such a register of this number
pub record AddsAccumulator (old new : NetView) (period first : ℕ) (table : Node) (number width : ℕ) (sum : Node) : Type 0 where
  pub part : AddsPart old new (λ name. name ≡ name_of old.group Register number) 2 0
  pub shallow : IsShallow old.cells old.group → IsPlain old.cells old.group table.place → IsShallow new.cells old.group
  pub register : IsRegister new.cells sum.place old.group (name_of old.group Register number) width
  pub serial : IsSerial new.cells period first table width sum
