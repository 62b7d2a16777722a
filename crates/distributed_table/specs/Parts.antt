-- What a part of the stage adds to a net.
use Rattle.std.specs.Prelude.{◌≡◌, ℕ, ◌+◌, ◌<◌, ◌≤◌, pos, false}
use Rattle.net_graph.specs.declared.name.Name.{Name}
use Rattle.net_graph.specs.Cells.{NetView}
use Rattle.net_graph.specs.Count.{adders_in, windows_in, tables_in}
use Rattle.net_graph.specs.Cut.{Cut}
use Rattle.net_graph.specs.Grow.{Grows}
use Rattle.pipeline_balance.specs.Numbered.{LeavesFree}
use Rattle.bit_serial.specs.Bits.{KeepsBits}
use Rattle.bit_serial.specs.Tables.{Shows}

-- The new net has more nodes of its group and of control, among them so many adders and tables of its group and no window register. Of names
-- only those that are told are taken.
pub record AddsPart (old new : NetView) (touched : Name → Type 0) (adders tables : ℕ) : Type 0 where
  pub grows : Grows old new
  pub counts : adders_in old.group new.cells ≡ adders_in old.group old.cells + adders
  pub windows : windows_in old.group new.cells ≡ windows_in old.group old.cells
  pub tabled : tables_in old.group new.cells ≡ tables_in old.group old.cells + tables
  pub names : LeavesFree old.cells new.cells touched

-- What a cut of data nodes does with bits: it keeps the lowest of a width, and a bit that is selected shows itself.
pub record KeepsTheBits (cut : Cut) : Type 0 where
  pub copies : (width : ℕ) → 1 ≤ width → KeepsBits width (cut false width)
  pub shows : (bit : ℕ) → bit < 2 → Shows (cut false 1 (pos bit)) bit
