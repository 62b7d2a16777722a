use Rattle.std.proofs.Common.{◌≡◌, ℕ, ◌*◌, ◌%◌, ◌<◌, length, slice_get, Some}
use Rattle.folded_fir.specs.declared.cells.Slot.{Slot}
use Rattle.folded_fir.specs.Cells.{cells_of}
use Rattle.folded_fir.proofs.cells.adder_cells.Given as goal

abbrev pub invariant-loop-slot : goal.invariant-loop-slot
invariant-loop-slot l = record {
  many : length l.cells.items ≡ l.slot-index;
  each : (k : ℕ) (x : Slot) → k < length l.cells.items → slice_get l.fn.slots k ≡ Some x → slice_get l.cells.items k ≡ Some (cells_of l.fn.schedule (x.output * l.fn.rates.down % l.fn.rates.up) l.fn.adder x.slot);
}
