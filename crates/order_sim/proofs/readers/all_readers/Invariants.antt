use Rattle.std.proofs.Common.{◌≡◌, ℕ, Some, length, slice_get}
use Rattle.verilog_tree.specs.Cycle.{circuit_of}
use Rattle.verilog_tree.specs.View.{design_view}
use Rattle.order_sim.specs.declared.readers.Readers.{Readers}
use Rattle.order_sim.specs.Drawing.{reading_places}
use Rattle.order_sim.proofs.readers.all_readers.Given as goal

abbrev pub invariant-loop-place : goal.invariant-loop-place
invariant-loop-place l = record {
  count : length l.all.items ≡ l.place;
  each : (k : ℕ) (r : Readers) → slice_get l.all.items k ≡ Some r → r.places.items ≡ reading_places (circuit_of (design_view l.design)) k (length l.design.assigns.items);
}
