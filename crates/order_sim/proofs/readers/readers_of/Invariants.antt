use Rattle.std.proofs.Common.{◌≡◌}
use Rattle.verilog_tree.specs.Cycle.{circuit_of}
use Rattle.verilog_tree.specs.View.{design_view}
use Rattle.order_sim.specs.Drawing.{reading_places}
use Rattle.order_sim.proofs.readers.readers_of.Given as goal

abbrev pub invariant-loop-reader : goal.invariant-loop-reader
invariant-loop-reader l = l.places.items ≡ reading_places (circuit_of (design_view l.design)) l.place l.reader
