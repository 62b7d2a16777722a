use Rattle.std.proofs.Common.{◌≡◌, ◌++◌, drop}
use Rattle.verilog_text.specs.Reading.{with_places}
use Rattle.verilog_read.proofs.places.placed_signals.Given as goal

abbrev pub invariant-loop-k : goal.invariant-loop-k
invariant-loop-k l = l.all.items ++ with_places (drop l.k l.places) (drop l.k l.signals) ≡ with_places l.places l.signals
