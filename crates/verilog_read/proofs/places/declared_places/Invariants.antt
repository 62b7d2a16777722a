use Rattle.std.proofs.Common.{◌≡◌, ◌++◌, false, map, drop}
use Rattle.verilog_lex.specs.Lexed.{standing_view}
use Rattle.verilog_read.specs.Places.{declared_in}
use Rattle.verilog_read.proofs.places.declared_places.Given as goal

abbrev pub invariant-loop-item : goal.invariant-loop-item
invariant-loop-item l = l.places.items ++ declared_in l.declares (map standing_view (drop l.item-index l.items)) ≡ declared_in false (map standing_view l.items)
