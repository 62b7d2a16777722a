use Rattle.std.proofs.Common.{◌≤◌, ◌-◌, length}
use Rattle.verilog_lex.specs.Known.{Knows}
use Rattle.verilog_lex.specs.Lexed.{IsReadTo}
use Rattle.verilog_lex.proofs.whole.lex.Given as goal

abbrev pub invariant-scanning : goal.invariant-scanning
invariant-scanning l = record { within : l.at ≤ length l.bytes; knows : Knows l.names; read : IsReadTo l.bytes l.at l.names.names.items l.items.items }

abbrev pub decreases-scanning : goal.decreases-scanning
decreases-scanning l = length l.bytes - l.at
