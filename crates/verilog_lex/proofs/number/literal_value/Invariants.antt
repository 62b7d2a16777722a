use Rattle.std.proofs.Common.{◌≡◌, drop}
use Rattle.verilog_text.specs.Lexer.{value_behind}
use Rattle.verilog_lex.proofs.number.literal_value.Given as goal

abbrev pub invariant-loop-b : goal.invariant-loop-b
invariant-loop-b l = value_behind l.base l.value (drop l.b-index l.digits) ≡ value_behind l.base 0 l.digits
