use Rattle.std.proofs.Common.{◌≡◌, ◌≤◌, ◌^◌, drop}
use Rattle.std.specs.Prelude.{min}
use Rattle.verilog_text.specs.Lexer.{value_behind}
use Rattle.verilog_lex.proofs.number.decimal_value.Given as goal

abbrev pub invariant-loop-b : goal.invariant-loop-b
invariant-loop-b l = record { low : l.value ≤ 2 ^ 31; same : min (value_behind 10 l.value (drop l.b-index l.digits)) (2 ^ 31) ≡ min (value_behind 10 0 l.digits) (2 ^ 31) }
