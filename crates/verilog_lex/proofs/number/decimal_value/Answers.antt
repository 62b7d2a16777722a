use Rattle.std.proofs.Common.{◌^◌, arith}
use Rattle.verilog_lex.proofs.Numbers.{decimal_step}
use Rattle.verilog_lex.proofs.number.decimal_value.Goals as goal

pub loop-b-preserved : goal.loop-b-preserved
loop-b-preserved c = record {
  low = omega arith;
  same = decimal_step c.loop-b.value c.decimal_with-value.result c.loop-b.b-index _ (2 ^ 31) c.args.digits.now (omega arith) c.decimal_with-value.ensures c.loop-b.invariant.same;
}
