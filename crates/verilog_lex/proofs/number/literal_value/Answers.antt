use Rattle.std.proofs.Common.{◌^◌, arith}
use Rattle.verilog_lex.proofs.Numbers.{literal_over}
use Rattle.verilog_lex.proofs.number.literal_value.Goals as goal

pub returns-in-None : goal.returns-in-None
returns-in-None c = literal_over c.args.base c.loop-b.value c.loop-b.b-index _ (2 ^ 128) c.args.digits.now c.requires (omega arith) c.loop-b.invariant c.in-None.ensures
