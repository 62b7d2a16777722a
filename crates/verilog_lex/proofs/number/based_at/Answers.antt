use Rattle.std.proofs.Common.{arith, sym}
use Rattle.verilog_lex.proofs.Literals.{based_found, based_missing, baseless, tail_is}
use Rattle.verilog_lex.proofs.number.based_at.Goals as goal

pub returns-in-Some-digits_at : goal.returns-in-Some-digits_at
returns-in-Some-digits_at c = based_found c.args.size c.args.signed c.in-Some.base c.args.bytes.now c.in-Some-digits_at.len _ (omega arith) (sym c.in-Some.ensures.value) (rw (tail_is c.args.bytes.now) at c.in-Some-digits_at.ensures)

pub returns-in-None-digits_at : goal.returns-in-None-digits_at
returns-in-None-digits_at c = based_missing c.args.size c.args.signed c.in-Some.base c.args.bytes.now (omega arith) (sym c.in-Some.ensures.value) (rw (tail_is c.args.bytes.now) at c.in-None-digits_at.ensures)

pub returns-in-None : goal.returns-in-None
returns-in-None c = baseless c.args.size c.args.signed c.args.bytes.now (omega arith) (sym c.in-None.ensures.value)
