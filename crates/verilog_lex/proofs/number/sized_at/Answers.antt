use Rattle.std.proofs.Common.{arith, sym, ◌∙◌}
use Rattle.verilog_lex.proofs.Literals.{signed_found, signed_missing, unsigned_result, tail_is}
use Rattle.verilog_lex.proofs.number.sized_at.Goals as goal

pub returns-in-Some : goal.returns-in-Some
returns-in-Some c = signed_found c.args.size c.args.bytes.now c.in-Some.len _ (omega arith) (sym c.is_sign.ensures ∙ c.if-is_sign.true) (rw (tail_is c.args.bytes.now) at c.in-Some.ensures)

pub returns-in-None : goal.returns-in-None
returns-in-None c = signed_missing c.args.size c.args.bytes.now (omega arith) (sym c.is_sign.ensures ∙ c.if-is_sign.true) (rw (tail_is c.args.bytes.now) at c.in-None.ensures)

pub returns-else-is_sign : goal.returns-else-is_sign
returns-else-is_sign c = unsigned_result c.args.size c.args.bytes.now _ (omega arith) (sym c.is_sign.ensures ∙ c.if-is_sign.false) c.based_at-else-is_sign.ensures
