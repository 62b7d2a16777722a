use Rattle.verilog_lex.proofs.Literals.{room}
use Rattle.verilog_lex.proofs.number.has_room.Goals as goal

pub returns-else-size-eq128 : goal.returns-else-size-eq128
returns-else-size-eq128 c = room c.args.value c.args.size
