use Rattle.std.proofs.Common.{arith}
use Rattle.verilog_lex.proofs.Lexing.{read_all}
use Rattle.verilog_lex.proofs.whole.lex.Goals as goal

pub returns : goal.returns
returns c = read_all c.args.bytes.now c.scanning.at c.scanning.names.names.items c.scanning.items.items (omega arith) c.scanning.invariant.read
