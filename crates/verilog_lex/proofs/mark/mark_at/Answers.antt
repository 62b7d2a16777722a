use Rattle.std.proofs.Common.{arith}
use Rattle.verilog_lex.proofs.Marks.{finds_empty}
use Rattle.verilog_lex.proofs.mark.mark_at.Goals as goal

pub returns-in-empty : goal.returns-in-empty
returns-in-empty c = finds_empty c.args.bytes.now (omega arith)
