use Rattle.std.proofs.Common.{rules}
use Rattle.verilog_parse.proofs.Members.{trees_view-append}
use Rattle.verilog_parse.proofs.expression.step.with_last.Goals as goal

pub returns : goal.returns
returns c = search (rules, trees_view-append)
